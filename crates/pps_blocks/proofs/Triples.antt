-- The list of triples, as the chroma block has it.
use Rattle.std.specs.Prelude.{ℕ, suc, ◌+◌, ◌≡◌, List, Bool, cond, length, Ok, Err}
use Rattle.refusal.specs.declared.Refusal.{Refusal}
use Rattle.bit_reader.specs.declared.BitReader.{BitReader}
use Rattle.bit_reader.specs.Gives.{cursor_of, Gives, value_read, held_as}
use Rattle.bit_reader.proofs.Gives.{same-read, held_back, held-none_back}
use Rattle.pps_record.specs.declared.VvcQpOffsets.{VvcQpOffsets}
use Rattle.pps_syntax.specs.Chroma.{ChromaToolOffsets, triple_element}
use Rattle.pps_syntax.specs.Record.{chroma_of, triples_of}
use Rattle.syntax.specs.Elements.{or_else}
use Rattle.syntax.specs.Lists.{many, none}
use Rattle.pps_fields.specs.ListReads.{many-counted}
use Rattle.pps_blocks.specs.Triples.{block_of}

module _ (on with_joint : Bool) (n : ℕ) {count : ℕ} {p q : BitReader} (h : count ≡ cond on (n + 1) 0) where
  pub triples-coded : {ts : List VvcQpOffsets} → Gives (held_as triples_of (many count (triple_element with_joint) 21).read) p q (Ok ts)
      → Gives (or_else on (many (suc n) (triple_element with_joint) 21) (none 0)).read p q (Ok (value_read (many count (triple_element with_joint) 21).read p))
  triples-coded g = same-read (many-counted on n count (triple_element with_joint) 21 0 p.bytes.now (cursor_of p) h) (held_back triples_of {read = (many count (triple_element with_joint) 21).read} g)

  pub triples-refused : {e : Refusal} → Gives (held_as triples_of (many count (triple_element with_joint) 21).read) p q (Err e)
      → Gives (or_else on (many (suc n) (triple_element with_joint) 21) (none 0)).read p q (Err e)
  triples-refused g = same-read (many-counted on n count (triple_element with_joint) 21 0 p.bytes.now (cursor_of p) h) (held-none_back triples_of {read = (many count (triple_element with_joint) 21).read} g)

pub block-made : (v : ChromaToolOffsets) {n : ℕ} {ts : List VvcQpOffsets} → length v.list ≡ n → triples_of v.list ≡ ts → record { block = record (chroma_of v) { cu_chroma_qp_offset_list_len = n }; triples = ts } ≡ block_of v
block-made v e f = rw (← e, ← f)
