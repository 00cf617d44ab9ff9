-- The writing at the start, the partition block where a record has one, and the whole set of a record.
use Rattle.std.specs.Prelude.{ℕ, ◌≡◌, refl, Bool, true, false, eqb}
use Rattle.std.proofs.Common.{sym, ap, ◌∙◌}
use mathlib.Core.List.{List, [], ◌∷◌, ◌++◌, append-nil}
use Rattle.std.specs.Bool.{beq}
use Rattle.std.proofs.lemmas.List.Edits.{sets}
use Rattle.codes.specs.Symbols.{Symbol, check, check-none}
use Rattle.bit_writer.specs.declared.Sink.{Sink}
use Rattle.bit_writer.specs.Writing.{Writing, sink_over, fresh}
use Rattle.bit_writer.specs.Stop.{play_on, on_none, on_then}
use Rattle.pps_record.specs.declared.VvcPps.{VvcPps}
use Rattle.pps_record.specs.declared.VvcPpsPartition.{VvcPpsPartition}
use Rattle.pps_record.specs.declared.VvcQpOffsets.{VvcQpOffsets}
use Rattle.pps_syntax.specs.FromRecord.{Lent, block_from, partition_from, front_from, back_from, set_from, extension_from}
use Rattle.pps_syntax.specs.PartitionSyntax.{PartitionBlock, partition}
use Rattle.pps_syntax.specs.Pps.{front, back}
use Rattle.pps_syntax.specs.Written.{extension_symbols, set_symbols}
use Rattle.pps_write.specs.SetPut.{block_symbols, partition_symbols, set_parts}
use Rattle.syntax.specs.Element.{Element}
use Rattle.syntax.specs.Elements.{or_else, or-false, is_set}
use Rattle.syntax.specs.Lists.{many, none}
use Rattle.syntax.specs.Syntax.{symbols_for}

-- ---- at the start: a NAL unit begins with the two bytes of its header (nal_unit_type 16)
unfoldable pub begun : Bool → List ℕ → Writing
begun true o = sink_over (fresh true 2) (sets o 0 (0x00 ∷ 0x81 ∷ []))
begun false o = sink_over (fresh false 0) o

-- ---- the block
none-nothing : {A : Type 0} (l : List A) → (none 0).symbols l ≡ []
none-nothing [] = refl
none-nothing (x ∷ l) = check-none false

-- the record has a block where the picture is partitioned
there : (b : Bool) → beq b true ≡ true → b ≡ true
there true e = e
there false e = e

module _ (W H : ℕ) (p : VvcPpsPartition) (t : Lent) (parted : Bool) where
  -- behind the test of its presence
  pub block-tested : (w : Writing) {a v : Writing} → a ≡ play_on w (check (beq (is_set p.present) parted) 26) → v ≡ play_on a (block_symbols parted W H (partition_from p t))
      → v ≡ play_on w (partition_symbols parted W H p.present (partition_from p t))
  block-tested w q h = on_then w (check (beq (is_set p.present) parted) 26) (block_symbols parted W H (partition_from p t)) q h

  -- the block ..
  pub block-put : (a : Writing) {v : Writing} → parted ≡ true → beq (is_set p.present) parted ≡ true → v ≡ play_on a (symbols_for (partition W H) (block_from p t))
      → v ≡ play_on a (block_symbols parted W H (partition_from p t))
  unfolding or_else many partition_from
  block-put a e q h =
      let s : is_set p.present ≡ true = there (is_set p.present) (rw e at q) in
      rw (e, s) (h ∙ ap (play_on a) (sym (append-nil (symbols_for (partition W H) (block_from p t)))))

  -- .. or none where the picture is not partitioned
  pub block_none : (a : Writing) → parted ≡ false → a ≡ play_on a (block_symbols parted W H (partition_from p t))
  block_none a e =
      let rest : block_symbols parted W H (partition_from p t) ≡ [] =
      ap (λ (x : Element (List PartitionBlock)). x.symbols (partition_from p t)) (or-false parted _ _ e) ∙ none-nothing (partition_from p t) in
      sym (ap (play_on a) rest ∙ on_none a)

-- ---- the set
module _ (r : VvcPps) (triples : List VvcQpOffsets) (t : Lent) (bytes : List ℕ) where
  abbrev pub set_of : List Symbol
  set_of = set_symbols (set_from r triples t) (extension_from r bytes)

  abbrev parted : Bool
  parted = eqb r.pps_no_pic_partition_flag 0

  abbrev pub fronts : List Symbol
  fronts = symbols_for front (front_from r t.subpic_ids)

  abbrev pub blocks : List Symbol
  blocks = partition_symbols parted r.pps_pic_width_in_luma_samples r.pps_pic_height_in_luma_samples r.partition.present (partition_from r.partition t)

  abbrev pub backs : List Symbol
  backs = symbols_for (back parted) (back_from r triples)

  abbrev pub extensions : List Symbol
  extensions = extension_symbols r.pps_extension_flag (extension_from r bytes)

  pub set-listed : (w : Writing) {v : Writing} → v ≡ play_on w (fronts ++ (blocks ++ (backs ++ extensions))) → v ≡ play_on w set_of
  unfolding set_from partition_from
  set-listed w h = h ∙ ap (play_on w) (sym (set_parts (set_from r triples t) (extension_from r bytes)))

-- ---- what it is at the start
pub begun-nal : (nal : Bool) (o : List ℕ) {x : Writing} → nal ≡ true → x ≡ sink_over (fresh true 2) (sets o 0 (0x00 ∷ 0x81 ∷ [])) → x ≡ begun nal o
unfolding begun
begun-nal nal o e h = rw e h

pub begun_plain : (nal : Bool) (o : List ℕ) {x : Sink} → nal ≡ false → x ≡ fresh false 0 → sink_over x o ≡ begun nal o
unfolding begun
begun_plain nal o e h = rw (e, h)
