-- The partition block of a set, where there is one.
use Rattle.std.specs.Prelude.{ℕ, ◌≡◌, refl, List, [], ◌∷◌, Bool, true, false, cond, eqb, length, Result, Ok, Err, OnOk}
use Rattle.std.proofs.Common.{sym, ap, ◌∙◌, eq-eqb, ne_eqb}
use Rattle.std.proofs.lemmas.List.Edits.{sets}
use Rattle.refusal.specs.declared.Refusal.{Refusal}
use Rattle.bit_reader.specs.declared.BitReader.{BitReader}
use Rattle.bit_reader.specs.declared.Cursor.{Cursor}
use Rattle.bit_reader.specs.Gives.{Parsed, parsed, cursor_of, Gives, value_read, held_as}
use Rattle.refusal.specs.Numbers.{number}
use Rattle.bit_reader.specs.Reading.{refusal}
use Rattle.bit_reader.proofs.Gives.{given, given_back, refuses, refused_back, not-0}
use Rattle.pps_slices.specs.Loop.{slices_left}
use Rattle.pps_partition.specs.PartitionAnswer.{one_block, partition_left}
use Rattle.pps_partition.proofs.NothingLeft.{slices_accepted}
use Rattle.pps_record.specs.declared.VvcPpsPartition.{VvcPpsPartition}
use Rattle.pps_syntax.specs.FromRecord.{Lent}
use Rattle.pps_syntax.specs.PartitionSyntax.{PartitionBlock, partition}
use Rattle.pps_syntax.specs.Record.{partition_record}
use Rattle.pps_syntax.specs.SliceTables.{put_slices, all_split_heights}
use Rattle.syntax.specs.Elements.{or_else, one_if}
use Rattle.syntax.specs.Lists.{many, not-true}
use Rattle.syntax.specs.Syntax.{parse}
use Rattle.pps_read.specs.Block.{blocks_read, blocks_record, BlocksPut}

of_one : (W H : ℕ) (s : List ℕ) (c : Cursor) (b : Bool) → eqb (parse (partition W H) s c).next.refused 0 ≡ b
    → blocks_read true W H s c ≡ cond b (parsed ((parse (partition W H) s c).value ∷ []) (parse (partition W H) s c).next) (parsed [] (parse (partition W H) s c).next)
unfolding or_else many
of_one W H s c true e = rw e
of_one W H s c false e = rw e

-- one that was read
blocks-put : (b : PartitionBlock) (bs : List PartitionBlock) (t u : Lent) → bs ≡ b ∷ []
    → u.column_widths ≡ sets t.column_widths 0 b.pps_tile_column_width_minus1 → u.row_heights ≡ sets t.row_heights 0 b.pps_tile_row_height_minus1
    → u.slices ≡ put_slices t.slices 0 0 b.rect_slices → (length bs ≡ 1) × BlocksPut bs t u
blocks-put b bs t u e c r s = rw e (refl, record { columns = c; rows = r; slices = s })

module _ (W H : ℕ) {p q : BitReader} where
  block-is : {w : VvcPpsPartition} → Gives (held_as one_block (parse (partition W H))) p q (Ok w)
      → blocks_read true W H p.bytes.now (cursor_of p) ≡ parsed (value_read (parse (partition W H)) p ∷ []) (parse (partition W H) p.bytes.now (cursor_of p)).next
  block-is g =
      let zero : (parse (partition W H) p.bytes.now (cursor_of p)).next.refused ≡ 0 = ap (λ (y : Parsed VvcPpsPartition). y.next.refused) (sym (given_back g)) in
      of_one W H p.bytes.now (cursor_of p) true (eq-eqb _ 0 zero)

  answer-there : {x : Result VvcPpsPartition Refusal} → Gives (held_as one_block (parse (partition W H))) p q x → Gives (held_as blocks_record (blocks_read true W H)) p q x
  unfolding blocks_record
  answer-there {x = Ok w} g = given g.bytes (given_back g ∙ ap (λ (y : Parsed (List PartitionBlock)). parsed (blocks_record y.value) y.next) (sym (block-is g)))
  answer-there {x = Err e} g =
      let is : refusal (cursor_of q) (number e) ≡ (parse (partition W H) p.bytes.now (cursor_of p)).next = refused_back g in
      let shut = of_one W H p.bytes.now (cursor_of p) false (ne_eqb _ 0 (not-0 e q.bit_pos is)) in
      refuses g.bytes (is ∙ ap (λ (y : Parsed (List PartitionBlock)). y.next) (sym shut))

  -- with its condition
  pub block-answer : (on : Bool) {x : Result VvcPpsPartition Refusal} → on ≡ true → Gives (held_as one_block (parse (partition W H))) p q x
      → Gives (held_as blocks_record (blocks_read on W H)) p q x
  block-answer true o g = answer-there g
  block-answer false o g = absurd (not-true o)

  pub block-tables : (on : Bool) (t u : Lent) {x : Result VvcPpsPartition Refusal} → on ≡ true → Gives (held_as one_block (parse (partition W H))) p q x
      → u.column_widths ≡ sets t.column_widths 0 (value_read (parse (partition W H)) p).pps_tile_column_width_minus1
      → u.row_heights ≡ sets t.row_heights 0 (value_read (parse (partition W H)) p).pps_tile_row_height_minus1
      → u.slices ≡ slices_left t.slices 0 0 (value_read (parse (partition W H)) p).rect_slices (partition_left W H p.bytes.now (cursor_of p))
      → OnOk x ((length (value_read (blocks_read on W H) p) ≡ one_if on) × BlocksPut (value_read (blocks_read on W H) p) t u)
  block-tables true t u {x = Ok w} o g c r s =
      blocks-put (value_read (parse (partition W H)) p) (value_read (blocks_read true W H) p) t u (ap (λ (y : Parsed (List PartitionBlock)). y.value) (block-is g)) c r (slices_accepted W H g t.slices u.slices s)
  block-tables true t u {x = Err e} o g c r s = tt
  block-tables false t u o g c r s = absurd (not-true o)

-- none
pub none-answer : (on : Bool) (W H : ℕ) {p : BitReader} → on ≡ false → Gives (held_as blocks_record (blocks_read on W H)) p p (Ok (partition_record 0 []))
unfolding or_else blocks_record
none-answer false W H o = given refl refl
none-answer true W H o = absurd (not-true (sym o))

pub none-tables : (on : Bool) (W H : ℕ) (p : BitReader) (t : Lent) → on ≡ false
    → (length (value_read (blocks_read on W H) p) ≡ one_if on) × BlocksPut (value_read (blocks_read on W H) p) t t
unfolding or_else put_slices all_split_heights
none-tables false W H p t o = (refl, record { columns = refl; rows = refl; slices = refl })
none-tables true W H p t o = absurd (not-true (sym o))
