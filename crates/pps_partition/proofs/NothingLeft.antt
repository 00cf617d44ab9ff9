-- Where the block is accepted no entry of the slice loop was refused, so that nothing but the entries is in the tables.
use Rattle.std.specs.Prelude.{ℕ, ◌≡◌, List, [], Bool, true, false, cond, eqb, Ok, refl}
use Rattle.std.proofs.Common.{sym, ap, ◌∙◌, eqb-true}
use Rattle.std.proofs.lemmas.Bool.{eqb-false}
use Rattle.bit_reader.specs.declared.BitReader.{BitReader}
use Rattle.bit_reader.specs.declared.Cursor.{Cursor}
use Rattle.bit_reader.specs.Gives.{Parsed, cursor_of, Gives, held_as, value_read}
use Rattle.partition.specs.Entry.{first_position}
use Rattle.partition.specs.Grid.{Grid}
use Rattle.pps_record.specs.declared.VvcPpsPartition.{VvcPpsPartition}
use Rattle.pps_syntax.specs.PartitionSyntax.{PartitionBlock, partition}
use Rattle.pps_syntax.specs.SliceFlags.{SliceFlags, codes}
use Rattle.pps_syntax.specs.SliceSyntax.{RectSlice, rect_slices}
use Rattle.pps_syntax.specs.SliceTables.{SliceTables, put_slices}
use Rattle.refusal.specs.Numbers.{refused}
use Rattle.syntax.specs.Element.{Element}
use Rattle.syntax.specs.Elements.{or_else, is_set}
use Rattle.syntax.specs.Lists.{none}
use Rattle.syntax.specs.Syntax.{parse, ◌>>=◌}
use Rattle.pps_slices.specs.Loop.{slices_left, refused_heights}
use Rattle.pps_slices.proofs.NothingLeft.{slices-none}
use Rattle.pps_slices.proofs.Turns.{left-none}
use Rattle.pps_partition.specs.PartitionAnswer.{one_block, partition_left}
use Rattle.pps_partition.specs.SliceFlags.{slice_flags}
use Rattle.pps_partition.specs.Slicing.{coded_slices, coded_left, across_slices, slicing, slicing_left}
use Rattle.pps_partition.specs.TileSizes.{tile_sizes, grid_from}
use Rattle.pps_partition.specs.GridTests.{grid_tested}
use Rattle.pps_partition.proofs.Slices.{flags_read, left_at}
use Rattle.pps_partition.proofs.Whole.{sliced_at, splits}

-- an element that refused nothing began where no refusal was
going : {A : Type 0} (e : Element A) (s : List ℕ) (c : Cursor) → (e.read s c).next.refused ≡ 0 → c.refused ≡ 0
going e s c h = cases (eqb c.refused 0) refl
  where
    cases : (b : Bool) → eqb c.refused 0 ≡ b → c.refused ≡ 0
    cases true q = eqb-true c.refused 0 q
    cases false q = sym (ap (λ (x : Cursor). x.refused) (e.stuck refl s c (eqb-false c.refused 0 q))) ∙ h

coded_none : (g : Grid) (f : SliceFlags) (s : List ℕ) (c : Cursor) → ((coded_slices g f).read s c).next.refused ≡ 0 → coded_left g f s c ≡ []
unfolding coded_left or_else
coded_none g f s c h = cases (codes f) h
  where
    deltas : Bool
    deltas = is_set f.pps_tile_idx_delta_present_flag

    N : ℕ
    N = f.pps_num_slices_in_pic_minus1

    cases : (b : Bool) → ((or_else b (rect_slices g deltas N first_position) (none 26)).read s c).next.refused ≡ 0 → cond b (refused_heights g deltas N first_position s c) [] ≡ []
    cases true z = slices-none g deltas N s first_position c z
    cases false z = refl

slicing_none : (g : Grid) (s : List ℕ) (c : Cursor) → (parse (slicing g) s c).next.refused ≡ 0 → slicing_left g s c ≡ []
unfolding slicing slice_flags parse ◌>>=◌
slicing_none g s c h =
    let f = (flags_read g s c).value in
    let d = (flags_read g s c).next in
    left_at g s c ∙ coded_none g f s d (going (across_slices f) s ((coded_slices g f).read s d).next h)

pub nothing_left : (W H : ℕ) (s : List ℕ) (c : Cursor) → (parse (partition W H) s c).next.refused ≡ 0 → partition_left W H s c ≡ []
unfolding partition_left sliced_at
nothing_left W H s c h =
    let t = parse (tile_sizes W H) s c in
    slicing_none (grid_from W H t.value) s (grid_tested W H t.value t.next) (sym (ap (λ (b : Parsed PartitionBlock). b.next.refused) (splits W H s c)) ∙ h)

-- so an accepted block's slices are put, and nothing else
pub slices_accepted : (W H : ℕ) {p q : BitReader} {v : VvcPpsPartition} → Gives (held_as one_block (parse (partition W H))) p q (Ok v) → (t u : SliceTables)
    → u ≡ slices_left t 0 0 (value_read (parse (partition W H)) p).rect_slices (partition_left W H p.bytes.now (cursor_of p))
    → u ≡ put_slices t 0 0 (value_read (parse (partition W H)) p).rect_slices
unfolding refused
slices_accepted W H {p} g t u e =
    let rs : List RectSlice = (value_read (parse (partition W H)) p).rect_slices in
    e ∙ ap (slices_left t 0 0 rs) (nothing_left W H p.bytes.now (cursor_of p) (ap (λ (x : Cursor). x.refused) g.next)) ∙ left-none t 0 0 rs
