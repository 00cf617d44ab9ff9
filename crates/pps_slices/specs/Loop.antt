-- The slice loop (H.266 7.3.2.5), read into the lent tables: entry i goes to row i, its explicit slice heights behind
-- those of the entries before it. What a refusal leaves there.
use Rattle.std.specs.Prelude.{ℕ, zero, suc, List, [], ◌++◌, map, Bool, cond, eqb, ltb}
use Rattle.std.proofs.lemmas.List.Edits.{sets}
use Rattle.bit_reader.specs.declared.Cursor.{Cursor}
use Rattle.bit_reader.specs.Gives.{Parsed}
use Rattle.partition.specs.Entry.{Position}
use Rattle.partition.specs.Grid.{Grid}
use Rattle.partition.specs.Walk.{onward}
use Rattle.syntax.specs.Syntax.{parse}
use Rattle.pps_syntax.specs.SliceSyntax.{RectSlice, entry_of, rect_slice}
use Rattle.pps_syntax.specs.SliceTables.{SliceTables, row_of, all_split_heights}

-- The tables after entries were put from place i on, their split heights from place j on, and behind these heights
-- `left`.
unfoldable pub slices_left : SliceTables → ℕ → ℕ → List RectSlice → List ℕ → SliceTables
slices_left t i j rs left = record { entries = sets t.entries i (map row_of rs); split_heights = sets t.split_heights j (all_split_heights rs ++ left) }

module _ (g : Grid) (deltas : Bool) (N : ℕ) where
  -- The explicit slice heights of the entry at which reading is refused; they are in the table before the entry's later
  -- tests.
  unfoldable pub refused_from : ℕ → Position → List ℕ → Cursor → List ℕ
  refused_from zero k s c = []
  refused_from (suc fuel) k s c =
      let r : Parsed RectSlice = parse (rect_slice g deltas N k) s c in
      cond (ltb k.slice N)
      (cond (eqb r.next.refused 0) (refused_from fuel (onward g deltas k (entry_of r.value)) s r.next) r.value.pps_exp_slice_height_in_ctus_minus1)
      []

  unfoldable pub refused_heights : Position → List ℕ → Cursor → List ℕ
  refused_heights k s c = refused_from N k s c
