-- The slice entries of a set fit their tables: no more entries than slices that are not the last, and no more split heights in all than slices.
use Prim.Native.Nat.{ℕ, suc, ◌+◌, ◌-◌, ◌≤◌}
use Rattle.std.specs.Prelude.{Bool}
use mathlib.Core.List.{List}
use Rattle.std.proofs.Math.ListN.{length}
use Rattle.partition.specs.Entry.{Position}
use Rattle.partition.specs.Grid.{Grid}
use Rattle.partition.specs.Walk.{onward}
use Rattle.pps_syntax.specs.SliceSyntax.{RectSlice, entry_of}
use Rattle.pps_syntax.specs.SliceTables.{all_split_heights}

module _ (g : Grid) (deltas : Bool) (N : ℕ) where
  -- an entry: its split heights are no more than its slices, which end at slice N
  pub record EntryFits (k : Position) (r : RectSlice) : Type 0 where
    pub heights : k.slice + length r.pps_exp_slice_height_in_ctus_minus1 ≤ (onward g deltas k (entry_of r)).slice
    pub inside : (onward g deltas k (entry_of r)).slice ≤ suc N

  -- the loop
  pub record SlicesFit (k : Position) (rs : List RectSlice) : Type 0 where
    pub entries : length rs ≤ N - k.slice
    pub heights : k.slice ≤ suc N → k.slice + length (all_split_heights rs) ≤ suc N
