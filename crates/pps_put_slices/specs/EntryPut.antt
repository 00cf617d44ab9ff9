-- An entry of the slice loop that was written.
use Rattle.std.specs.Prelude.{ℕ, ◌≡◌, List, Bool, Result, IfOk}
use Rattle.refusal.specs.declared.Refusal.{Refusal}
use Rattle.bit_writer.specs.Writing.{Writing}
use Rattle.bit_writer.specs.Stop.{play_on}
use Rattle.partition.specs.Entry.{Position}
use Rattle.partition.specs.Grid.{Grid}
use Rattle.partition.specs.Walk.{onward}
use Rattle.slice_loop.specs.declared.LoopPosition.{LoopPosition}
use Rattle.slice_loop.specs.Loop.{Follows}
use Rattle.syntax.specs.Syntax.{symbols_for}
use Rattle.pps_syntax.specs.SliceSyntax.{RectSlice, entry_of, rect_slice}
use Rattle.pps_tables.specs.declared.RectSliceEntry.{RectSliceEntry}

-- an entry by its row, with its split heights
abbrev pub rect_slice_of : RectSliceEntry → List ℕ → RectSlice
rect_slice_of e heights =
    record {
      pps_slice_width_in_tiles_minus1 = e.width;
      pps_slice_height_in_tiles_minus1 = e.height;
      split_present = e.split_present;
      pps_exp_slice_height_in_ctus_minus1 = heights;
      delta_present = e.delta_present;
      pps_tile_idx_delta_val = e.delta;
    }

-- From w to v the entry is put; unless that is refused, the answer is where the next one stands.
pub record EntryPut (g : Grid) (deltas : Bool) (N : ℕ) (k : Position) (e : RectSlice) (w v : Writing) (r : Result LoopPosition Refusal) : Type 0 where
  pub put : v ≡ play_on w (symbols_for (rect_slice g deltas N k) e)
  pub follows : IfOk r (λ n. Follows N n.slice.0 n.tile.0 (onward g deltas k (entry_of e)) × (n.preceding_height ≡ e.pps_slice_height_in_tiles_minus1))
