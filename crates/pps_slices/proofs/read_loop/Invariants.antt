-- `Held`, for each grid that the loop may go over.
use Rattle.std.proofs.Common.{◌-◌}
use Rattle.partition.specs.Grid.{Grid}
use Rattle.slice_loop.specs.Loop.{LoopOver}
use Rattle.pps_tables.specs.LentMut.{slices_now, SameSlices}
use Rattle.pps_slices.proofs.Held.{Held}
use Rattle.pps_slices.proofs.read_loop.Given as goal

abbrev pub invariant-loop-ctx : goal.invariant-loop-ctx
invariant-loop-ctx l = SameSlices l.initial.tables l.tables × ((g : Grid) → LoopOver l.ctx l.row_heights g
    → Held g l.ctx.delta_present l.ctx.num_slices_minus1.0 l.fn.r (slices_now l.initial.tables) (slices_now l.tables) l.r l.at l.count l.from)

abbrev pub decreases-loop-ctx : goal.decreases-loop-ctx
decreases-loop-ctx l = l.ctx.num_slices_minus1.0 - l.count
