use Rattle.tile_grid.specs.Stacking.{Stacking}
use Rattle.tile_grid.proofs.stack.stack.Given as goal

abbrev pub invariant-loop-remaining : goal.invariant-loop-remaining
invariant-loop-remaining l = Stacking l.heights_minus1 l.block.left.0 l.block.width.0 l.initial.top l.initial.remaining l.initial.slices l.initial.k l.slices l.remaining l.top l.k l.j

abbrev pub decreases-loop-remaining : goal.decreases-loop-remaining
decreases-loop-remaining l = l.remaining
