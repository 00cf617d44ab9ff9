-- The invariant is `Counting`: what remains of the axis, and the last explicit size so far.
use Rattle.tile_sizes.proofs.Count.{Counting}
use Rattle.tile_sizes.proofs.count_sizes.Given as goal

abbrev pub invariant-loop-e : goal.invariant-loop-e
invariant-loop-e l = Counting l.exp_minus1 l.initial.remaining l.remaining l.uniform l.e-index
