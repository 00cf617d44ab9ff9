-- The invariant is `Filling`: the sizes written so far and those left are all of them.
use Rattle.partition.specs.Sizes.{axis_sizes}
use Rattle.grid_sizes.proofs.Fill.{Filling}
use Rattle.grid_sizes.proofs.sizes.sizes_into.Given as goal

abbrev pub invariant-loop-j : goal.invariant-loop-j
invariant-loop-j l = Filling l.exp_minus1 (axis_sizes l.exp_minus1 l.initial.remaining) l.uniform l.initial.out l.out l.remaining l.j
