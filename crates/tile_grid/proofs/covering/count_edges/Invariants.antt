use Rattle.tile_grid.specs.Marking.{Counting}
use Rattle.tile_grid.proofs.covering.count_edges.Given as goal

abbrev pub invariant-loop-g : goal.invariant-loop-g
invariant-loop-g l = Counting l.groups l.x l.initial.starts l.initial.ends l.starts l.ends l.g-index
