use Rattle.tile_grid.specs.Starts.{Starting}
use Rattle.tile_grid.proofs.starts.starts_of.Given as goal

abbrev pub invariant-loop-i : goal.invariant-loop-i
invariant-loop-i l = Starting l.sizes l.at l.total l.i
