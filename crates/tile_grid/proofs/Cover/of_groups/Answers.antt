use native.Mathlib.Omega.{arith}
use Rattle.tile_grid.specs.PlanQuestion.{named}
use Rattle.tile_grid.specs.Seen.{seen_none, seen_end, seen_all}
use Rattle.tile_grid.proofs.Cover.of_groups.Goals as goal

pub loop-x-init : goal.loop-x-init
unfolding named
loop-x-init c = seen_none _ _ _

pub returns : goal.returns
returns c = seen_all _ _ _ c.requires.some _ (seen_end _ _ _ _ _ (omega arith) (omega arith) c.loop-x.invariant)
