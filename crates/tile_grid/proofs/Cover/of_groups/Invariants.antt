use Rattle.partition.specs.Groups.{groups_at}
use Rattle.tile_grid.specs.PlanQuestion.{named}
use Rattle.tile_grid.specs.Seen.{RightSeen}
use Rattle.tile_grid.specs.TileGroups.{groups_in}
use Rattle.tile_grid.proofs.Cover.of_groups.Given as goal

abbrev pub invariant-loop-x : goal.invariant-loop-x
invariant-loop-x l = RightSeen l.columns l.rows (groups_at (groups_in l.groups)) l.x 0 (named l.cover)
