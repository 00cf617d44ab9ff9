use Rattle.tile_grid.specs.PlanQuestion.{named}
use Rattle.tile_grid.specs.TileGroups.{groups_in}
use Rattle.tile_grid.specs.Down.{EdgeTables, Down}
use Rattle.tile_grid.proofs.Cover.with_column.Given as goal

abbrev pub invariant-loop-y : goal.invariant-loop-y
invariant-loop-y l = EdgeTables (groups_in l.groups) l.x l.starts l.ends × Down l.columns l.rows (groups_in l.groups) l.x l.y l.tile l.count (named l.cover)
