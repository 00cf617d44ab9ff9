use Rattle.std.proofs.Common.{ap, ◌∙◌}
use Rattle.tile_grid.specs.Answers.{as_tile_grid, grid_answer, number_at_exit}
use Rattle.refusal.specs.Answers.{with_number}
use Rattle.tile_grid.proofs.TileGrid.new.Goals as goal

pub returns-in_err-sizes : goal.returns-in_err-sizes
unfolding with_number as_tile_grid grid_answer
returns-in_err-sizes c = number_at_exit _ _ c.from_residual.ensures.1 ∙ ap as_tile_grid c.in_err-sizes.ensures

pub returns : goal.returns
unfolding with_number as_tile_grid grid_answer
returns c = ap as_tile_grid c.in_ok-sizes.ensures
