use mathlib.Core.Path.{sym}
use Rattle.std.proofs.Common.{◌∙◌}
use Rattle.tile_grid.specs.Answers.{number_at_exit}
use Rattle.tile_grid.specs.Covered.{plan-refused, plan-none, some-accepted, plan-some}
use Rattle.refusal.specs.Answers.{with_number}
use Rattle.tile_grid.specs.Rects.{table_with, plan_with}
use Rattle.tile_grid.proofs.TileGrid.slice_plan.Goals as goal

pub returns-in_err-grid : goal.returns-in_err-grid
unfolding with_number
returns-in_err-grid c = number_at_exit _ _ c.from_residual.ensures.1 ∙ plan-refused _ _ c.in_err-grid.ensures.grid

pub returns-then-not-has_slices : goal.returns-then-not-has_slices
unfolding with_number plan_with table_with
returns-then-not-has_slices c = plan-none _ _ _ c.in_ok-grid.ensures.grid (sym c.has_slices.ensures ∙ c.if-not-has_slices.true)

pub accepted_slices-placed-requires : goal.accepted_slices-placed-requires
unfolding with_number
accepted_slices-placed-requires c = some-accepted _ _ _ c.in_ok-grid.ensures.grid (sym c.has_slices.ensures ∙ c.if-not-has_slices.false) c.in_ok-grid.ensures.sums

pub returns : goal.returns
unfolding with_number
returns c = plan-some _ _ _ c.in_ok-grid.ensures.grid (sym c.has_slices.ensures ∙ c.if-not-has_slices.false) c.in_ok-grid.ensures.sums _ c.accepted_slices-placed.ensures
