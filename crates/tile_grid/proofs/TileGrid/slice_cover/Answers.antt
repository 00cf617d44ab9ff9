use mathlib.Core.Path.{sym}
use Rattle.std.proofs.Common.{◌∙◌}
use Rattle.tile_grid.specs.Answers.{number_at_exit}
use Rattle.tile_grid.specs.Covered.{cover-refused, cover-none, some-accepted, groups-within, cover-ready, cover-some}
use Rattle.refusal.specs.Answers.{with_number}
use Rattle.tile_grid.proofs.TileGrid.slice_cover.Goals as goal

pub returns-in_err-sizes : goal.returns-in_err-sizes
unfolding with_number
returns-in_err-sizes c = rw (number_at_exit _ _ c.from_residual.ensures.1) (cover-refused _ _ c.in_err-sizes.ensures.grid)

pub returns-then-not-has_slices : goal.returns-then-not-has_slices
unfolding with_number
returns-then-not-has_slices c = cover-none _ _ _ c.in_ok-sizes.ensures.grid (sym c.has_slices.ensures ∙ c.if-not-has_slices.true)

pub accepted_slices-placed-requires : goal.accepted_slices-placed-requires
unfolding with_number
accepted_slices-placed-requires c = some-accepted _ _ _ c.in_ok-sizes.ensures.grid (sym c.has_slices.ensures ∙ c.if-not-has_slices.false) c.in_ok-sizes.ensures.sums

pub shared_ref_as_front-groups : goal.shared_ref_as_front-groups
unfolding with_number
shared_ref_as_front-groups c = groups-within _ _ _ c.in_ok-sizes.ensures.grid (sym c.has_slices.ensures ∙ c.if-not-has_slices.false) c.in_ok-sizes.ensures.sums _ c.accepted_slices-placed.ensures

pub of_groups-cover-requires : goal.of_groups-cover-requires
unfolding with_number
of_groups-cover-requires c = cover-ready _ _ _ c.in_ok-sizes.ensures.grid (sym c.has_slices.ensures ∙ c.if-not-has_slices.false) c.in_ok-sizes.ensures.sums _ c.accepted_slices-placed.ensures

pub returns : goal.returns
unfolding with_number
returns c = cover-some _ _ _ c.in_ok-sizes.ensures.grid (sym c.has_slices.ensures ∙ c.if-not-has_slices.false) c.in_ok-sizes.ensures.sums _ c.accepted_slices-placed.ensures _ c.of_groups-cover.ensures
