use mathlib.Core.Path.{sym}
use Rattle.std.proofs.lemmas.Result.{err_from_is_err_and}
use Rattle.refusal.specs.Numbers.{refused}
use Rattle.grid_sizes.specs.Fronts.{grid_in}
use Rattle.pps_tables.specs.Lent.{slices_of}
use Rattle.question_tests.proofs.SlicingLaws.{stopped-before, uncoded, walks, before-passes, few-slices}
use Rattle.question_tests.proofs.slicing.slicing_refusal.Goals as goal

pub returns-in_err-before_loop : goal.returns-in_err-before_loop
unfolding refused
returns-in_err-before_loop c =
    let p = err_from_is_err_and c.from_residual.result c.from_residual.ensures.1 in
    rw (p.1, p.2) (stopped-before (grid_in c.args.sizes.now) c.args.p.now (slices_of c.args.slices) _ c.num_tiles.ensures _ c.in_err-before_loop.ensures)

pub walk_refusal-requires : goal.walk_refusal-requires
unfolding refused
walk_refusal-requires c =
    let pass = before-passes _ _ _ _ _ _ c.in_ok-before_loop.ensures in
    (c.column_widths.ensures.few, c.row_heights.ensures.few, few-slices _ _ _ _ _ _ (sym c.if-not-slices_coded.ensures) pass)

pub returns-then-not-slices_coded : goal.returns-then-not-slices_coded
unfolding refused
returns-then-not-slices_coded c =
    let pass = before-passes _ _ _ _ _ _ c.in_ok-before_loop.ensures in
    uncoded (grid_in c.args.sizes.now) c.args.p.now (slices_of c.args.slices) _ c.num_tiles.ensures pass (sym c.if-not-slices_coded.ensures)

pub returns : goal.returns
unfolding refused
returns c =
    let pass = before-passes _ _ _ _ _ _ c.in_ok-before_loop.ensures in
    walks (grid_in c.args.sizes.now) c.args.p.now (slices_of c.args.slices) _ c.num_tiles.ensures pass (sym c.if-not-slices_coded.ensures) _ (rw (c.column_widths.ensures.used, c.row_heights.ensures.used)) _ c.walk_refusal.ensures
