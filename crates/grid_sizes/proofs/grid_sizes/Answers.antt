-- Each way out of `grid_sizes` is a law over plain numbers; the answers of the three parts of the list are handed over.
use Rattle.std.proofs.lemmas.Result.{err_from_is_err_and}
use Rattle.refusal.specs.Numbers.{refused}
use Rattle.grid_sizes.proofs.GridChecks.{refused_9, refused-explicit, refused-columns, refused-rows, some-column, columns-fit, rows_fit, accepted}
use Rattle.grid_sizes.proofs.grid_sizes.Goals as goal

pub returns-then-log2_ctu_size_minus5-gt2 : goal.returns-then-log2_ctu_size_minus5-gt2
returns-then-log2_ctu_size_minus5-gt2 c = refused_9 _ _ _ _ _ c.if-log2_ctu_size_minus5-gt2.true

pub returns-in_err-explicit_refusal : goal.returns-in_err-explicit_refusal
unfolding refused
returns-in_err-explicit_refusal c =
    let p = err_from_is_err_and c.from_residual.result c.from_residual.ensures.1 in
    rw (p.1, p.2) (refused-explicit _ _ _ _ _ _ _ c.in_ctbs-width.ensures c.in_ctbs-height.ensures c.if-log2_ctu_size_minus5-gt2.false _ c.in_err-explicit_refusal.ensures)

pub returns-in_err-columns : goal.returns-in_err-columns
unfolding refused
returns-in_err-columns c =
    let p = err_from_is_err_and c.from_residual-in_err-columns.result c.from_residual-in_err-columns.ensures.1 in
    rw (p.1, p.2) (refused-columns _ _ _ _ _ _ _ c.in_ctbs-width.ensures c.in_ctbs-height.ensures c.if-log2_ctu_size_minus5-gt2.false c.in_ok-explicit_refusal.ensures _ c.in_err-columns.ensures.number)

pub nonzero_div-columns : goal.nonzero_div-columns
unfolding refused
nonzero_div-columns c = some-column _ _ _ _ _ _ _ c.in_ctbs-width.ensures c.in_ctbs-height.ensures c.if-log2_ctu_size_minus5-gt2.false c.in_ok-explicit_refusal.ensures _ c.in_ok-columns.ensures.number c.in_ok-columns.ensures.count

pub returns-in_err-rows : goal.returns-in_err-rows
unfolding refused
returns-in_err-rows c =
    let p = err_from_is_err_and c.from_residual-in_err-rows.result c.from_residual-in_err-rows.ensures.1 in
    rw (p.1, p.2) (refused-rows _ _ _ _ _ _ _ c.in_ctbs-width.ensures c.in_ctbs-height.ensures c.if-log2_ctu_size_minus5-gt2.false c.in_ok-explicit_refusal.ensures _ c.in_ok-columns.ensures.number c.in_ok-columns.ensures.count _ c.in_err-rows.ensures.number)

pub accepted_sizes-requires : goal.accepted_sizes-requires
unfolding refused
accepted_sizes-requires c = (
  columns-fit _ _ _ _ _ _ _ c.in_ctbs-width.ensures c.in_ctbs-height.ensures c.if-log2_ctu_size_minus5-gt2.false c.in_ok-explicit_refusal.ensures _ c.in_ok-columns.ensures.number c.in_ok-columns.ensures.count,
  rows_fit _ _ _ _ _ _ _ c.in_ctbs-width.ensures c.in_ctbs-height.ensures c.if-log2_ctu_size_minus5-gt2.false c.in_ok-explicit_refusal.ensures _ c.in_ok-columns.ensures.number c.in_ok-columns.ensures.count _ c.in_ok-rows.ensures.number c.in_ok-rows.ensures.count,
)

pub returns : goal.returns
unfolding refused
returns c = accepted _ _ _ _ _ _ _ c.in_ctbs-width.ensures c.in_ctbs-height.ensures c.if-log2_ctu_size_minus5-gt2.false c.in_ok-explicit_refusal.ensures _ c.in_ok-columns.ensures.number c.in_ok-columns.ensures.count _ c.in_ok-rows.ensures.number c.in_ok-rows.ensures.count _ c.accepted_sizes.ensures
