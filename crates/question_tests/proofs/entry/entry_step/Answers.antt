use Rattle.std.proofs.lemmas.Result.{err_from_is_err_and}
use Rattle.refusal.specs.Numbers.{refused}
use Rattle.question_tests.proofs.StepLaws.{by-sizes, by-inherited, by-splits, by-moves, steps}
use Rattle.question_tests.proofs.entry.entry_step.Goals as goal

pub returns-in_err-size_refusal : goal.returns-in_err-size_refusal
unfolding refused
returns-in_err-size_refusal c =
    let p = err_from_is_err_and c.from_residual.result c.from_residual.ensures.1 in
    rw (p.1, p.2, ← c.row_height-row.ensures) (by-sizes _ _ _ _ _ _ _ _ c.args.e _ _ (c.in_err-size_refusal.ensures _))

pub returns-in_err-inherited_refusal : goal.returns-in_err-inherited_refusal
unfolding refused
returns-in_err-inherited_refusal c =
    let p = err_from_is_err_and c.from_residual-in_err-inherited_refusal.result c.from_residual-in_err-inherited_refusal.ensures.1 in
    rw (p.1, p.2, ← c.row_height-row.ensures) (by-inherited _ _ _ _ _ _ _ _ c.args.e _ (c.in_ok-size_refusal.ensures _) _ (c.in_err-inherited_refusal.ensures _))

pub returns-in_err-slices : goal.returns-in_err-slices
unfolding refused
returns-in_err-slices c =
    let p = err_from_is_err_and c.from_residual-in_err-slices.result c.from_residual-in_err-slices.ensures.1 in
    rw (p.1, p.2, ← c.row_height-row.ensures) (by-splits _ _ _ _ _ _ _ _ c.args.e _ (c.in_ok-size_refusal.ensures _) (c.in_ok-inherited_refusal.ensures _) _ c.in_err-slices.ensures.number)

pub returns-in_err-tile : goal.returns-in_err-tile
unfolding refused
returns-in_err-tile c =
    let p = err_from_is_err_and c.from_residual-in_err-tile.result c.from_residual-in_err-tile.ensures.1 in
    rw (p.1, p.2, ← c.row_height-row.ensures)
    (by-moves _ _ _ _ _ _ _ _ c.args.e _ (c.in_ok-size_refusal.ensures _) (c.in_ok-inherited_refusal.ensures _) c.in_ok-slices.ensures.number _ c.in_ok-slices.ensures.slices _ (rw c.has_slice.ensures at (c.in_err-tile.ensures.number c.args.heights.now)))

pub returns : goal.returns
unfolding refused
returns c =
    rw (← c.row_height-row.ensures)
    (steps _ _ _ _ _ _ _ _ c.args.e _ (c.in_ok-size_refusal.ensures _) (c.in_ok-inherited_refusal.ensures _) c.in_ok-slices.ensures.number _ c.in_ok-slices.ensures.slices _ (rw c.has_slice.ensures at (c.in_ok-tile.ensures.number c.args.heights.now)) (rw c.has_slice.ensures at (c.in_ok-tile.ensures.tile c.args.heights.now)))
