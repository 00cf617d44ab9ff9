-- A signed argument reaches a callee through its 32 bits and back, hence `to_z-of_z`.
use borrow.Author.Rules.{rules}
use mathlib.Core.Path.{◌≡◌, refl, ◌∙◌}
use Prim.Native.Nat.{◌*◌}
use mir.Facts.{to_z-of_z}
use mir.Syntax.{w32}
use mir.Val.{SFits, to_z, of_z}
use Rattle.refusal.specs.Numbers.{number}
use Rattle.bit_writer.specs.Stop.{on_then}
use Rattle.bit_writer.proofs.Ended.{at_err, stopped_at}
use Rattle.pps_put_slices.proofs.MovePut.{delta-refused, delta-fine, delta-moved, by-delta, on-walk, at-end, contradicted, tile-by, tile-on}
use Rattle.pps_put_slices.proofs.parts.put_move.Goals as goal
use Rattle.pps_put_slices.proofs.parts.put_move.Goals.{Then-coded}

delta-kept : (c : Then-coded) → to_z w32 (of_z w32 c.args.e.delta) ≡ c.args.e.delta
delta-kept c = let f : SFits w32 c.args.e.delta = search rules in to_z-of_z f

pub returns-in_err-test-clause-put : goal.returns-in_err-test-clause-put
unfolding number
returns-in_err-test-clause-put c =
    contradicted _ _ _ _ _ _ _ _ _ _ c.slices_to_come-more.ensures _ (c.in_err-test.ensures.put _ _) (stopped_at _ _ _ _ _ c.from_residual.ensures.1)

pub returns-in_err-put_se-clause-put : goal.returns-in_err-put_se-clause-put
unfolding number
returns-in_err-put_se-clause-put c =
    let d = delta-kept (goal.at.returns-in_err-put_se-clause-put c).Then-coded in
    by-delta _ _ _ _ _ _ _ _ _ _ c.slices_to_come-more.ensures _ c.if-coded.true (c.in_ok-test.ensures.put _ _)
    (on_then _ _ _ (rw d at c.in_err-put_se.ensures) (stopped_at _ _ _ _ _ c.from_residual-in_err-put_se.ensures.1))

pub returns-in_err-tile-clause-put : goal.returns-in_err-tile-clause-put
unfolding number
returns-in_err-tile-clause-put c =
    let d = delta-kept (goal.at.returns-in_err-tile-clause-put c).Then-coded in
    by-delta _ _ _ _ _ _ _ _ _ _ c.slices_to_come-more.ensures _ c.if-coded.true (c.in_ok-test.ensures.put _ _)
    (on_then _ _ _ (rw d at c.in_ok-put_se.ensures)
    (at_err _ _ _ _ c.from_residual-in_err-tile.ensures.1 ∙ delta-refused _ _ _ _ _ refl (rw d at c.in_err-tile.ensures)))

pub returns-then-coded-clause-put : goal.returns-then-coded-clause-put
unfolding number
returns-then-coded-clause-put c =
    let d = delta-kept (goal.at.returns-then-coded-clause-put c).Then-coded in
    by-delta _ _ _ _ _ _ _ _ _ _ c.slices_to_come-more.ensures _ c.if-coded.true (c.in_ok-test.ensures.put _ _)
    (on_then _ _ _ (rw d at c.in_ok-put_se.ensures) (delta-fine _ _ _ _ (rw d at c.in_ok-tile.ensures) _))

pub returns-then-coded-clause-tile : goal.returns-then-coded-clause-tile
returns-then-coded-clause-tile c = λ h.
    let d = delta-kept (goal.at.returns-then-coded-clause-tile c).Then-coded in
    tile-by _ (c.args.ctx.num_tile_rows * c.args.ctx.num_tile_columns) _ _ _ _ _ _ c.args.e.delta_present _ c.slices_to_come-more.ensures c.if-coded.true (delta-moved _ _ _ _ (rw d at c.in_ok-tile.ensures) c.requires)

pub returns-in_err-test-2-clause-put : goal.returns-in_err-test-2-clause-put
unfolding number
returns-in_err-test-2-clause-put c =
    on-walk _ _ _ _ _ _ _ _ _ _ c.slices_to_come-more.ensures _ c.requires c.if-coded.false c.if-more.true (c.in_ok-test.ensures.put _ _) c.default_advance-tile.ensures c.has_tile.ensures
    (at_err _ _ _ _ c.from_residual-in_err-test-2.ensures.1 ∙ c.in_err-test-2.ensures.put _ _)

pub returns-then-more-clause-put : goal.returns-then-more-clause-put
unfolding number
returns-then-more-clause-put c =
    on-walk _ _ _ _ _ _ _ _ _ _ c.slices_to_come-more.ensures _ c.requires c.if-coded.false c.if-more.true (c.in_ok-test.ensures.put _ _) c.default_advance-tile.ensures c.has_tile.ensures
    (c.in_ok-test-2.ensures.put _ _)

pub returns-then-more-clause-tile : goal.returns-then-more-clause-tile
returns-then-more-clause-tile c = λ h.
    tile-on _ _ _ _ _ _ _ _ c.args.e.delta_present _ c.slices_to_come-more.ensures c.requires c.if-coded.false c.if-more.true c.default_advance-tile.ensures c.has_tile.ensures c.in_ok-test-2.ensures.passed

pub returns-clause-put : goal.returns-clause-put
unfolding number
returns-clause-put c = at-end _ _ _ _ _ _ _ _ _ _ c.slices_to_come-more.ensures _ c.if-coded.false c.if-more.false (c.in_ok-test.ensures.put _ _)
