use mathlib.Core.Path.{refl, sym}
use borrow.Author.Tests.{ltb-true, ltb-false}
use native.Mathlib.Omega.{arith}
use Rattle.std.proofs.lemmas.Result.{err_from_is_err_and}
use Rattle.refusal.specs.Numbers.{number, refused}
use Rattle.question_tests.specs.Refusing.{refusing_begins, refusing_late, refusing_stops, refusing_goes-on, refusing_early, refusing_ends, behind}
use Rattle.grid_sizes.specs.Fronts.{tiles-few}
use Rattle.question_tests.proofs.walk.walk_refusal.Goals as goal

pub loop-i-init : goal.loop-i-init
loop-i-init c = refusing_begins _ _ _ _ _

pub returns-then-not-slices_to_come : goal.returns-then-not-slices_to_come
unfolding refused number
returns-then-not-slices_to_come c = refusing_late c.loop-i.invariant c.loop-i-test.true _ _ refl refl (ltb-false _ _ (sym c.if-not-slices_to_come.ensures))

pub returns-in_err-at : goal.returns-in_err-at
unfolding refused
returns-in_err-at c =
    let p = err_from_is_err_and c.from_residual.result c.from_residual.ensures.1 in
    rw (p.1, p.2) (refusing_stops c.loop-i.invariant c.loop-i-test.true _ _ c.entry.ensures c.split_heights_of-heights.ensures (ltb-true _ _ (sym c.if-not-slices_to_come.ensures)) _ c.in_err-at.ensures)

pub loop-i-preserved : goal.loop-i-preserved
loop-i-preserved c = refusing_goes-on c.loop-i.invariant c.loop-i-test.true _ _ c.entry.ensures c.split_heights_of-heights.ensures (ltb-true _ _ (sym c.if-not-slices_to_come.ensures)) _ c.in_ok-at.ensures

pub returns-then-slices_to_come : goal.returns-then-slices_to_come
unfolding refused number
returns-then-slices_to_come c = refusing_early c.loop-i.invariant c.loop-i-test.false (ltb-true _ _ (sym c.if-slices_to_come.ensures))

pub returns : goal.returns
unfolding refused
returns c = refusing_ends c.loop-i.invariant c.loop-i-test.false (ltb-false _ _ (sym c.if-slices_to_come.ensures))
