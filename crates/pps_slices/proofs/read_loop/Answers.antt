-- Each need cites one of the laws of `Held`.
use Rattle.std.proofs.Common.{refl, sym, ◌∙◌, ltb-true, ltb-false, arith, rules}
use Rattle.bit_reader.proofs.Gives.{at_exit}
use Rattle.pps_slices.specs.Grids.{some-over}
use Rattle.pps_slices.proofs.Held.{held-begins, held-ends, held-put, held-stops, held-left, held_more, held_small}
use Rattle.pps_slices.proofs.read_loop.Goals as goal

pub loop-ctx-init : goal.loop-ctx-init
loop-ctx-init c = (search rules, λ g o. held-begins _ _ _ _ _)

pub returns-in_err-entry-clause-gives : goal.returns-in_err-entry-clause-gives
returns-in_err-entry-clause-gives c = λ g o. at_exit c.from_residual.ensures.1 (held-stops (c.loop-ctx.invariant.1 g o) (ltb-true _ _ (sym c.slices_to_come.ensures ∙ c.loop-ctx-test.true)) (c.in_err-entry.ensures.gives g o))

pub returns-in_err-entry-clause-tables : goal.returns-in_err-entry-clause-tables
returns-in_err-entry-clause-tables c = λ g o. held-left (c.loop-ctx.invariant.1 g o) (ltb-true _ _ (sym c.slices_to_come.ensures ∙ c.loop-ctx-test.true)) (c.in_err-entry.ensures.gives g o) _ refl (c.in_err-entry.ensures.table g o)

pub overflow_add-from : goal.overflow_add-from
overflow_add-from c = omega (arith, (held_small (c.loop-ctx.invariant.1 _ (some-over _ _ c.requires.0)) (ltb-true _ _ (sym c.slices_to_come.ensures ∙ c.loop-ctx-test.true))).0)

pub overflow_add-count : goal.overflow_add-count
overflow_add-count c = omega (arith, (held_small (c.loop-ctx.invariant.1 _ (some-over _ _ c.requires.0)) (ltb-true _ _ (sym c.slices_to_come.ensures ∙ c.loop-ctx-test.true))).1)

pub loop-ctx-smaller : goal.loop-ctx-smaller
loop-ctx-smaller c = omega (arith, (held_small (c.loop-ctx.invariant.1 _ (some-over _ _ c.requires.0)) (ltb-true _ _ (sym c.slices_to_come.ensures ∙ c.loop-ctx-test.true))).1)

pub loop-ctx-preserved : goal.loop-ctx-preserved
loop-ctx-preserved c = (search rules, λ g o. rw c.unwrap_or.ensures (held_more (c.loop-ctx.invariant.1 g o) (ltb-true _ _ (sym c.slices_to_come.ensures ∙ c.loop-ctx-test.true)) _ (c.in_ok-entry.ensures.gives g o) c.put_slice.ensures (c.in_ok-entry.ensures.table g o)))

pub returns-clause-gives : goal.returns-clause-gives
returns-clause-gives c = λ g o. held-ends (c.loop-ctx.invariant.1 g o) (ltb-false _ _ (sym c.slices_to_come.ensures ∙ c.loop-ctx-test.false))

pub returns-clause-tables : goal.returns-clause-tables
returns-clause-tables c = λ g o. held-put (c.loop-ctx.invariant.1 g o) (ltb-false _ _ (sym c.slices_to_come.ensures ∙ c.loop-ctx-test.false))
