use Prim.Native.Nat.{ℕ, min}
use mathlib.Core.Path.{◌≡◌, sym, ◌∙◌}
use native.Mathlib.Omega.{arith}
use lib.ListN.{get_or}
use Rattle.refusal.specs.Numbers.{number}
use Rattle.bit_writer.proofs.Ended.{at_err}
use Rattle.syntax.specs.Elements.{u}
use Rattle.pps_put.proofs.EachPut.{each_turn, each_stop, each_end}
use Rattle.pps_put.proofs.Named.{named}
use Rattle.pps_put_blocks.proofs.subpic_ids.put_each.Goals as goal

pub returns-in_err-put_u : goal.returns-in_err-put_u
unfolding number
returns-in_err-put_u c =
    let ids = c.args.ids.now in
    let i = c.loop-id.id-index in
    let bits : min c.args.bits 32 ≡ c.args.bits = omega arith in
    at_err _ _ _ _ c.from_residual.ensures.1
    ∙ each_stop _ (u c.args.bits 27) ids i 0 _ _ _ c.loop-id-test.true (named (λ (b : ℕ). (u b 27).symbols (get_or ids i 0)) _ bits c.in_err-put_u.ensures)
    ∙ c.loop-id.invariant

pub loop-id-preserved : goal.loop-id-preserved
unfolding number
loop-id-preserved c =
    let ids = c.args.ids.now in
    let i = c.loop-id.id-index in
    let bits : min c.args.bits 32 ≡ c.args.bits = omega arith in
    each_turn _ (u c.args.bits 27) ids i 0 c.loop-id-test.true (named (λ (b : ℕ). (u b 27).symbols (get_or ids i 0)) _ bits c.in_ok-put_u.ensures) ∙ c.loop-id.invariant

pub returns : goal.returns
returns c = sym (each_end _ (u c.args.bits 27) c.args.ids.now c.loop-id.id-index c.loop-id-test.false) ∙ c.loop-id.invariant
