use Rattle.std.specs.Prelude.{ltb}
use Rattle.std.proofs.Common.{refl, le-ltb, lt-ltb}
use Rattle.refusal.specs.Numbers.{number}
use Rattle.bit_reader.proofs.Gives.{passes, fails_test, refused_before, at_exit}
use Rattle.pps_fields.proofs.fields.ue_below.Goals as goal

pub returns-in_err-v-clause-value : goal.returns-in_err-v-clause-value
returns-in_err-v-clause-value c = at_exit c.from_residual.ensures.1 (refused_before (λ v. ltb v c.args.bound) (number c.args.refusal) c.in_err-v.ensures)

pub returns-then-v-bound-clause-value : goal.returns-then-v-bound-clause-value
returns-then-v-bound-clause-value c = fails_test (λ v. ltb v c.args.bound) _ c.in_ok-v.ensures (le-ltb _ _ c.if-v-bound.true) refl

pub returns-clause-value : goal.returns-clause-value
returns-clause-value c = passes (λ v. ltb v c.args.bound) (number c.args.refusal) c.in_ok-v.ensures (lt-ltb _ _ c.if-v-bound.false)
