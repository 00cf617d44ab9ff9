use Rattle.std.specs.Prelude.{leb}
use Rattle.std.proofs.Common.{refl, le-leb}
use Rattle.std.proofs.lemmas.Bool.{lt-leb}
use Rattle.refusal.specs.Numbers.{number}
use Rattle.bit_reader.proofs.Gives.{passes, fails_test, refused_before, at_exit}
use Rattle.pps_fields.proofs.fields.ue_at_most.Goals as goal

pub returns-in_err-v-clause-value : goal.returns-in_err-v-clause-value
returns-in_err-v-clause-value c = at_exit c.from_residual.ensures.1 (refused_before (λ v. leb v c.args.limit) (number c.args.refusal) c.in_err-v.ensures)

pub returns-then-v-limit-clause-value : goal.returns-then-v-limit-clause-value
returns-then-v-limit-clause-value c = fails_test (λ v. leb v c.args.limit) _ c.in_ok-v.ensures (lt-leb _ _ c.if-v-limit.true) refl

pub returns-clause-value : goal.returns-clause-value
returns-clause-value c = passes (λ v. leb v c.args.limit) (number c.args.refusal) c.in_ok-v.ensures (le-leb _ _ c.if-v-limit.false)
