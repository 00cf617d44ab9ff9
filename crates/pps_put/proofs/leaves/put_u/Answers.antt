use Rattle.codes.specs.Symbols.{check, checked}
use Rattle.refusal.specs.Numbers.{number}
use Rattle.pps_put.proofs.Named.{named, test_failed, test-passed}
use Rattle.pps_put.proofs.leaves.put_u.Goals as goal

pub returns-in_err-test : goal.returns-in_err-test
unfolding checked
returns-in_err-test c = test_failed _ _ _ _ _ _ _ _ c.from_residual.ensures.1 (named (λ t. check t (number c.args.refusal)) _ c.holds.ensures (c.in_err-test.ensures.put _ _))

pub returns : goal.returns
unfolding checked
returns c = test-passed _ _ _ _ (named (λ t. check t (number c.args.refusal)) _ c.holds.ensures (c.in_ok-test.ensures.put _ _)) c.put_bits.ensures
