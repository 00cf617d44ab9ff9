use Rattle.pps_put.proofs.Named.{test_failed, test-passed}
use Rattle.pps_put.proofs.leaves.put_ue_at_most.Goals as goal

pub returns-in_err-test : goal.returns-in_err-test
returns-in_err-test c = test_failed _ _ _ _ _ _ _ _ c.from_residual.ensures.1 (c.in_err-test.ensures.put _ _)

pub returns : goal.returns
returns c = test-passed _ _ _ _ (c.in_ok-test.ensures.put _ _) c.put_ue.ensures
