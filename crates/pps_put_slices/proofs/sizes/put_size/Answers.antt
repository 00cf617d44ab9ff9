use Rattle.bit_writer.specs.Stop.{on_then}
use Rattle.bit_writer.proofs.Ended.{stopped_at}
use Rattle.pps_put_slices.proofs.sizes.put_size.Goals as goal

pub returns-in_err-test : goal.returns-in_err-test
returns-in_err-test c = on_then _ _ _ (c.in_err-test.ensures.put _ _) (stopped_at _ _ _ _ _ c.from_residual.ensures.1)

pub returns : goal.returns
returns c = on_then _ _ _ (c.in_ok-test.ensures.put _ _) c.put_ue.ensures
