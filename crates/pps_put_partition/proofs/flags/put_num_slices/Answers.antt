use Rattle.refusal.specs.Numbers.{number}
use Rattle.bit_writer.proofs.Ended.{stopped_at}
use Rattle.pps_put_partition.specs.Made.{num-coded, num-none}
use Rattle.pps_put_partition.proofs.flags.put_num_slices.Goals as goal

pub returns-then-not-on : goal.returns-then-not-on
returns-then-not-on c = num-none _ _ c.args.n c.if-not-on.true

pub returns-in_err-test : goal.returns-in_err-test
unfolding number
returns-in_err-test c = num-coded _ _ c.args.n c.if-not-on.false (c.in_err-test.ensures.put _ _) (stopped_at _ _ _ _ _ c.from_residual.ensures.1)

pub returns : goal.returns
unfolding number
returns c = num-coded _ _ c.args.n c.if-not-on.false (c.in_ok-test.ensures.put _ _) c.put_ue.ensures
