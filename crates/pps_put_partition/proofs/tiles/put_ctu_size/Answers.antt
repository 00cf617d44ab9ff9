use Rattle.refusal.specs.Numbers.{number}
use Rattle.bit_writer.proofs.Ended.{stopped_at}
use Rattle.pps_put_partition.specs.Made.{ctu-put}
use Rattle.pps_put_partition.proofs.tiles.put_ctu_size.Goals as goal

pub returns-in_err-test : goal.returns-in_err-test
unfolding number
returns-in_err-test c = ctu-put _ c.args.v (c.in_err-test.ensures.put _ _) (stopped_at _ _ _ _ _ c.from_residual.ensures.1)

pub returns : goal.returns
unfolding number
returns c = ctu-put _ c.args.v (c.in_ok-test.ensures.put _ _) c.put_bits.ensures
