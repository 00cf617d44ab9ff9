use Rattle.refusal.specs.Numbers.{number}
use Rattle.bit_writer.proofs.Ended.{stopped_at}
use Rattle.pps_tables.specs.Lent.{lent_of}
use Rattle.pps_write.specs.Block.{block-tested, block-put, block_none}
use Rattle.pps_write.proofs.block.put_block.Goals as goal

pub returns-in_err-test : goal.returns-in_err-test
unfolding number
returns-in_err-test c = block-tested _ _ c.args.pps.now.partition (lent_of c.args.tables) c.args.partitioned _ (c.in_err-test.ensures.put _ _) (stopped_at _ _ _ _ _ c.from_residual.ensures.1)

pub returns-then-not-partitioned : goal.returns-then-not-partitioned
unfolding number
returns-then-not-partitioned c =
    block-tested _ _ c.args.pps.now.partition (lent_of c.args.tables) c.args.partitioned _ (c.in_ok-test.ensures.put _ _)
    (block_none _ _ c.args.pps.now.partition (lent_of c.args.tables) c.args.partitioned _ c.if-not-partitioned.true)

pub returns : goal.returns
unfolding number
returns c =
    block-tested _ _ c.args.pps.now.partition (lent_of c.args.tables) c.args.partitioned _ (c.in_ok-test.ensures.put _ _)
    (block-put _ _ c.args.pps.now.partition (lent_of c.args.tables) c.args.partitioned _ c.if-not-partitioned.false c.in_ok-test.ensures.passed c.put_partition.ensures)
