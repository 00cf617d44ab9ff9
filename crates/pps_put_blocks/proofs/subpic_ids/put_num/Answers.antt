use Rattle.refusal.specs.Numbers.{number}
use Rattle.syntax.proofs.PutSteps.{written_on, written_off}
use Rattle.pps_put_blocks.proofs.subpic_ids.put_num.Goals as goal

pub returns-then-partitioned : goal.returns-then-partitioned
unfolding number
returns-then-partitioned c = written_on _ _ _ _ c.if-partitioned.true c.put_ue_at_most.ensures

pub returns-else-partitioned : goal.returns-else-partitioned
unfolding number
returns-else-partitioned c = written_off _ _ _ _ c.if-partitioned.false (c.test.ensures.put _ _)
