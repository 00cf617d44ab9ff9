use Rattle.pps_lent.proofs.SplitTotal.{left_step, left_past, left_end}
use Rattle.pps_lent.proofs.split_total_fits.Goals as goal

pub returns-then-left-c : goal.returns-then-left-c
returns-then-left-c c = left_past _ _ _ _ _ c.split_count-c.ensures c.loop-i-test.true c.if-left-c.true c.loop-i.invariant

pub loop-i-preserved : goal.loop-i-preserved
loop-i-preserved c = left_step _ _ _ _ _ c.split_count-c.ensures c.loop-i-test.true c.if-left-c.false c.loop-i.invariant

pub returns : goal.returns
returns c = left_end _ _ _ _ c.loop-i-test.false c.loop-i.invariant
