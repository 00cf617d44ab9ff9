-- What is left to be read, stored and counted, from where the loop stands, makes the whole: `Pass`, with a law for each
-- way through the loop.
use Rattle.std.proofs.Common.{arith}
use Rattle.pps_fields.proofs.ByCursor.{pass-begins, pass-few, pass-small, pass-ends, pass-stops, pass-more, size_small}
use Rattle.pps_fields.proofs.by_cursor.read_axis.Goals as goal

pub loop-i-init : goal.loop-i-init
loop-i-init c = pass-begins

pub axis_read-requires : goal.axis_read-requires
axis_read-requires c = omega (arith, pass-few c.loop-i.invariant)

pub returns-then-cur-ne0-clause-axis : goal.returns-then-cur-ne0-clause-axis
returns-then-cur-ne0-clause-axis c = (pass-stops c.loop-i.invariant c.loop-i-test.true c.ue_below-v.ensures c.if-cur-ne0.true c.axis_read.ensures).0

pub returns-then-cur-ne0-clause-table : goal.returns-then-cur-ne0-clause-table
returns-then-cur-ne0-clause-table c = (pass-stops c.loop-i.invariant c.loop-i-test.true c.ue_below-v.ensures c.if-cur-ne0.true c.axis_read.ensures).1

pub overflow_add-uniform : goal.overflow_add-uniform
overflow_add-uniform c = omega (arith, size_small c.loop-i.invariant c.loop-i-test.true c.ue_below-v.ensures)

pub overflow_add-taken : goal.overflow_add-taken
overflow_add-taken c = omega (arith, c.from-taken.ensures, pass-small c.loop-i.invariant, size_small c.loop-i.invariant c.loop-i-test.true c.ue_below-v.ensures)

pub loop-i-preserved : goal.loop-i-preserved
loop-i-preserved c = pass-more c.loop-i.invariant c.loop-i-test.true c.ue_below-v.ensures c.if-cur-ne0.false c.store.ensures c.from-taken.ensures

pub axis_read-requires-2 : goal.axis_read-requires-2
axis_read-requires-2 c = omega (arith, pass-few c.loop-i.invariant, c.loop-i-test.false)

pub returns-clause-axis : goal.returns-clause-axis
returns-clause-axis c = (pass-ends c.loop-i.invariant c.loop-i-test.false c.axis_read-2.ensures).0

pub returns-clause-table : goal.returns-clause-table
returns-clause-table c = (pass-ends c.loop-i.invariant c.loop-i-test.false c.axis_read-2.ensures).1
