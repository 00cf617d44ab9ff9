-- What is left to be read, stored and counted, from where the loop stands, makes the whole: `Pass`, with a law for each
-- way through the loop.
use Rattle.std.proofs.Common.{arith}
use Rattle.bit_reader.proofs.Gives.{at_exit}
use Rattle.pps_fields.specs.Axis.{pass-begins, pass-few, pass-small, pass-ends, pass-stops, pass-more, size_small}
use Rattle.pps_fields.proofs.lists.read_axis.Goals as goal

pub loop-i-init : goal.loop-i-init
loop-i-init c = pass-begins

pub returns-in_err-v-clause-axis : goal.returns-in_err-v-clause-axis
returns-in_err-v-clause-axis c = at_exit c.from_residual.ensures.1 (pass-stops c.loop-i.invariant c.loop-i-test.true c.in_err-v.ensures.value).0

pub returns-in_err-v-clause-table : goal.returns-in_err-v-clause-table
returns-in_err-v-clause-table c = (pass-stops c.loop-i.invariant c.loop-i-test.true c.in_err-v.ensures.value).1

pub overflow_add-taken : goal.overflow_add-taken
overflow_add-taken c = omega (arith, c.from-taken.ensures, pass-small c.loop-i.invariant, size_small c.loop-i.invariant c.in_ok-v.ensures.value)

pub loop-i-preserved : goal.loop-i-preserved
loop-i-preserved c = pass-more c.loop-i.invariant c.loop-i-test.true c.in_ok-v.ensures.value c.store.ensures c.from-taken.ensures

pub axis_read-requires : goal.axis_read-requires
axis_read-requires c = omega (arith, pass-few c.loop-i.invariant, c.loop-i-test.false)

pub returns-clause-axis : goal.returns-clause-axis
returns-clause-axis c = (pass-ends c.loop-i.invariant c.loop-i-test.false c.axis_read.ensures).0

pub returns-clause-table : goal.returns-clause-table
returns-clause-table c = (pass-ends c.loop-i.invariant c.loop-i-test.false c.axis_read.ensures).1
