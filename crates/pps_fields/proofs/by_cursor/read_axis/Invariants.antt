-- What is left to be read, stored and counted, from where the loop stands, makes the whole: `Pass`, with a law for each
-- way through the loop.
use Rattle.pps_fields.proofs.ByCursor.{Pass}
use Rattle.pps_fields.proofs.by_cursor.read_axis.Given as goal

abbrev pub invariant-loop-i : goal.invariant-loop-i
invariant-loop-i l = Pass l.total.0 l.number l.s l.count l.from l.initial.cur l.initial.table l.i l.cur l.table l.uniform l.taken
