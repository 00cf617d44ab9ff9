-- What is left to be read, stored and counted, from where the loop stands, makes the whole: `Pass`, with a law for each
-- way through the loop.
use Rattle.refusal.specs.Numbers.{number}
use Rattle.pps_fields.specs.Axis.{Pass}
use Rattle.pps_fields.proofs.lists.read_axis.Given as goal

abbrev pub invariant-loop-i : goal.invariant-loop-i
invariant-loop-i l = Pass l.total.0 (number l.refusal) l.count l.from l.initial.r l.initial.table l.i l.r l.table l.uniform l.taken
