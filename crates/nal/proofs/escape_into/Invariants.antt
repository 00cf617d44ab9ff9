-- What is still to come of the escaped bytes, put behind those that are there, is the whole.
use Rattle.nal.proofs.Steps.{Escaping}
use Rattle.nal.proofs.escape_into.Given as goal

abbrev pub invariant-loop-b : goal.invariant-loop-b
invariant-loop-b l = Escaping l.rbsp l.initial.out l.out l.z l.b-index l.put
