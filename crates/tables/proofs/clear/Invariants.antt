use Rattle.tables.proofs.Clearing.{Clearing}
use Rattle.tables.proofs.clear.Given as goal

abbrev pub invariant-loop-place : goal.invariant-loop-place
invariant-loop-place g l = Clearing l.fn.v l.initial.table l.table l.place-index
