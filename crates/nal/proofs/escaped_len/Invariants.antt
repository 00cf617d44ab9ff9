-- The bytes counted and the length of those still to come make the whole length.
use lib.ListN.{drop}
use Rattle.nal.specs.Escape.{escape_from, escape}
use Rattle.nal.proofs.Putting.{Counting}
use Rattle.nal.proofs.escaped_len.Given as goal

abbrev pub invariant-loop-b : goal.invariant-loop-b
invariant-loop-b l = Counting (escape l.rbsp) (escape_from l.z (drop l.b-index l.rbsp)) l.n
