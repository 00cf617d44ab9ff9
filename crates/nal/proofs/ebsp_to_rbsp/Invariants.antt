-- What is still to come of the unescaped bytes, put behind those that are there, is the whole.
use Prim.Native.Nat.{◌≤◌}
use lib.ListN.{drop}
use Rattle.nal.specs.Escape.{unescape_from, unescape}
use Rattle.nal.proofs.Putting.{Putting}
use Rattle.nal.proofs.ebsp_to_rbsp.Given as goal

abbrev pub invariant-loop-b : goal.invariant-loop-b
invariant-loop-b l = (l.put ≤ l.b-index) × Putting (unescape l.ebsp) (unescape_from l.z (drop l.b-index l.ebsp)) l.initial.out l.out l.put
