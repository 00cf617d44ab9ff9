use mathlib.Core.Path.{refl}
use Rattle.codes.specs.Symbols.{check-none}
use Rattle.syntax.proofs.PutSteps.{written_on, passed_over}
use Rattle.pps_put.proofs.leaves.put_flag_if.Goals as goal

pub returns-then-on : goal.returns-then-on
returns-then-on c = written_on _ _ _ _ c.if-on.true c.put_flag.ensures

pub returns-else-on : goal.returns-else-on
returns-else-on c = passed_over _ _ _ _ c.if-on.false (check-none _) refl
