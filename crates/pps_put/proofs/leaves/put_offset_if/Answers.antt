use mathlib.Core.Path.{refl}
use Rattle.codes.specs.Symbols.{check-none}
use Rattle.pps_syntax.specs.Offsets.{offset}
use Rattle.syntax.proofs.PutSteps.{written_on, passed_over}
use Rattle.pps_put.proofs.Named.{signed}
use Rattle.pps_put.proofs.leaves.put_offset_if.Goals as goal

pub returns-then-on : goal.returns-then-on
returns-then-on c = λ inferred. written_on _ _ _ _ c.if-on.true (signed offset.symbols _ _ c.ranges.v c.put_offset.ensures)

pub returns-else-on : goal.returns-else-on
returns-else-on c = λ inferred. passed_over _ _ _ _ c.if-on.false (check-none _) refl
