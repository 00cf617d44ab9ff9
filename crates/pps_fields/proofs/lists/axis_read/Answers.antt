use Rattle.std.proofs.Common.{arith}
use Rattle.pps_fields.specs.Axis.{axis-over, axis-within}
use Rattle.pps_fields.proofs.lists.axis_read.Goals as goal

pub returns-then-length-taken : goal.returns-then-length-taken
returns-then-length-taken c = λ es k. axis-over es _ _ _ _ k (omega (arith, c.from-length.ensures, c.if-length-taken.true))

pub returns : goal.returns
returns c = λ es k. axis-within es _ _ _ _ k _ _ (omega (arith, c.from-length.ensures, c.if-length-taken.false)) (omega (arith, c.from-length.ensures)) c.uniform_sizes-rest.ensures.0
