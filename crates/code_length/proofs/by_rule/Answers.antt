use native.Mathlib.Omega.{arith}
use Rattle.codes.specs.ExpGolomb.{ue-length-is}
use Rattle.code_length.proofs.by_rule.Goals as goal

pub returns : goal.returns
returns c = omega (arith, ue-length-is c.ilog2.result c.args.v (omega arith) (omega arith))
