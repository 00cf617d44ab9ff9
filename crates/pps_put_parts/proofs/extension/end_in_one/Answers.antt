use mathlib.Core.Path.{ap, ◌∙◌}
use native.Mathlib.Omega.{arith}
use Prim.Native.Nat.{ℕ}
use Rattle.codes.specs.Bytes.{bit_at}
use Rattle.pps_put_parts.specs.Extension.{ends-none, ends_by, ends-far}
use Rattle.pps_put_parts.proofs.extension.end_in_one.Goals as goal

pub returns-then-count-eq0 : goal.returns-then-count-eq0
returns-then-count-eq0 c = ends-none c.args.bytes.now c.args.first c.args.count c.if-count-eq0.true

pub returns-in-None : goal.returns-in-None
returns-in-None c = ends-far c.args.bytes.now c.args.first c.args.count (omega arith) (omega (arith, c.in-None.ensures))

pub returns-in-Some : goal.returns-in-Some
returns-in-Some c = ends_by c.args.bytes.now c.args.first c.args.count (omega arith) (c.bit_at.ensures ∙ ap (λ (i : ℕ). bit_at c.args.bytes.now i) c.in-Some.ensures.1)
