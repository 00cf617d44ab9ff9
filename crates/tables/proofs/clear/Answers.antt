use native.Mathlib.Omega.{arith}
use Rattle.tables.proofs.Clearing.{begins, goes_on, ends}
use Rattle.tables.proofs.clear.Goals as goal

pub loop-place-init : goal.loop-place-init
loop-place-init g c = begins _ _

pub loop-place-preserved : goal.loop-place-preserved
loop-place-preserved g c = goes_on _ _ _ _ c.loop-place.invariant (omega arith)

pub returns : goal.returns
returns g c = ends _ _ _ _ c.loop-place.invariant (omega arith)
