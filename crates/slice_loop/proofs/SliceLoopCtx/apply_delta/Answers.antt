use mathlib.Core.Path.{ap, ◌∙◌}
use Rattle.std.proofs.Common.{Ok}
use lib.IntN.{nat_abs}
use mir.Facts.{to_z-of_z}
use native.Mathlib.Omega.{arith}
use Rattle.slice_loop.proofs.SliceLoop.{widened, refuses-none, refuses-large, refuses-past, refuses-below, moves}
use Rattle.slice_loop.proofs.SliceLoopCtx.apply_delta.Goals as goal

pub returns-in-Some : goal.returns-in-Some
returns-in-Some c =
    ap Ok c.held.ensures ∙ moves _ _ _ _ (c.unsigned_abs-size.ensures.value ∙ ap nat_abs (to_z-of_z c.ranges.delta)) _ _ (widened _ c.ranges.delta) c.in-Some.ensures c.if-size-ne0.true (omega arith) (omega arith)

pub returns-in_default : goal.returns-in_default
returns-in_default c =
    refuses-past _ _ _ _ (c.unsigned_abs-size.ensures.value ∙ ap nat_abs (to_z-of_z c.ranges.delta)) _ _ (widened _ c.ranges.delta) c.in-Some.ensures (omega arith)

pub returns-in_default-2 : goal.returns-in_default-2
returns-in_default-2 c = refuses-large _ _ _ _ (c.unsigned_abs-size.ensures.value ∙ ap nat_abs (to_z-of_z c.ranges.delta)) (omega arith)

pub returns-in_default-3 : goal.returns-in_default-3
returns-in_default-3 c = refuses-none _ _ _ _ (c.unsigned_abs-size.ensures.value ∙ ap nat_abs (to_z-of_z c.ranges.delta)) c.if-size-ne0.false

pub returns-in_default-4 : goal.returns-in_default-4
returns-in_default-4 c = refuses-below _ _ _ (omega arith) c.ranges.delta _ (widened _ c.ranges.delta) c.in_default.ensures
