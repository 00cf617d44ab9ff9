-- One step of the description for each call.
use Rattle.std.specs.Prelude.{◌≡◌, Bool, true, false, not, ◌&&◌, ◌||◌}
use Rattle.std.proofs.Common.{ap, refl}
use Rattle.pps_syntax.specs.Head.{head}
use Rattle.refusal.specs.Numbers.{number}
use Rattle.syntax.specs.Syntax.{◌>>=◌}
use Rattle.syntax.proofs.Steps.{follows, exit, ◌⟫◌, past, held, stop, fails, end}
use Rattle.pps_fields.proofs.read_head.Goals as goal

none_of : (a b t : Bool) → (a || b) ≡ t → (not a && not b) ≡ not t
none_of true b t e = ap not e
none_of false b t e = ap not e

pub returns-in_err-width : goal.returns-in_err-width
unfolding head ◌>>=◌
returns-in_err-width c = exit head c.from_residual.ensures
    (c.small_u-id.ensures ⟫ c.small_u-sps.ensures ⟫ c.flag-mixed.ensures ⟫ past (stop c.in_err-width.ensures))

pub returns-in_err-height : goal.returns-in_err-height
unfolding head ◌>>=◌
returns-in_err-height c = exit head c.from_residual-in_err-height.ensures
    (c.small_u-id.ensures ⟫ c.small_u-sps.ensures ⟫ c.flag-mixed.ensures ⟫ past (c.in_ok-width.ensures
    ⟫ stop c.in_err-height.ensures))

pub returns-then-width-height : goal.returns-then-width-height
unfolding head ◌>>=◌ number
returns-then-width-height c = follows head
    (c.small_u-id.ensures ⟫ c.small_u-sps.ensures ⟫ c.flag-mixed.ensures ⟫ past (c.in_ok-width.ensures
    ⟫ c.in_ok-height.ensures ⟫ fails (none_of _ _ _ c.if-width-height.true) refl))

pub returns : goal.returns
unfolding head ◌>>=◌
returns c = follows head
    (c.small_u-id.ensures ⟫ c.small_u-sps.ensures ⟫ c.flag-mixed.ensures ⟫ past (c.in_ok-width.ensures
    ⟫ c.in_ok-height.ensures ⟫ held (none_of _ _ _ c.if-width-height.false) end))
