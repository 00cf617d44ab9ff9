-- One step of the description for each call.
use Rattle.pps_syntax.specs.Head.{scaling_win}
use Rattle.std.proofs.Common.{SFits, to_z-of_z, rules}
use Rattle.std.specs.Int.{w32}
use Rattle.syntax.specs.Syntax.{◌>>=◌}
use Rattle.syntax.proofs.Steps.{follows, exit, ◌⟫◌, stop, end}
use Rattle.pps_fields.proofs.read_scaling_win.Goals as goal

pub returns-in_err-left : goal.returns-in_err-left
unfolding scaling_win ◌>>=◌
returns-in_err-left c = exit scaling_win c.from_residual.ensures
    (c.flag-present.ensures ⟫ stop (c.in_err-left.ensures _))

pub returns-in_err-right : goal.returns-in_err-right
unfolding scaling_win ◌>>=◌
returns-in_err-right c = exit scaling_win c.from_residual-in_err-right.ensures
    (c.flag-present.ensures ⟫ (c.in_ok-left.ensures _) ⟫ stop (c.in_err-right.ensures _))

pub returns-in_err-top : goal.returns-in_err-top
unfolding scaling_win ◌>>=◌
returns-in_err-top c = exit scaling_win c.from_residual-in_err-top.ensures
    (c.flag-present.ensures ⟫ (c.in_ok-left.ensures _) ⟫ (c.in_ok-right.ensures _) ⟫ stop (c.in_err-top.ensures _))

pub returns-in_err-bottom : goal.returns-in_err-bottom
unfolding scaling_win ◌>>=◌
returns-in_err-bottom c = exit scaling_win c.from_residual-in_err-bottom.ensures
    (c.flag-present.ensures ⟫ (c.in_ok-left.ensures _) ⟫ (c.in_ok-right.ensures _) ⟫ (c.in_ok-top.ensures _)
    ⟫ stop (c.in_err-bottom.ensures _))

pub returns : goal.returns
unfolding scaling_win ◌>>=◌
returns c = let left : SFits w32 c.in_ok-left.left = search rules in
    let right : SFits w32 c.in_ok-right.right = search rules in
    let top : SFits w32 c.in_ok-top.top = search rules in
    let bottom : SFits w32 c.in_ok-bottom.bottom = search rules in
    rw (to_z-of_z left, to_z-of_z right, to_z-of_z top, to_z-of_z bottom) (follows scaling_win (c.flag-present.ensures
    ⟫ (c.in_ok-left.ensures _) ⟫ (c.in_ok-right.ensures _) ⟫ (c.in_ok-top.ensures _) ⟫ (c.in_ok-bottom.ensures _)
    ⟫ end))
