-- One step of the description for each call.
use Rattle.pps_syntax.specs.Head.{conf_win}
use Rattle.syntax.specs.Syntax.{◌>>=◌}
use Rattle.syntax.proofs.Steps.{follows, exit, ◌⟫◌, stop, end}
use Rattle.pps_fields.proofs.read_conf_win.Goals as goal

pub returns-in_err-left : goal.returns-in_err-left
unfolding conf_win ◌>>=◌
returns-in_err-left c = exit conf_win c.from_residual.ensures (c.flag-present.ensures ⟫ stop (c.in_err-left.ensures _))

pub returns-in_err-right : goal.returns-in_err-right
unfolding conf_win ◌>>=◌
returns-in_err-right c = exit conf_win c.from_residual-in_err-right.ensures
    (c.flag-present.ensures ⟫ (c.in_ok-left.ensures _) ⟫ stop (c.in_err-right.ensures _))

pub returns-in_err-top : goal.returns-in_err-top
unfolding conf_win ◌>>=◌
returns-in_err-top c = exit conf_win c.from_residual-in_err-top.ensures
    (c.flag-present.ensures ⟫ (c.in_ok-left.ensures _) ⟫ (c.in_ok-right.ensures _) ⟫ stop (c.in_err-top.ensures _))

pub returns-in_err-bottom : goal.returns-in_err-bottom
unfolding conf_win ◌>>=◌
returns-in_err-bottom c = exit conf_win c.from_residual-in_err-bottom.ensures
    (c.flag-present.ensures ⟫ (c.in_ok-left.ensures _) ⟫ (c.in_ok-right.ensures _) ⟫ (c.in_ok-top.ensures _)
    ⟫ stop (c.in_err-bottom.ensures _))

pub returns : goal.returns
unfolding conf_win ◌>>=◌
returns c = follows conf_win
    (c.flag-present.ensures ⟫ (c.in_ok-left.ensures _) ⟫ (c.in_ok-right.ensures _) ⟫ (c.in_ok-top.ensures _)
    ⟫ (c.in_ok-bottom.ensures _) ⟫ end)
