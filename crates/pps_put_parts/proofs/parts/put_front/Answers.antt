-- One step of the description for each group.
use Rattle.pps_syntax.specs.Head.{head, kind}
use Rattle.pps_syntax.specs.Pps.{front}
use Rattle.syntax.specs.Syntax.{symbols_for, ◌>>=◌}
use Rattle.syntax.proofs.PutSteps.{follows, exit, ◌⟫◌, stop, end}
use Rattle.pps_put.proofs.Named.{named}
use Rattle.pps_put_parts.proofs.parts.put_front.Goals as goal

pub returns-in_err-put_head : goal.returns-in_err-put_head
unfolding front ◌>>=◌
returns-in_err-put_head c = exit front _ _ c.from_residual.ensures.1 (stop _ _ _ (named (symbols_for head) _ c.from.ensures c.in_err-put_head.ensures))

pub returns-in_err-put_conf_win : goal.returns-in_err-put_conf_win
unfolding front ◌>>=◌
returns-in_err-put_conf_win c = exit front _ _ c.from_residual-in_err-put_conf_win.ensures.1 ((named (symbols_for head) _ c.from.ensures c.in_ok-put_head.ensures) ⟫ stop _ _ _ c.in_err-put_conf_win.ensures)

pub returns-in_err-put_scaling_win : goal.returns-in_err-put_scaling_win
unfolding front ◌>>=◌
returns-in_err-put_scaling_win c = exit front _ _ c.from_residual-in_err-put_scaling_win.ensures.1 ((named (symbols_for head) _ c.from.ensures c.in_ok-put_head.ensures) ⟫ c.in_ok-put_conf_win.ensures ⟫ stop _ _ _ c.in_err-put_scaling_win.ensures)

pub returns : goal.returns
unfolding front ◌>>=◌
returns c = follows front ((named (symbols_for head) _ c.from.ensures c.in_ok-put_head.ensures) ⟫ c.in_ok-put_conf_win.ensures ⟫ c.in_ok-put_scaling_win.ensures ⟫ (named (symbols_for kind) _ c.from-2.ensures c.put_kind.ensures) ⟫ c.put_subpic_ids.ensures ⟫ end)
