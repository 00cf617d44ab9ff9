-- One step of the description for each call.
use Rattle.refusal.specs.Numbers.{number}
use Rattle.pps_syntax.specs.Head.{head}
use Rattle.syntax.specs.Syntax.{◌>>=◌}
use Rattle.syntax.proofs.PutSteps.{follows, exit, ◌⟫◌, past, tested, stop, fails, end}
use Rattle.pps_put.proofs.put_head.Goals as goal

pub returns-in_err-put_u : goal.returns-in_err-put_u
unfolding head ◌>>=◌ number
returns-in_err-put_u c = exit head _ _ c.from_residual.ensures.1 (stop _ _ _ c.in_err-put_u.ensures)

pub returns-in_err-put_u-2 : goal.returns-in_err-put_u-2
unfolding head ◌>>=◌ number
returns-in_err-put_u-2 c = exit head _ _ c.from_residual-in_err-put_u-2.ensures.1 (c.in_ok-put_u.ensures ⟫ stop _ _ _ c.in_err-put_u-2.ensures)

pub returns-in_err-test : goal.returns-in_err-test
unfolding head ◌>>=◌ number
returns-in_err-test c =
    exit head _ _ c.from_residual-in_err-test.ensures.1 (c.in_ok-put_u.ensures ⟫ c.in_ok-put_u-2.ensures ⟫ c.put_flag.ensures ⟫ fails _ _ _ (c.in_err-test.ensures.put _ _))

pub returns-in_err-put_ue : goal.returns-in_err-put_ue
unfolding head ◌>>=◌ number
returns-in_err-put_ue c =
    exit head _ _ c.from_residual-in_err-put_ue.ensures.1
    (c.in_ok-put_u.ensures ⟫ c.in_ok-put_u-2.ensures ⟫ c.put_flag.ensures ⟫ tested (c.in_ok-test.ensures.put _ _) (stop _ _ _ c.in_err-put_ue.ensures))

pub returns : goal.returns
unfolding head ◌>>=◌ number
returns c =
    follows head
    (c.in_ok-put_u.ensures ⟫ c.in_ok-put_u-2.ensures ⟫ c.put_flag.ensures ⟫ tested (c.in_ok-test.ensures.put _ _) (c.in_ok-put_ue.ensures ⟫ c.put_ue-2.ensures ⟫ past end))
