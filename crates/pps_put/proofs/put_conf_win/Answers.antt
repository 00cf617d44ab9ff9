-- One step of the description for each call.
use Rattle.codes.specs.Symbols.{check-none}
use Rattle.pps_syntax.specs.Head.{conf_win}
use Rattle.syntax.specs.Syntax.{◌>>=◌}
use Rattle.syntax.proofs.PutSteps.{follows, exit, ◌⟫◌, end, put, stop_in, skip}
use Rattle.pps_put.proofs.Named.{present, missing}
use Rattle.pps_put.proofs.put_conf_win.Goals as goal

pub returns-then-v-eq0 : goal.returns-then-v-eq0
unfolding conf_win ◌>>=◌
returns-then-v-eq0 c = let off = missing c.if-v-eq0.true in
    follows conf_win
    (c.put_flag.ensures ⟫ skip _ _ off (check-none _) (skip _ _ off (check-none _) (skip _ _ off (check-none _) (skip _ _ off (check-none _) (end)))))

pub returns-in_err-put_ue : goal.returns-in_err-put_ue
unfolding conf_win ◌>>=◌
returns-in_err-put_ue c = let on = present c.if-v-eq0.false in
    exit conf_win _ _ c.from_residual.ensures.1
    (c.put_flag.ensures ⟫ stop_in _ _ _ _ _ on c.in_err-put_ue.ensures)

pub returns-in_err-put_ue-2 : goal.returns-in_err-put_ue-2
unfolding conf_win ◌>>=◌
returns-in_err-put_ue-2 c = let on = present c.if-v-eq0.false in
    exit conf_win _ _ c.from_residual-in_err-put_ue-2.ensures.1
    (c.put_flag.ensures ⟫ put _ _ on c.in_ok-put_ue.ensures (stop_in _ _ _ _ _ on c.in_err-put_ue-2.ensures))

pub returns-in_err-put_ue-3 : goal.returns-in_err-put_ue-3
unfolding conf_win ◌>>=◌
returns-in_err-put_ue-3 c = let on = present c.if-v-eq0.false in
    exit conf_win _ _ c.from_residual-in_err-put_ue-3.ensures.1
    (c.put_flag.ensures ⟫ put _ _ on c.in_ok-put_ue.ensures (put _ _ on c.in_ok-put_ue-2.ensures (stop_in _ _ _ _ _ on c.in_err-put_ue-3.ensures)))

pub returns : goal.returns
unfolding conf_win ◌>>=◌
returns c = let on = present c.if-v-eq0.false in
    follows conf_win
    (c.put_flag.ensures ⟫ put _ _ on c.in_ok-put_ue.ensures (put _ _ on c.in_ok-put_ue-2.ensures (put _ _ on c.in_ok-put_ue-3.ensures (put _ _ on c.put_ue-4.ensures (end)))))
