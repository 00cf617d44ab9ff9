-- One step of the description for each call.
use Rattle.codes.specs.Symbols.{check-none}
use Rattle.codes.specs.Coded.{se_symbols}
use Rattle.pps_syntax.specs.Head.{scaling_win}
use Rattle.syntax.specs.Syntax.{◌>>=◌}
use Rattle.syntax.proofs.PutSteps.{follows, exit, ◌⟫◌, end, put, stop_in, skip}
use Rattle.pps_put.proofs.Named.{signed, present, missing}
use borrow.Author.Rules.{rules}
use Rattle.pps_put.proofs.put_scaling_win.Goals as goal

pub returns-then-v-eq0 : goal.returns-then-v-eq0
unfolding scaling_win ◌>>=◌
returns-then-v-eq0 c = let off = missing c.if-v-eq0.true in
    follows scaling_win
    (c.put_flag.ensures ⟫ skip _ _ off (check-none _) (skip _ _ off (check-none _) (skip _ _ off (check-none _) (skip _ _ off (check-none _) (end)))))

pub returns-in_err-put_se : goal.returns-in_err-put_se
unfolding scaling_win ◌>>=◌
returns-in_err-put_se c = let on = present c.if-v-eq0.false in
    exit scaling_win _ _ c.from_residual.ensures.1
    (c.put_flag.ensures ⟫ stop_in _ _ _ _ _ on (signed se_symbols _ _ (search rules) c.in_err-put_se.ensures))

pub returns-in_err-put_se-2 : goal.returns-in_err-put_se-2
unfolding scaling_win ◌>>=◌
returns-in_err-put_se-2 c = let on = present c.if-v-eq0.false in
    exit scaling_win _ _ c.from_residual-in_err-put_se-2.ensures.1
    (c.put_flag.ensures ⟫ put _ _ on (signed se_symbols _ _ (search rules) c.in_ok-put_se.ensures) (stop_in _ _ _ _ _ on (signed se_symbols _ _ (search rules) c.in_err-put_se-2.ensures)))

pub returns-in_err-put_se-3 : goal.returns-in_err-put_se-3
unfolding scaling_win ◌>>=◌
returns-in_err-put_se-3 c = let on = present c.if-v-eq0.false in
    exit scaling_win _ _ c.from_residual-in_err-put_se-3.ensures.1
    (c.put_flag.ensures ⟫ put _ _ on (signed se_symbols _ _ (search rules) c.in_ok-put_se.ensures) (put _ _ on (signed se_symbols _ _ (search rules) c.in_ok-put_se-2.ensures) (stop_in _ _ _ _ _ on (signed se_symbols _ _ (search rules) c.in_err-put_se-3.ensures))))

pub returns : goal.returns
unfolding scaling_win ◌>>=◌
returns c = let on = present c.if-v-eq0.false in
    follows scaling_win
    (c.put_flag.ensures ⟫ put _ _ on (signed se_symbols _ _ (search rules) c.in_ok-put_se.ensures) (put _ _ on (signed se_symbols _ _ (search rules) c.in_ok-put_se-2.ensures) (put _ _ on (signed se_symbols _ _ (search rules) c.in_ok-put_se-3.ensures) (put _ _ on (signed se_symbols _ _ (search rules) c.put_se-4.ensures) (end)))))
