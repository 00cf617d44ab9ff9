-- One step of the description for each call.
use mathlib.Core.Bool.{Bool}
use borrow.Author.Rules.{rules}
use borrow.Author.Tests.{eq-eqb, ne_eqb}
use Rattle.codes.specs.Symbols.{check-none}
use Rattle.pps_syntax.specs.Deblocking.{deblocking}
use Rattle.pps_syntax.specs.Offsets.{offset}
use Rattle.syntax.specs.Elements.{is_set}
use Rattle.syntax.specs.Syntax.{◌>>=◌}
use Rattle.syntax.proofs.Elements.{flag_if}
use Rattle.syntax.proofs.PutSteps.{follows, exit, ◌⟫◌, stop_in, end, put, skip}
use Rattle.pps_put.proofs.Named.{named, signed, present, missing, both, inside, not_first, not_second}
use Rattle.pps_put_blocks.proofs.deblocking.put_deblocking.Goals as goal

pub returns-then-v-eq0 : goal.returns-then-v-eq0
unfolding deblocking ◌>>=◌
returns-then-v-eq0 c =
    let v = c.args.v.now in
    let off = missing c.if-v-eq0.true in
    follows (deblocking _ _)
    (c.put_flag.ensures ⟫ skip _ _ off (check-none _) (skip _ _ off (check-none _) (skip _ _ (not_first _ off) (check-none _) (skip _ _ (not_first _ off) (check-none _) (skip _ _ (not_first _ off) (check-none _) (skip _ _ (not_first _ (not_first _ off)) (check-none _) (skip _ _ (not_first _ (not_first _ off)) (check-none _) (skip _ _ (not_first _ (not_first _ off)) (check-none _) (skip _ _ (not_first _ (not_first _ off)) (check-none _) (end))))))))))

pub returns-then-v-ne0 : goal.returns-then-v-ne0
unfolding deblocking ◌>>=◌
returns-then-v-ne0 c =
    let v = c.args.v.now in
    let on = present c.if-v-eq0.false in
    let off = not_second (is_set v.present) (ne_eqb _ _ c.if-v-ne0.true) in
    follows (deblocking _ _)
    (c.put_flag.ensures ⟫ put _ _ on c.put_flag-2.ensures (put _ _ on c.put_flag-3.ensures (named (λ (b : Bool). (flag_if b).symbols v.pps_dbf_info_in_ph_flag) _ (inside _ on) c.put_flag_if.ensures ⟫ skip _ _ off (check-none _) (skip _ _ off (check-none _) (skip _ _ (not_first _ off) (check-none _) (skip _ _ (not_first _ off) (check-none _) (skip _ _ (not_first _ off) (check-none _) (skip _ _ (not_first _ off) (check-none _) (end)))))))))

pub returns-in_err-put_offset : goal.returns-in_err-put_offset
unfolding deblocking ◌>>=◌
returns-in_err-put_offset c =
    let v = c.args.v.now in
    let on = present c.if-v-eq0.false in
    let enabled = both on (eq-eqb _ _ c.if-v-ne0.false) in
    exit (deblocking _ _) _ _ c.from_residual.ensures.1
    (c.put_flag.ensures ⟫ put _ _ on c.put_flag-2.ensures (put _ _ on c.put_flag-3.ensures (named (λ (b : Bool). (flag_if b).symbols v.pps_dbf_info_in_ph_flag) _ (inside _ on) c.put_flag_if.ensures ⟫ stop_in _ _ _ _ _ enabled (signed offset.symbols _ v.pps_luma_beta_offset_div2 (search rules) c.in_err-put_offset.ensures))))

pub returns-in_err-put_offset-2 : goal.returns-in_err-put_offset-2
unfolding deblocking ◌>>=◌
returns-in_err-put_offset-2 c =
    let v = c.args.v.now in
    let on = present c.if-v-eq0.false in
    let enabled = both on (eq-eqb _ _ c.if-v-ne0.false) in
    exit (deblocking _ _) _ _ c.from_residual-in_err-put_offset-2.ensures.1
    (c.put_flag.ensures ⟫ put _ _ on c.put_flag-2.ensures (put _ _ on c.put_flag-3.ensures (named (λ (b : Bool). (flag_if b).symbols v.pps_dbf_info_in_ph_flag) _ (inside _ on) c.put_flag_if.ensures ⟫ put _ _ enabled (signed offset.symbols _ v.pps_luma_beta_offset_div2 (search rules) c.in_ok-put_offset.ensures) (stop_in _ _ _ _ _ enabled (signed offset.symbols _ v.pps_luma_tc_offset_div2 (search rules) c.in_err-put_offset-2.ensures)))))

pub returns-then-not-with_chroma : goal.returns-then-not-with_chroma
unfolding deblocking ◌>>=◌
returns-then-not-with_chroma c =
    let v = c.args.v.now in
    let on = present c.if-v-eq0.false in
    let enabled = both on (eq-eqb _ _ c.if-v-ne0.false) in
    follows (deblocking _ _)
    (c.put_flag.ensures ⟫ put _ _ on c.put_flag-2.ensures (put _ _ on c.put_flag-3.ensures (named (λ (b : Bool). (flag_if b).symbols v.pps_dbf_info_in_ph_flag) _ (inside _ on) c.put_flag_if.ensures ⟫ put _ _ enabled (signed offset.symbols _ v.pps_luma_beta_offset_div2 (search rules) c.in_ok-put_offset.ensures) (put _ _ enabled (signed offset.symbols _ v.pps_luma_tc_offset_div2 (search rules) c.in_ok-put_offset-2.ensures) (skip _ _ (not_second _ c.if-not-with_chroma.true) (check-none _) (skip _ _ (not_second _ c.if-not-with_chroma.true) (check-none _) (skip _ _ (not_second _ c.if-not-with_chroma.true) (check-none _) (skip _ _ (not_second _ c.if-not-with_chroma.true) (check-none _) (end)))))))))

pub returns-in_err-put_offset-3 : goal.returns-in_err-put_offset-3
unfolding deblocking ◌>>=◌
returns-in_err-put_offset-3 c =
    let v = c.args.v.now in
    let on = present c.if-v-eq0.false in
    let enabled = both on (eq-eqb _ _ c.if-v-ne0.false) in
    let coded = both enabled c.if-not-with_chroma.false in
    exit (deblocking _ _) _ _ c.from_residual-in_err-put_offset-3.ensures.1
    (c.put_flag.ensures ⟫ put _ _ on c.put_flag-2.ensures (put _ _ on c.put_flag-3.ensures (named (λ (b : Bool). (flag_if b).symbols v.pps_dbf_info_in_ph_flag) _ (inside _ on) c.put_flag_if.ensures ⟫ put _ _ enabled (signed offset.symbols _ v.pps_luma_beta_offset_div2 (search rules) c.in_ok-put_offset.ensures) (put _ _ enabled (signed offset.symbols _ v.pps_luma_tc_offset_div2 (search rules) c.in_ok-put_offset-2.ensures) (stop_in _ _ _ _ _ coded (signed offset.symbols _ v.pps_cb_beta_offset_div2 (search rules) c.in_err-put_offset-3.ensures))))))

pub returns-in_err-put_offset-4 : goal.returns-in_err-put_offset-4
unfolding deblocking ◌>>=◌
returns-in_err-put_offset-4 c =
    let v = c.args.v.now in
    let on = present c.if-v-eq0.false in
    let enabled = both on (eq-eqb _ _ c.if-v-ne0.false) in
    let coded = both enabled c.if-not-with_chroma.false in
    exit (deblocking _ _) _ _ c.from_residual-in_err-put_offset-4.ensures.1
    (c.put_flag.ensures ⟫ put _ _ on c.put_flag-2.ensures (put _ _ on c.put_flag-3.ensures (named (λ (b : Bool). (flag_if b).symbols v.pps_dbf_info_in_ph_flag) _ (inside _ on) c.put_flag_if.ensures ⟫ put _ _ enabled (signed offset.symbols _ v.pps_luma_beta_offset_div2 (search rules) c.in_ok-put_offset.ensures) (put _ _ enabled (signed offset.symbols _ v.pps_luma_tc_offset_div2 (search rules) c.in_ok-put_offset-2.ensures) (put _ _ coded (signed offset.symbols _ v.pps_cb_beta_offset_div2 (search rules) c.in_ok-put_offset-3.ensures) (stop_in _ _ _ _ _ coded (signed offset.symbols _ v.pps_cb_tc_offset_div2 (search rules) c.in_err-put_offset-4.ensures)))))))

pub returns-in_err-put_offset-5 : goal.returns-in_err-put_offset-5
unfolding deblocking ◌>>=◌
returns-in_err-put_offset-5 c =
    let v = c.args.v.now in
    let on = present c.if-v-eq0.false in
    let enabled = both on (eq-eqb _ _ c.if-v-ne0.false) in
    let coded = both enabled c.if-not-with_chroma.false in
    exit (deblocking _ _) _ _ c.from_residual-in_err-put_offset-5.ensures.1
    (c.put_flag.ensures ⟫ put _ _ on c.put_flag-2.ensures (put _ _ on c.put_flag-3.ensures (named (λ (b : Bool). (flag_if b).symbols v.pps_dbf_info_in_ph_flag) _ (inside _ on) c.put_flag_if.ensures ⟫ put _ _ enabled (signed offset.symbols _ v.pps_luma_beta_offset_div2 (search rules) c.in_ok-put_offset.ensures) (put _ _ enabled (signed offset.symbols _ v.pps_luma_tc_offset_div2 (search rules) c.in_ok-put_offset-2.ensures) (put _ _ coded (signed offset.symbols _ v.pps_cb_beta_offset_div2 (search rules) c.in_ok-put_offset-3.ensures) (put _ _ coded (signed offset.symbols _ v.pps_cb_tc_offset_div2 (search rules) c.in_ok-put_offset-4.ensures) (stop_in _ _ _ _ _ coded (signed offset.symbols _ v.pps_cr_beta_offset_div2 (search rules) c.in_err-put_offset-5.ensures))))))))

pub returns : goal.returns
unfolding deblocking ◌>>=◌
returns c =
    let v = c.args.v.now in
    let on = present c.if-v-eq0.false in
    let enabled = both on (eq-eqb _ _ c.if-v-ne0.false) in
    let coded = both enabled c.if-not-with_chroma.false in
    follows (deblocking _ _)
    (c.put_flag.ensures ⟫ put _ _ on c.put_flag-2.ensures (put _ _ on c.put_flag-3.ensures (named (λ (b : Bool). (flag_if b).symbols v.pps_dbf_info_in_ph_flag) _ (inside _ on) c.put_flag_if.ensures ⟫ put _ _ enabled (signed offset.symbols _ v.pps_luma_beta_offset_div2 (search rules) c.in_ok-put_offset.ensures) (put _ _ enabled (signed offset.symbols _ v.pps_luma_tc_offset_div2 (search rules) c.in_ok-put_offset-2.ensures) (put _ _ coded (signed offset.symbols _ v.pps_cb_beta_offset_div2 (search rules) c.in_ok-put_offset-3.ensures) (put _ _ coded (signed offset.symbols _ v.pps_cb_tc_offset_div2 (search rules) c.in_ok-put_offset-4.ensures) (put _ _ coded (signed offset.symbols _ v.pps_cr_beta_offset_div2 (search rules) c.in_ok-put_offset-5.ensures) (put _ _ coded (signed offset.symbols _ v.pps_cr_tc_offset_div2 (search rules) c.put_offset-6.ensures) (end)))))))))
