-- One step of the description for each call.
use mathlib.Core.Bool.{Bool}
use borrow.Author.Rules.{rules}
use lib.IntN.{pos}
use lib.ListN.{length}
use mathlib.Core.Path.{◌≡◌}
use Rattle.codes.specs.Coded.{ue_symbols}
use Rattle.codes.specs.Symbols.{check, check-none}
use Rattle.refusal.specs.Numbers.{number}
use Rattle.pps_syntax.specs.Chroma.{chroma}
use Rattle.pps_syntax.specs.FromRecord.{chroma_from}
use Rattle.pps_syntax.specs.Offsets.{offset, offset_or}
use Rattle.syntax.specs.Elements.{is_set}
use Rattle.syntax.specs.Syntax.{◌>>=◌}
use Rattle.syntax.proofs.PutSteps.{follows, exit, ◌⟫◌, past, tested, fails, stop, stop_in, end, put, skip}
use Rattle.pps_put.proofs.Named.{named, signed, present, missing, both, inside, not_first, not_second}
use Rattle.pps_put_blocks.proofs.Triples.{sizes_listed, last_listed, put_listed, not_tested, not_listed}
use Rattle.pps_put_blocks.proofs.chroma.put_chroma.Goals as goal

pub returns-then-c-eq0 : goal.returns-then-c-eq0
unfolding chroma ◌>>=◌ number
returns-then-c-eq0 c =
    let off = missing c.if-c-eq0.true in
    follows chroma
    (c.put_flag.ensures ⟫ skip _ _ off (check-none _) (skip _ _ off (check-none _) (skip _ _ off (check-none _) (skip _ _ (not_first _ off) (check-none _) (skip _ _ off (check-none _) (skip _ _ off (check-none _) (tested (not_tested _ (chroma_from c.args.c.now c.args.triples.now).list (not_first _ off)) (skip _ _ (not_first _ off) (check-none _) (past (skip _ _ (not_first _ off) (not_listed _ (not_first _ off)) end))))))))))

pub returns-in_err-put_offset : goal.returns-in_err-put_offset
unfolding chroma ◌>>=◌ number
returns-in_err-put_offset c =
    let v = c.args.c.now in
    let on = present c.if-c-eq0.false in
    exit chroma _ _ c.from_residual.ensures.1
    (c.put_flag.ensures ⟫ stop_in _ _ _ _ _ on (signed offset.symbols _ v.pps_cb_qp_offset (search rules) c.in_err-put_offset.ensures))

pub returns-in_err-put_offset-2 : goal.returns-in_err-put_offset-2
unfolding chroma ◌>>=◌ number
returns-in_err-put_offset-2 c =
    let v = c.args.c.now in
    let on = present c.if-c-eq0.false in
    exit chroma _ _ c.from_residual-in_err-put_offset-2.ensures.1
    (c.put_flag.ensures ⟫ put _ _ on (signed offset.symbols _ v.pps_cb_qp_offset (search rules) c.in_ok-put_offset.ensures) (stop_in _ _ _ _ _ on (signed offset.symbols _ v.pps_cr_qp_offset (search rules) c.in_err-put_offset-2.ensures)))

pub returns-in_err-put_offset_if : goal.returns-in_err-put_offset_if
unfolding chroma ◌>>=◌ number
returns-in_err-put_offset_if c =
    let v = c.args.c.now in
    let on = present c.if-c-eq0.false in
    exit chroma _ _ c.from_residual-in_err-put_offset_if.ensures.1
    (c.put_flag.ensures ⟫ put _ _ on (signed offset.symbols _ v.pps_cb_qp_offset (search rules) c.in_ok-put_offset.ensures) (put _ _ on (signed offset.symbols _ v.pps_cr_qp_offset (search rules) c.in_ok-put_offset-2.ensures) (put _ _ on c.put_flag-2.ensures (stop _ _ _ (named (λ (b : Bool). (offset_or b (pos 0)).symbols v.pps_joint_cbcr_qp_offset_value) _ (inside _ on) (signed (offset_or (is_set v.pps_joint_cbcr_qp_offset_present_flag) (pos 0)).symbols _ v.pps_joint_cbcr_qp_offset_value (search rules) (c.in_err-put_offset_if.ensures (pos 0))))))))

pub returns-then-c-eq0-2 : goal.returns-then-c-eq0-2
unfolding chroma ◌>>=◌ number
returns-then-c-eq0-2 c =
    let v = c.args.c.now in
    let on = present c.if-c-eq0.false in
    let off = not_second (is_set v.present) (missing c.if-c-eq0-2.true) in
    follows chroma
    (c.put_flag.ensures ⟫ put _ _ on (signed offset.symbols _ v.pps_cb_qp_offset (search rules) c.in_ok-put_offset.ensures) (put _ _ on (signed offset.symbols _ v.pps_cr_qp_offset (search rules) c.in_ok-put_offset-2.ensures) (put _ _ on c.put_flag-2.ensures (named (λ (b : Bool). (offset_or b (pos 0)).symbols v.pps_joint_cbcr_qp_offset_value) _ (inside _ on) (signed (offset_or (is_set v.pps_joint_cbcr_qp_offset_present_flag) (pos 0)).symbols _ v.pps_joint_cbcr_qp_offset_value (search rules) (c.in_ok-put_offset_if.ensures (pos 0))) ⟫ put _ _ on c.put_flag-3.ensures (put _ _ on c.put_flag-4.ensures (tested (not_tested _ (chroma_from c.args.c.now c.args.triples.now).list off) (skip _ _ off (check-none _) (past (skip _ _ off (not_listed _ off) end)))))))))

pub returns-in_err-test : goal.returns-in_err-test
unfolding chroma ◌>>=◌ number
returns-in_err-test c =
    let v = c.args.c.now in
    let on = present c.if-c-eq0.false in
    let n = v.cu_chroma_qp_offset_list_len in
    let ts = c.args.triples.now in
    let six : length ts ≡ 6 = c.told-triples in
    let listed = both on (present c.if-c-eq0-2.false) in
    exit chroma _ _ c.from_residual-in_err-test.ensures.1
    (c.put_flag.ensures ⟫ put _ _ on (signed offset.symbols _ v.pps_cb_qp_offset (search rules) c.in_ok-put_offset.ensures) (put _ _ on (signed offset.symbols _ v.pps_cr_qp_offset (search rules) c.in_ok-put_offset-2.ensures) (put _ _ on c.put_flag-2.ensures (named (λ (b : Bool). (offset_or b (pos 0)).symbols v.pps_joint_cbcr_qp_offset_value) _ (inside _ on) (signed (offset_or (is_set v.pps_joint_cbcr_qp_offset_present_flag) (pos 0)).symbols _ v.pps_joint_cbcr_qp_offset_value (search rules) (c.in_ok-put_offset_if.ensures (pos 0))) ⟫ put _ _ on c.put_flag-3.ensures (put _ _ on c.put_flag-4.ensures (fails _ _ _ (named (λ (b : Bool). check b 21) _ (sizes_listed n ts six listed) (c.in_err-test.ensures.put _ _))))))))

pub returns-in_err-put_ue : goal.returns-in_err-put_ue
unfolding chroma ◌>>=◌ number
returns-in_err-put_ue c =
    let v = c.args.c.now in
    let on = present c.if-c-eq0.false in
    let n = v.cu_chroma_qp_offset_list_len in
    let ts = c.args.triples.now in
    let six : length ts ≡ 6 = c.told-triples in
    let listed = both on (present c.if-c-eq0-2.false) in
    exit chroma _ _ c.from_residual-in_err-put_ue.ensures.1
    (c.put_flag.ensures ⟫ put _ _ on (signed offset.symbols _ v.pps_cb_qp_offset (search rules) c.in_ok-put_offset.ensures) (put _ _ on (signed offset.symbols _ v.pps_cr_qp_offset (search rules) c.in_ok-put_offset-2.ensures) (put _ _ on c.put_flag-2.ensures (named (λ (b : Bool). (offset_or b (pos 0)).symbols v.pps_joint_cbcr_qp_offset_value) _ (inside _ on) (signed (offset_or (is_set v.pps_joint_cbcr_qp_offset_present_flag) (pos 0)).symbols _ v.pps_joint_cbcr_qp_offset_value (search rules) (c.in_ok-put_offset_if.ensures (pos 0))) ⟫ put _ _ on c.put_flag-3.ensures (put _ _ on c.put_flag-4.ensures (tested (named (λ (b : Bool). check b 21) _ (sizes_listed n ts six listed) (c.in_ok-test.ensures.put _ _)) (stop_in _ _ _ _ _ listed (named ue_symbols _ (last_listed n ts six listed c.in_ok-test.ensures.passed) c.in_err-put_ue.ensures))))))))

pub returns : goal.returns
unfolding chroma ◌>>=◌ number
returns c =
    let v = c.args.c.now in
    let on = present c.if-c-eq0.false in
    let n = v.cu_chroma_qp_offset_list_len in
    let ts = c.args.triples.now in
    let six : length ts ≡ 6 = c.told-triples in
    let listed = both on (present c.if-c-eq0-2.false) in
    follows chroma
    (c.put_flag.ensures ⟫ put _ _ on (signed offset.symbols _ v.pps_cb_qp_offset (search rules) c.in_ok-put_offset.ensures) (put _ _ on (signed offset.symbols _ v.pps_cr_qp_offset (search rules) c.in_ok-put_offset-2.ensures) (put _ _ on c.put_flag-2.ensures (named (λ (b : Bool). (offset_or b (pos 0)).symbols v.pps_joint_cbcr_qp_offset_value) _ (inside _ on) (signed (offset_or (is_set v.pps_joint_cbcr_qp_offset_present_flag) (pos 0)).symbols _ v.pps_joint_cbcr_qp_offset_value (search rules) (c.in_ok-put_offset_if.ensures (pos 0))) ⟫ put _ _ on c.put_flag-3.ensures (put _ _ on c.put_flag-4.ensures (tested (named (λ (b : Bool). check b 21) _ (sizes_listed n ts six listed) (c.in_ok-test.ensures.put _ _)) (put _ _ listed (named ue_symbols _ (last_listed n ts six listed c.in_ok-test.ensures.passed) c.in_ok-put_ue.ensures) (past (put _ _ listed (put_listed n ts six listed c.in_ok-test.ensures.passed _ _ _ (inside _ on) c.put_triples.ensures) (end))))))))))
