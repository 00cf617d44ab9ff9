-- One step of the description for each call.
use Prim.Native.Nat.{◌+◌}
use mathlib.Core.Bool.{Bool}
use mathlib.Core.Path.{refl, sym}
use native.Mathlib.Omega.{arith}
use Rattle.codes.specs.Symbols.{check-none}
use Rattle.refusal.specs.Numbers.{number}
use Rattle.pps_syntax.specs.SubpicIds.{subpic_ids}
use Rattle.syntax.specs.Syntax.{◌>>=◌}
use Rattle.syntax.proofs.PutSteps.{follows, exit, ◌⟫◌, stop, stop_in, end, put, skip}
use Rattle.pps_put.proofs.Named.{named, present, missing, not_first}
use Rattle.pps_put_blocks.specs.SubpicIdsPut.{num_subpics}
use Rattle.pps_put_blocks.proofs.SubpicIds.{Ids, put_ids, stop_ids, no_num, no_ids}
use Rattle.pps_put_blocks.proofs.subpic_ids.put_subpic_ids.Goals as goal

pub returns-then-m-eq0 : goal.returns-then-m-eq0
unfolding subpic_ids ◌>>=◌ number
returns-then-m-eq0 c =
    let off = missing c.if-m-eq0.true in
    follows (subpic_ids _)
    (c.put_flag.ensures ⟫ skip _ _ (not_first _ off) (no_num _ off) (skip _ _ off (check-none _) (skip _ _ off (no_ids _ off) end)))

pub returns-in_err-put_num : goal.returns-in_err-put_num
unfolding subpic_ids ◌>>=◌ number
returns-in_err-put_num c =
    let on = present c.if-m-eq0.false in
    exit (subpic_ids _) _ _ c.from_residual.ensures.1
    (c.put_flag.ensures ⟫ stop _ _ _ (named (λ (b : Bool). (num_subpics b c.args.partitioned).symbols c.args.m.now.pps_num_subpics_minus1) _ (sym on) c.in_err-put_num.ensures))

pub returns-in_err-put_ue_at_most : goal.returns-in_err-put_ue_at_most
unfolding subpic_ids ◌>>=◌ number
returns-in_err-put_ue_at_most c =
    let on = present c.if-m-eq0.false in
    exit (subpic_ids _) _ _ c.from_residual-in_err-put_ue_at_most.ensures.1
    (c.put_flag.ensures ⟫ named (λ (b : Bool). (num_subpics b c.args.partitioned).symbols c.args.m.now.pps_num_subpics_minus1) _ (sym on) c.in_ok-put_num.ensures ⟫ stop_in _ _ _ _ _ on c.in_err-put_ue_at_most.ensures)

pub returns-in_err-put_each : goal.returns-in_err-put_each
unfolding subpic_ids ◌>>=◌ number
returns-in_err-put_each c =
    let on = present c.if-m-eq0.false in
    let m = c.args.m.now in
    let ids : Ids m.pps_num_subpics_minus1 m.pps_subpic_id_len_minus1 m.num_subpic_ids c.args.ids.now c.min-there.result (m.pps_num_subpics_minus1 + 1) c.min.result (c.min-2.result + 1) =
    record { all = refl; held = omega (arith, c.min-there.ensures); some = omega (arith, c.min.ensures); long = omega (arith, c.min-2.ensures) } in
    exit (subpic_ids _) _ _ c.from_residual-in_err-put_each.ensures.1
    (c.put_flag.ensures ⟫ named (λ (b : Bool). (num_subpics b c.args.partitioned).symbols c.args.m.now.pps_num_subpics_minus1) _ (sym on) c.in_ok-put_num.ensures ⟫ put _ _ on c.in_ok-put_ue_at_most.ensures (stop_in _ _ _ _ _ on (stop_ids ids on _ _ _ _ c.in_err-put_each.ensures)))

pub returns : goal.returns
unfolding subpic_ids ◌>>=◌ number
returns c =
    let on = present c.if-m-eq0.false in
    let m = c.args.m.now in
    let ids : Ids m.pps_num_subpics_minus1 m.pps_subpic_id_len_minus1 m.num_subpic_ids c.args.ids.now c.min-there.result (m.pps_num_subpics_minus1 + 1) c.min.result (c.min-2.result + 1) =
    record { all = refl; held = omega (arith, c.min-there.ensures); some = omega (arith, c.min.ensures); long = omega (arith, c.min-2.ensures) } in
    follows (subpic_ids _)
    (c.put_flag.ensures ⟫ named (λ (b : Bool). (num_subpics b c.args.partitioned).symbols c.args.m.now.pps_num_subpics_minus1) _ (sym on) c.in_ok-put_num.ensures ⟫ put _ _ on c.in_ok-put_ue_at_most.ensures (put _ _ on (put_ids ids on _ c.in_ok-put_each.ensures (c.test.ensures.put _ _)) (end)))
