-- One step of the description for each call.
use mathlib.Core.Path.{◌≡◌, refl}
use Rattle.bit_writer.specs.Stop.{play_on}
use Rattle.bit_writer.specs.Written.{written}
use Rattle.syntax.specs.Elements.{is_set}
use Rattle.syntax.proofs.Elements.{ue_if}
use Rattle.codes.specs.Symbols.{check-none}
use Rattle.codes.specs.Coded.{se_symbols}
use Rattle.refusal.specs.Numbers.{number}
use Rattle.pps_syntax.specs.References.{references}
use Rattle.syntax.specs.Syntax.{◌>>=◌}
use Rattle.syntax.proofs.PutSteps.{follows, exit, ◌⟫◌, stop, end, stop_in, written_on, passed_over, met}
use Rattle.pps_put.proofs.Named.{signed, present, missing}
use borrow.Author.Rules.{rules}
use Rattle.pps_put.proofs.put_references.Goals as goal
use Rattle.pps_put.proofs.put_references.Goals.{then-v-ne0+in_ok-put_ue, else-v-ne0}

pub returns-in_err-put_ue_at_most : goal.returns-in_err-put_ue_at_most
unfolding references ◌>>=◌ number
returns-in_err-put_ue_at_most c = exit references _ _ c.from_residual.ensures.1 (c.put_flag.ensures ⟫ stop _ _ _ c.in_err-put_ue_at_most.ensures)

pub returns-in_err-put_ue_at_most-2 : goal.returns-in_err-put_ue_at_most-2
unfolding references ◌>>=◌ number
returns-in_err-put_ue_at_most-2 c =
    exit references _ _ c.from_residual-in_err-put_ue_at_most-2.ensures.1
    (c.put_flag.ensures ⟫ c.in_ok-put_ue_at_most.ensures ⟫ stop _ _ _ c.in_err-put_ue_at_most-2.ensures)

pub returns-in_err-put_ue : goal.returns-in_err-put_ue
unfolding references ◌>>=◌ number
returns-in_err-put_ue c =
    exit references _ _ c.from_residual-in_err-put_ue.ensures.1
    (c.put_flag.ensures ⟫ c.in_ok-put_ue_at_most.ensures ⟫ c.in_ok-put_ue_at_most-2.ensures ⟫ c.put_flag-2.ensures ⟫ c.put_flag-3.ensures ⟫ c.put_flag-4.ensures ⟫ c.put_flag-5.ensures
    ⟫ stop_in _ _ _ _ _ (present c.if-v-ne0.true) c.in_err-put_ue.ensures)

pub returns-in_err-put_se : goal.returns-in_err-put_se
unfolding references ◌>>=◌ number
returns-in_err-put_se c = let v = c.args.v.now in
    let f = c.put_flag-5.new in
    let offset : written c.if-v-ne0.w c.if-v-ne0.out ≡ play_on (written f.self f.out) ((ue_if (is_set v.pps_ref_wraparound_enabled_flag)).symbols v.pps_pic_width_minus_wraparound_offset) = elim c.if-v-ne0.branch [
      | then-v-ne0+in_ok-put_ue w ↦ met _ w.w-is w.out-is (written_on _ _ _ _ (present w.if-v-ne0.true) w.in_ok-put_ue.ensures)
      | else-v-ne0 w ↦ met _ w.w-is w.out-is (passed_over _ _ _ _ (missing w.if-v-ne0.false) (check-none _) refl)
    ] in
    exit references _ _ c.from_residual-in_err-put_se.ensures.1
    (c.put_flag.ensures ⟫ c.in_ok-put_ue_at_most.ensures ⟫ c.in_ok-put_ue_at_most-2.ensures ⟫ c.put_flag-2.ensures ⟫ c.put_flag-3.ensures ⟫ c.put_flag-4.ensures ⟫ c.put_flag-5.ensures ⟫ offset
    ⟫ stop _ _ _ (signed se_symbols _ _ (search rules) c.in_err-put_se.ensures))

pub returns : goal.returns
unfolding references ◌>>=◌ number
returns c = let v = c.args.v.now in
    let f = c.put_flag-5.new in
    let offset : written c.if-v-ne0.w c.if-v-ne0.out ≡ play_on (written f.self f.out) ((ue_if (is_set v.pps_ref_wraparound_enabled_flag)).symbols v.pps_pic_width_minus_wraparound_offset) = elim c.if-v-ne0.branch [
      | then-v-ne0+in_ok-put_ue w ↦ met _ w.w-is w.out-is (written_on _ _ _ _ (present w.if-v-ne0.true) w.in_ok-put_ue.ensures)
      | else-v-ne0 w ↦ met _ w.w-is w.out-is (passed_over _ _ _ _ (missing w.if-v-ne0.false) (check-none _) refl)
    ] in
    follows references
    (c.put_flag.ensures ⟫ c.in_ok-put_ue_at_most.ensures ⟫ c.in_ok-put_ue_at_most-2.ensures ⟫ c.put_flag-2.ensures ⟫ c.put_flag-3.ensures ⟫ c.put_flag-4.ensures ⟫ c.put_flag-5.ensures ⟫ offset
    ⟫ signed se_symbols _ _ (search rules) c.in_ok-put_se.ensures ⟫ c.put_flag-6.ensures ⟫ end)
