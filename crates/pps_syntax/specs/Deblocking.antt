-- The deblocking filter control block (H.266 7.3.2.5, 7.4.3.5).
use Rattle.std.proofs.Math.Path.{refl}
use Rattle.std.specs.Prelude.{Bool, ◌&&◌, eqb, pos}
use Rattle.pps_record.specs.declared.VvcPpsDeblocking.{VvcPpsDeblocking}
use Rattle.pps_syntax.specs.Offsets.{offset_or}
use Rattle.syntax.specs.Element.{Element}
use Rattle.syntax.specs.Elements.{flag, is_set}
use Rattle.syntax.proofs.Elements.{flag_if}
use Rattle.syntax.proofs.Round.{structure}
use Rattle.syntax.specs.Syntax.{Syntax, done, ◌for◌, ◌>>=◌, ◌&◌, rebuilt, Faithful, Whole}

module _ (partitioned with_chroma : Bool) where
  unfoldable pub deblocking : Syntax VvcPpsDeblocking
  deblocking = do
    present ← flag for (λ r. r.present)
    let on = is_set present
    override ← flag_if on for (λ r. r.pps_deblocking_filter_override_enabled_flag)
    disabled ← flag_if on for (λ r. r.pps_deblocking_filter_disabled_flag)
    info ← flag_if (on && (partitioned && is_set override)) for (λ r. r.pps_dbf_info_in_ph_flag)
    let enabled = on && eqb disabled 0
    luma_beta ← offset_or enabled (pos 0) for (λ r. r.pps_luma_beta_offset_div2)
    luma_tc ← offset_or enabled (pos 0) for (λ r. r.pps_luma_tc_offset_div2)
    -- without a chroma block the four chroma offsets are those of luma
    let coded = enabled && with_chroma
    cb_beta ← offset_or coded luma_beta for (λ r. r.pps_cb_beta_offset_div2)
    cb_tc ← offset_or coded luma_tc for (λ r. r.pps_cb_tc_offset_div2)
    cr_beta ← offset_or coded luma_beta for (λ r. r.pps_cr_beta_offset_div2)
    cr_tc ← offset_or coded luma_tc for (λ r. r.pps_cr_tc_offset_div2)
    done (record {
      present = present;
      pps_deblocking_filter_override_enabled_flag = override;
      pps_deblocking_filter_disabled_flag = disabled;
      pps_dbf_info_in_ph_flag = info;
      pps_luma_beta_offset_div2 = luma_beta;
      pps_luma_tc_offset_div2 = luma_tc;
      pps_cb_beta_offset_div2 = cb_beta;
      pps_cb_tc_offset_div2 = cb_tc;
      pps_cr_beta_offset_div2 = cr_beta;
      pps_cr_tc_offset_div2 = cr_tc;
    })

  pub deblocking_faithful : Faithful deblocking (λ _. Unit {0})
  unfolding deblocking Faithful ◌>>=◌
  deblocking_faithful = λ a _ b _ c _ d _ e _ f _ g _ h _ i _ j _. tt & refl & refl & refl & refl & refl & refl & refl & refl & refl & refl

  pub deblocking-whole : Whole deblocking
  unfolding deblocking rebuilt ◌>>=◌
  deblocking-whole r = refl

  abbrev pub deblocking_element : Element VvcPpsDeblocking
  deblocking_element = structure deblocking deblocking_faithful deblocking-whole
