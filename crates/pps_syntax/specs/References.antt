-- Reference indices, prediction and QP (H.266 7.3.2.5, 7.4.3.5).
use Rattle.std.specs.Prelude.{ℕ, refl, leb}
use Rattle.std.proofs.Common.{lit<}
use Rattle.pps_record.specs.declared.groups.References.{References}
use Rattle.syntax.specs.Element.{Element}
use Rattle.syntax.specs.Elements.{flag, ue, se, limited, is_set}
use Rattle.syntax.proofs.Elements.{ue_if}
use Rattle.syntax.proofs.Round.{structure}
use Rattle.syntax.specs.Syntax.{Syntax, done, ◌for◌, ◌>>=◌, ◌&◌, rebuilt, Faithful, Whole}

-- a reference index is at most 14
abbrev pub ref_idx : Element ℕ
ref_idx = limited ue (λ v. leb v 14) 20 (lit< tt)

unfoldable pub references : Syntax References
references = do
  cabac ← flag for (λ r. r.pps_cabac_init_present_flag)
  l0 ← ref_idx for (λ r. r.pps_num_ref_idx_default_active_minus1_l0)
  l1 ← ref_idx for (λ r. r.pps_num_ref_idx_default_active_minus1_l1)
  rpl1 ← flag for (λ r. r.pps_rpl1_idx_present_flag)
  weighted ← flag for (λ r. r.pps_weighted_pred_flag)
  bipred ← flag for (λ r. r.pps_weighted_bipred_flag)
  wraparound ← flag for (λ r. r.pps_ref_wraparound_enabled_flag)
  offset ← ue_if (is_set wraparound) for (λ r. r.pps_pic_width_minus_wraparound_offset)
  qp ← se for (λ r. r.pps_init_qp_minus26)
  delta ← flag for (λ r. r.pps_cu_qp_delta_enabled_flag)
  done (record {
    pps_cabac_init_present_flag = cabac;
    pps_num_ref_idx_default_active_minus1_l0 = l0;
    pps_num_ref_idx_default_active_minus1_l1 = l1;
    pps_rpl1_idx_present_flag = rpl1;
    pps_weighted_pred_flag = weighted;
    pps_weighted_bipred_flag = bipred;
    pps_ref_wraparound_enabled_flag = wraparound;
    pps_pic_width_minus_wraparound_offset = offset;
    pps_init_qp_minus26 = qp;
    pps_cu_qp_delta_enabled_flag = delta;
  })

pub references_faithful : Faithful references (λ _. Unit {0})
unfolding references Faithful ◌>>=◌
references_faithful = λ a _ b _ c _ d _ e _ f _ g _ h _ i _ j _. tt & refl & refl & refl & refl & refl & refl & refl & refl & refl & refl

pub references-whole : Whole references
unfolding references rebuilt ◌>>=◌
references-whole r = refl

abbrev pub references_element : Element References
references_element = structure references references_faithful references-whole
