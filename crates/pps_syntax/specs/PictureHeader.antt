-- What stands in the picture header, and whether there are extensions (H.266 7.3.2.5).
use Rattle.std.proofs.Math.Path.{refl}
use Rattle.std.specs.Prelude.{Bool, ◌&&◌}
use Rattle.pps_record.specs.declared.groups.PictureHeaderFlags.{PictureHeaderFlags}
use Rattle.syntax.specs.Element.{Element}
use Rattle.syntax.specs.Elements.{flag, is_set}
use Rattle.syntax.proofs.Elements.{flag_if}
use Rattle.syntax.proofs.Round.{structure}
use Rattle.syntax.specs.Syntax.{Syntax, done, ◌for◌, ◌>>=◌, ◌&◌, rebuilt, Faithful, Whole}

module _ (partitioned weighted : Bool) where
  unfoldable pub picture_header : Syntax PictureHeaderFlags
  picture_header = do
    rpl ← flag_if partitioned for (λ r. r.pps_rpl_info_in_ph_flag)
    sao ← flag_if partitioned for (λ r. r.pps_sao_info_in_ph_flag)
    alf ← flag_if partitioned for (λ r. r.pps_alf_info_in_ph_flag)
    wp ← flag_if (partitioned && (weighted && is_set rpl)) for (λ r. r.pps_wp_info_in_ph_flag)
    qp ← flag_if partitioned for (λ r. r.pps_qp_delta_info_in_ph_flag)
    picture ← flag for (λ r. r.pps_picture_header_extension_present_flag)
    slice ← flag for (λ r. r.pps_slice_header_extension_present_flag)
    extension ← flag for (λ r. r.pps_extension_flag)
    done (record {
      pps_rpl_info_in_ph_flag = rpl;
      pps_sao_info_in_ph_flag = sao;
      pps_alf_info_in_ph_flag = alf;
      pps_wp_info_in_ph_flag = wp;
      pps_qp_delta_info_in_ph_flag = qp;
      pps_picture_header_extension_present_flag = picture;
      pps_slice_header_extension_present_flag = slice;
      pps_extension_flag = extension;
    })

  pub picture_header_faithful : Faithful picture_header (λ _. Unit {0})
  unfolding picture_header Faithful ◌>>=◌
  picture_header_faithful = λ a _ b _ c _ d _ e _ f _ g _ h _. tt & refl & refl & refl & refl & refl & refl & refl & refl

  pub picture_header-whole : Whole picture_header
  unfolding picture_header rebuilt ◌>>=◌
  picture_header-whole r = refl

  abbrev pub picture_header_element : Element PictureHeaderFlags
  picture_header_element = structure picture_header picture_header_faithful picture_header-whole
