-- The groups of fields out of the record.
use Rattle.pps_record.specs.declared.VvcPps.{VvcPps}
use Rattle.pps_record.specs.declared.groups.Head.{Head}
use Rattle.pps_record.specs.declared.groups.PictureKind.{PictureKind}
use Rattle.pps_record.specs.declared.groups.References.{References}
use Rattle.pps_record.specs.declared.groups.PictureHeaderFlags.{PictureHeaderFlags}

abbrev pub head_of : VvcPps → Head
head_of r =
    record {
      pps_pic_parameter_set_id = r.pps_pic_parameter_set_id;
      pps_seq_parameter_set_id = r.pps_seq_parameter_set_id;
      pps_mixed_nalu_types_in_pic_flag = r.pps_mixed_nalu_types_in_pic_flag;
      pps_pic_width_in_luma_samples = r.pps_pic_width_in_luma_samples;
      pps_pic_height_in_luma_samples = r.pps_pic_height_in_luma_samples;
    }

abbrev pub kind_of : VvcPps → PictureKind
kind_of r =
    record {
      pps_output_flag_present_flag = r.pps_output_flag_present_flag;
      pps_no_pic_partition_flag = r.pps_no_pic_partition_flag;
    }

abbrev pub references_of : VvcPps → References
references_of r =
    record {
      pps_cabac_init_present_flag = r.pps_cabac_init_present_flag;
      pps_num_ref_idx_default_active_minus1_l0 = r.pps_num_ref_idx_default_active_minus1_l0;
      pps_num_ref_idx_default_active_minus1_l1 = r.pps_num_ref_idx_default_active_minus1_l1;
      pps_rpl1_idx_present_flag = r.pps_rpl1_idx_present_flag;
      pps_weighted_pred_flag = r.pps_weighted_pred_flag;
      pps_weighted_bipred_flag = r.pps_weighted_bipred_flag;
      pps_ref_wraparound_enabled_flag = r.pps_ref_wraparound_enabled_flag;
      pps_pic_width_minus_wraparound_offset = r.pps_pic_width_minus_wraparound_offset;
      pps_init_qp_minus26 = r.pps_init_qp_minus26;
      pps_cu_qp_delta_enabled_flag = r.pps_cu_qp_delta_enabled_flag;
    }

abbrev pub picture_header_flags_of : VvcPps → PictureHeaderFlags
picture_header_flags_of r =
    record {
      pps_rpl_info_in_ph_flag = r.pps_rpl_info_in_ph_flag;
      pps_sao_info_in_ph_flag = r.pps_sao_info_in_ph_flag;
      pps_alf_info_in_ph_flag = r.pps_alf_info_in_ph_flag;
      pps_wp_info_in_ph_flag = r.pps_wp_info_in_ph_flag;
      pps_qp_delta_info_in_ph_flag = r.pps_qp_delta_info_in_ph_flag;
      pps_picture_header_extension_present_flag = r.pps_picture_header_extension_present_flag;
      pps_slice_header_extension_present_flag = r.pps_slice_header_extension_present_flag;
      pps_extension_flag = r.pps_extension_flag;
    }
