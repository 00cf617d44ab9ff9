-- What reading answers, for C to hold: the number of a refusal, 0 where nothing is refused, the bytes taken, the record
-- and the triples beside it; beside a refusal zeros.
use Rattle.std.specs.Prelude.{ℕ, ◌≡◌, pos, List}
use Rattle.std.proofs.Common.{ap, ◌∙◌}
use Rattle.pps_answer.specs.ParsePps.{ReadOutcome, outcome}
use Rattle.pps_answer.specs.Answers.{PpsAnswer, Accepted, Refused}
use Rattle.pps_record.specs.Absent.{no_partition}
use Rattle.pps_record.specs.declared.VvcPps.{VvcPps}
use Rattle.pps_record.specs.declared.VvcPpsPartition.{VvcPpsPartition}
use Rattle.pps_syntax.specs.FromRecord.{Lent}
use Rattle.pps_syntax.specs.Record.{no_triples}
use Rattle.vvc_pps.specs.declared.reading.VvcPpsRead.{VvcPpsRead}

-- zero throughout, beside a block
abbrev pub zeros_beside : VvcPpsPartition → VvcPps
zeros_beside block =
    record {
      pps_pic_parameter_set_id = 0;
      pps_seq_parameter_set_id = 0;
      pps_mixed_nalu_types_in_pic_flag = 0;
      pps_pic_width_in_luma_samples = 0;
      pps_pic_height_in_luma_samples = 0;
      pps_conf_win_offsets = record {
        present = 0;
        pps_conf_win_left_offset = 0;
        pps_conf_win_right_offset = 0;
        pps_conf_win_top_offset = 0;
        pps_conf_win_bottom_offset = 0;
      };
      pps_scaling_win_offsets = record {
        present = 0;
        pps_scaling_win_left_offset = pos 0;
        pps_scaling_win_right_offset = pos 0;
        pps_scaling_win_top_offset = pos 0;
        pps_scaling_win_bottom_offset = pos 0;
      };
      pps_output_flag_present_flag = 0;
      pps_no_pic_partition_flag = 0;
      subpic_id_mapping = record {
        present = 0;
        pps_num_subpics_minus1 = 0;
        pps_subpic_id_len_minus1 = 0;
        num_subpic_ids = 0;
      };
      partition = block;
      pps_cabac_init_present_flag = 0;
      pps_num_ref_idx_default_active_minus1_l0 = 0;
      pps_num_ref_idx_default_active_minus1_l1 = 0;
      pps_rpl1_idx_present_flag = 0;
      pps_weighted_pred_flag = 0;
      pps_weighted_bipred_flag = 0;
      pps_ref_wraparound_enabled_flag = 0;
      pps_pic_width_minus_wraparound_offset = 0;
      pps_init_qp_minus26 = pos 0;
      pps_cu_qp_delta_enabled_flag = 0;
      chroma_tool_offsets = record {
        present = 0;
        pps_cb_qp_offset = pos 0;
        pps_cr_qp_offset = pos 0;
        pps_joint_cbcr_qp_offset_present_flag = 0;
        pps_joint_cbcr_qp_offset_value = pos 0;
        pps_slice_chroma_qp_offsets_present_flag = 0;
        pps_cu_chroma_qp_offset_list_enabled_flag = 0;
        cu_chroma_qp_offset_list_len = 0;
      };
      deblocking = record {
        present = 0;
        pps_deblocking_filter_override_enabled_flag = 0;
        pps_deblocking_filter_disabled_flag = 0;
        pps_dbf_info_in_ph_flag = 0;
        pps_luma_beta_offset_div2 = pos 0;
        pps_luma_tc_offset_div2 = pos 0;
        pps_cb_beta_offset_div2 = pos 0;
        pps_cb_tc_offset_div2 = pos 0;
        pps_cr_beta_offset_div2 = pos 0;
        pps_cr_tc_offset_div2 = pos 0;
      };
      pps_rpl_info_in_ph_flag = 0;
      pps_sao_info_in_ph_flag = 0;
      pps_alf_info_in_ph_flag = 0;
      pps_wp_info_in_ph_flag = 0;
      pps_qp_delta_info_in_ph_flag = 0;
      pps_picture_header_extension_present_flag = 0;
      pps_slice_header_extension_present_flag = 0;
      pps_extension_flag = 0;
      pps_extension_data_first_bit = 0;
      pps_extension_data_bits = 0;
    }

unfoldable pub no_pps : VvcPps
no_pps = zeros_beside no_partition

unfoldable pub pps_read : PpsAnswer → VvcPpsRead
pps_read (Accepted a) = record { refused = 0; bytes_taken = a.bytes_taken; pps = a.pps; triples = a.triples }
pps_read (Refused k) = record { refused = k; bytes_taken = 0; pps = no_pps; triples = no_triples }

-- with what is left in the work buffer and in the tables
pub record HeldRead : Type 0 where
  pub answer : VvcPpsRead
  pub work : List ℕ
  pub tables : Lent

abbrev pub held_read : VvcPpsRead → List ℕ → Lent → HeldRead
held_read answer work tables = record { answer = answer; work = work; tables = tables }

abbrev pub read_held : ReadOutcome → HeldRead
read_held o = held_read (pps_read o.answer) o.work o.tables

-- ---- how code comes to it
pub read_held_lem : (r : VvcPpsRead) (o : PpsAnswer) (work : List ℕ) (t : Lent) (all : ReadOutcome)
    → r ≡ pps_read o → outcome o work t ≡ all → held_read r work t ≡ read_held all
read_held_lem r o work t all p q = ap (λ (a : VvcPpsRead). held_read a work t) p ∙ ap read_held q
