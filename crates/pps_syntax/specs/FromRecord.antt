-- The set that a record, the triples beside it and its lent tables say: what writing writes and the questions ask about. Counts of an absent part are taken as 0
-- (docs/BEHAVIOUR.md).
use Rattle.std.specs.Prelude.{ℕ, ◌+◌, ◌*◌, List, [], ◌∷◌, ◌++◌, map, Bool, cond, not, ◌&&◌, ◌||◌, leb, eqb, pos, length, get_or, take}
use Rattle.pps_record.specs.declared.VvcPps.{VvcPps}
use Rattle.pps_record.specs.declared.VvcPpsSubpicIdMapping.{VvcPpsSubpicIdMapping}
use Rattle.pps_record.specs.declared.VvcPpsPartition.{VvcPpsPartition}
use Rattle.pps_record.specs.declared.VvcPpsChromaToolOffsets.{VvcPpsChromaToolOffsets}
use Rattle.pps_record.specs.declared.VvcQpOffsets.{VvcQpOffsets}
use Rattle.partition.specs.Grid.{max_tile_columns, max_tiles, max_slices_minus1, max_slices}
use Rattle.codes.specs.Bytes.{bit_list}
use Rattle.pps_syntax.specs.Chroma.{Triple, ChromaToolOffsets}
use Rattle.pps_syntax.specs.PartitionSyntax.{PartitionBlock}
use Rattle.pps_syntax.specs.Pps.{Front, Back, Pps}
use Rattle.pps_syntax.specs.SliceTables.{SliceTables, slices_from, split_total}
use Rattle.pps_syntax.specs.SubpicIds.{SubpicIds, max_subpics}
use Rattle.syntax.specs.Elements.{is_set}

-- ---- what is lent beside the record
pub record Lent : Type 0 where
  pub subpic_ids : List ℕ
  pub column_widths : List ℕ
  pub row_heights : List ℕ
  pub slices : SliceTables

abbrev pub lent : List ℕ → List ℕ → List ℕ → SliceTables → Lent
lent ids columns rows slices = record { subpic_ids = ids; column_widths = columns; row_heights = rows; slices = slices }

-- ---- blocks
abbrev pub subpic_ids_from : VvcPpsSubpicIdMapping → List ℕ → SubpicIds
subpic_ids_from m ids =
    record {
      present = m.present;
      pps_num_subpics_minus1 = m.pps_num_subpics_minus1;
      pps_subpic_id_len_minus1 = m.pps_subpic_id_len_minus1;
      pps_subpic_id = cond (is_set m.present) (take m.num_subpic_ids ids) [];
    }

-- three offsets as a triple
abbrev pub triple_of : VvcQpOffsets → Triple
triple_of o = record { cb = get_or o.0 0 (pos 0); cr = get_or o.0 1 (pos 0); joint = get_or o.0 2 (pos 0) }

-- n triples: the six, and one of zeros behind them, so that a length over 6 is seen as such
unfoldable pub triples_from : ℕ → List VvcQpOffsets → List Triple
triples_from n triples = map triple_of (take n (triples ++ (record { 0 = [] } ∷ [])))

abbrev pub chroma_from : VvcPpsChromaToolOffsets → List VvcQpOffsets → ChromaToolOffsets
chroma_from c triples =
    record {
      present = c.present;
      pps_cb_qp_offset = c.pps_cb_qp_offset;
      pps_cr_qp_offset = c.pps_cr_qp_offset;
      pps_joint_cbcr_qp_offset_present_flag = c.pps_joint_cbcr_qp_offset_present_flag;
      pps_joint_cbcr_qp_offset_value = c.pps_joint_cbcr_qp_offset_value;
      pps_slice_chroma_qp_offsets_present_flag = c.pps_slice_chroma_qp_offsets_present_flag;
      pps_cu_chroma_qp_offset_list_enabled_flag = c.pps_cu_chroma_qp_offset_list_enabled_flag;
      list = cond (is_set c.present && is_set c.pps_cu_chroma_qp_offset_list_enabled_flag) (triples_from c.cu_chroma_qp_offset_list_len triples) [];
    }

abbrev pub block_from : VvcPpsPartition → Lent → PartitionBlock
block_from p t =
    record {
      pps_log2_ctu_size_minus5 = p.pps_log2_ctu_size_minus5;
      pps_tile_column_width_minus1 = take p.num_tile_column_widths t.column_widths;
      pps_tile_row_height_minus1 = take p.num_tile_row_heights t.row_heights;
      pps_loop_filter_across_tiles_enabled_flag = p.pps_loop_filter_across_tiles_enabled_flag;
      pps_rect_slice_flag = p.pps_rect_slice_flag;
      pps_single_slice_per_subpic_flag = p.pps_single_slice_per_subpic_flag;
      pps_num_slices_in_pic_minus1 = p.pps_num_slices_in_pic_minus1;
      pps_tile_idx_delta_present_flag = p.pps_tile_idx_delta_present_flag;
      rect_slices = slices_from t.slices 0 0 p.num_rect_slices;
      pps_loop_filter_across_slices_enabled_flag = p.pps_loop_filter_across_slices_enabled_flag;
    }

unfoldable pub partition_from : VvcPpsPartition → Lent → List PartitionBlock
partition_from p t = cond (is_set p.present) (block_from p t ∷ []) []

-- ---- the set
abbrev pub front_from : VvcPps → List ℕ → Front
front_from r ids =
    record {
      head =
          record {
            pps_pic_parameter_set_id = r.pps_pic_parameter_set_id;
            pps_seq_parameter_set_id = r.pps_seq_parameter_set_id;
            pps_mixed_nalu_types_in_pic_flag = r.pps_mixed_nalu_types_in_pic_flag;
            pps_pic_width_in_luma_samples = r.pps_pic_width_in_luma_samples;
            pps_pic_height_in_luma_samples = r.pps_pic_height_in_luma_samples;
          };
      conf_win = r.pps_conf_win_offsets;
      scaling_win = r.pps_scaling_win_offsets;
      kind = record { pps_output_flag_present_flag = r.pps_output_flag_present_flag; pps_no_pic_partition_flag = r.pps_no_pic_partition_flag };
      subpic_ids = subpic_ids_from r.subpic_id_mapping ids;
    }

abbrev pub back_from : VvcPps → List VvcQpOffsets → Back
back_from r triples =
    record {
      references =
          record {
            pps_cabac_init_present_flag = r.pps_cabac_init_present_flag;
            pps_num_ref_idx_default_active_minus1_l0 = r.pps_num_ref_idx_default_active_minus1_l0;
            pps_num_ref_idx_default_active_minus1_l1 = r.pps_num_ref_idx_default_active_minus1_l1;
            pps_rpl1_idx_present_flag = r.pps_rpl1_idx_present_flag;
            pps_weighted_pred_flag = r.pps_weighted_pred_flag;
            pps_weighted_bipred_flag = r.pps_weighted_bipred_flag;
            pps_ref_wraparound_enabled_flag = r.pps_ref_wraparound_enabled_flag;
            pps_pic_width_minus_wraparound_offset = r.pps_pic_width_minus_wraparound_offset;
            pps_init_qp_minus26 = r.pps_init_qp_minus26;
            pps_cu_qp_delta_enabled_flag = r.pps_cu_qp_delta_enabled_flag;
          };
      chroma = chroma_from r.chroma_tool_offsets triples;
      deblocking = r.deblocking;
      picture_header =
          record {
            pps_rpl_info_in_ph_flag = r.pps_rpl_info_in_ph_flag;
            pps_sao_info_in_ph_flag = r.pps_sao_info_in_ph_flag;
            pps_alf_info_in_ph_flag = r.pps_alf_info_in_ph_flag;
            pps_wp_info_in_ph_flag = r.pps_wp_info_in_ph_flag;
            pps_qp_delta_info_in_ph_flag = r.pps_qp_delta_info_in_ph_flag;
            pps_picture_header_extension_present_flag = r.pps_picture_header_extension_present_flag;
            pps_slice_header_extension_present_flag = r.pps_slice_header_extension_present_flag;
            pps_extension_flag = r.pps_extension_flag;
          };
    }

unfoldable pub set_from : VvcPps → List VvcQpOffsets → Lent → Pps
set_from r triples t = record { front = front_from r t.subpic_ids; partition_present = r.partition.present; partition = partition_from r.partition t; back = back_from r triples }

-- the extension bits, in the lent bytes
unfoldable pub extension_from : VvcPps → List ℕ → List ℕ
extension_from r bytes = bit_list bytes r.pps_extension_data_first_bit r.pps_extension_data_bits

-- ---- 5: tables at their stated lengths, and counts that they hold
unfoldable pub lengths_fit : ℕ → ℕ → ℕ → ℕ → ℕ → Bool
lengths_fit ids columns rows entries split_heights = leb max_subpics ids && (leb max_tile_columns columns && (leb max_tiles rows && (leb max_slices_minus1 entries && leb max_slices split_heights)))

abbrev pub tables_long : Lent → Bool
tables_long t = lengths_fit (length t.subpic_ids) (length t.column_widths) (length t.row_heights) (length t.slices.entries) (length t.slices.split_heights)

unfoldable pub counts_fit : VvcPps → Lent → Bool
counts_fit r t =
    let p : VvcPpsPartition = r.partition in
    (not (is_set r.subpic_id_mapping.present) || leb r.subpic_id_mapping.num_subpic_ids max_subpics)
    && (not (is_set p.present)
    || (leb p.num_tile_column_widths max_tile_columns && (leb p.num_tile_row_heights max_tiles && (leb p.num_rect_slices max_slices_minus1 && leb (split_total t.slices 0 p.num_rect_slices) max_slices))))

-- extension bits, where there are any, lie in the lent bytes
unfoldable pub extension_lent : VvcPps → List ℕ → Bool
extension_lent r bytes = eqb r.pps_extension_data_bits 0 || leb (r.pps_extension_data_first_bit + r.pps_extension_data_bits) (length bytes * 8)
