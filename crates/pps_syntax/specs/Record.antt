-- A set as the record that C and Rust hold, with its lists in lent tables.
use Rattle.std.specs.Prelude.{ℕ, List, [], ◌∷◌, map, pos, length}
use Rattle.std.proofs.lemmas.List.Edits.{sets}
use Rattle.tables.specs.Tables.{blank}
use Rattle.pps_record.specs.declared.VvcPps.{VvcPps}
use Rattle.pps_record.specs.declared.VvcPpsSubpicIdMapping.{VvcPpsSubpicIdMapping}
use Rattle.pps_record.specs.declared.VvcPpsPartition.{VvcPpsPartition}
use Rattle.pps_record.specs.declared.VvcPpsChromaToolOffsets.{VvcPpsChromaToolOffsets}
use Rattle.pps_record.specs.declared.VvcQpOffsets.{VvcQpOffsets}
use Rattle.pps_syntax.specs.SubpicIds.{SubpicIds}
use Rattle.pps_syntax.specs.PartitionSyntax.{PartitionBlock}
use Rattle.pps_syntax.specs.Chroma.{Triple, ChromaToolOffsets}
use Rattle.pps_syntax.specs.Pps.{Front, Back, Pps}

-- ---- blocks: a list is its length, the table holds it
abbrev pub mapping_of : SubpicIds → VvcPpsSubpicIdMapping
mapping_of m =
    record {
      present = m.present;
      pps_num_subpics_minus1 = m.pps_num_subpics_minus1;
      pps_subpic_id_len_minus1 = m.pps_subpic_id_len_minus1;
      num_subpic_ids = length m.pps_subpic_id;
    }

abbrev pub chroma_of : ChromaToolOffsets → VvcPpsChromaToolOffsets
chroma_of c =
    record {
      present = c.present;
      pps_cb_qp_offset = c.pps_cb_qp_offset;
      pps_cr_qp_offset = c.pps_cr_qp_offset;
      pps_joint_cbcr_qp_offset_present_flag = c.pps_joint_cbcr_qp_offset_present_flag;
      pps_joint_cbcr_qp_offset_value = c.pps_joint_cbcr_qp_offset_value;
      pps_slice_chroma_qp_offsets_present_flag = c.pps_slice_chroma_qp_offsets_present_flag;
      pps_cu_chroma_qp_offset_list_enabled_flag = c.pps_cu_chroma_qp_offset_list_enabled_flag;
      cu_chroma_qp_offset_list_len = length c.list;
    }

-- a triple as three offsets
abbrev pub offsets_of : Triple → VvcQpOffsets
offsets_of t = record { 0 = t.cb ∷ t.cr ∷ t.joint ∷ [] }

-- six of zeros
unfoldable pub no_triples : List VvcQpOffsets
no_triples = blank 6 (record { 0 = pos 0 ∷ pos 0 ∷ pos 0 ∷ [] })

-- those of a list, then zeros
abbrev pub triples_of : List Triple → List VvcQpOffsets
triples_of list = sets no_triples 0 (map offsets_of list)

-- the partition block, with its presence flag; zeros where there is none
unfoldable pub partition_record : ℕ → List PartitionBlock → VvcPpsPartition
partition_record present [] =
    record {
      present = present;
      pps_log2_ctu_size_minus5 = 0;
      num_tile_column_widths = 0;
      num_tile_row_heights = 0;
      pps_loop_filter_across_tiles_enabled_flag = 0;
      pps_rect_slice_flag = 0;
      pps_single_slice_per_subpic_flag = 0;
      pps_num_slices_in_pic_minus1 = 0;
      pps_tile_idx_delta_present_flag = 0;
      num_rect_slices = 0;
      pps_loop_filter_across_slices_enabled_flag = 0;
    }
partition_record present (p ∷ ps) =
    record {
      present = present;
      pps_log2_ctu_size_minus5 = p.pps_log2_ctu_size_minus5;
      num_tile_column_widths = length p.pps_tile_column_width_minus1;
      num_tile_row_heights = length p.pps_tile_row_height_minus1;
      pps_loop_filter_across_tiles_enabled_flag = p.pps_loop_filter_across_tiles_enabled_flag;
      pps_rect_slice_flag = p.pps_rect_slice_flag;
      pps_single_slice_per_subpic_flag = p.pps_single_slice_per_subpic_flag;
      pps_num_slices_in_pic_minus1 = p.pps_num_slices_in_pic_minus1;
      pps_tile_idx_delta_present_flag = p.pps_tile_idx_delta_present_flag;
      num_rect_slices = length p.rect_slices;
      pps_loop_filter_across_slices_enabled_flag = p.pps_loop_filter_across_slices_enabled_flag;
    }

-- ---- the whole record, with the extension's first bit and number of bits
unfoldable pub record_of : Pps → ℕ → ℕ → VvcPps
record_of r first_bit bits =
    let f : Front = r.front in
    let b : Back = r.back in
    record {
      pps_pic_parameter_set_id = f.head.pps_pic_parameter_set_id;
      pps_seq_parameter_set_id = f.head.pps_seq_parameter_set_id;
      pps_mixed_nalu_types_in_pic_flag = f.head.pps_mixed_nalu_types_in_pic_flag;
      pps_pic_width_in_luma_samples = f.head.pps_pic_width_in_luma_samples;
      pps_pic_height_in_luma_samples = f.head.pps_pic_height_in_luma_samples;
      pps_conf_win_offsets = f.conf_win;
      pps_scaling_win_offsets = f.scaling_win;
      pps_output_flag_present_flag = f.kind.pps_output_flag_present_flag;
      pps_no_pic_partition_flag = f.kind.pps_no_pic_partition_flag;
      subpic_id_mapping = mapping_of f.subpic_ids;
      partition = partition_record r.partition_present r.partition;
      pps_cabac_init_present_flag = b.references.pps_cabac_init_present_flag;
      pps_num_ref_idx_default_active_minus1_l0 = b.references.pps_num_ref_idx_default_active_minus1_l0;
      pps_num_ref_idx_default_active_minus1_l1 = b.references.pps_num_ref_idx_default_active_minus1_l1;
      pps_rpl1_idx_present_flag = b.references.pps_rpl1_idx_present_flag;
      pps_weighted_pred_flag = b.references.pps_weighted_pred_flag;
      pps_weighted_bipred_flag = b.references.pps_weighted_bipred_flag;
      pps_ref_wraparound_enabled_flag = b.references.pps_ref_wraparound_enabled_flag;
      pps_pic_width_minus_wraparound_offset = b.references.pps_pic_width_minus_wraparound_offset;
      pps_init_qp_minus26 = b.references.pps_init_qp_minus26;
      pps_cu_qp_delta_enabled_flag = b.references.pps_cu_qp_delta_enabled_flag;
      chroma_tool_offsets = chroma_of b.chroma;
      deblocking = b.deblocking;
      pps_rpl_info_in_ph_flag = b.picture_header.pps_rpl_info_in_ph_flag;
      pps_sao_info_in_ph_flag = b.picture_header.pps_sao_info_in_ph_flag;
      pps_alf_info_in_ph_flag = b.picture_header.pps_alf_info_in_ph_flag;
      pps_wp_info_in_ph_flag = b.picture_header.pps_wp_info_in_ph_flag;
      pps_qp_delta_info_in_ph_flag = b.picture_header.pps_qp_delta_info_in_ph_flag;
      pps_picture_header_extension_present_flag = b.picture_header.pps_picture_header_extension_present_flag;
      pps_slice_header_extension_present_flag = b.picture_header.pps_slice_header_extension_present_flag;
      pps_extension_flag = b.picture_header.pps_extension_flag;
      pps_extension_data_first_bit = first_bit;
      pps_extension_data_bits = bits;
    }
