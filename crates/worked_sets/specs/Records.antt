-- The records and lent tables of the worked examples.
use Rattle.std.specs.Prelude.{ℕ, ◌-◌, List, [], ◌∷◌, ◌++◌, ℤ, pos, length, replicate}
use Rattle.partition.specs.Slices.{Slice}
use Rattle.pps_record.specs.Absent.{no_partition}
use Rattle.pps_record.specs.declared.VvcPps.{VvcPps}
use Rattle.pps_record.specs.declared.VvcPpsPartition.{VvcPpsPartition}
use Rattle.partition.specs.Grid.{max_tile_columns, max_tiles, max_slices_minus1, max_slices}
use Rattle.pps_syntax.specs.FromRecord.{Lent, lent}
use Rattle.pps_syntax.specs.SliceTables.{slice_tables, bits_of_delta}
use Rattle.pps_syntax.specs.SubpicIds.{max_subpics}
use Rattle.pps_tables.specs.Rows.{no_entry}

-- ---- records

-- A picture of w by h samples with this no-partition flag, this partition, and these extension flag, first bit and number of bits; all else 0.
abbrev pub picture : ℕ → ℕ → ℕ → VvcPpsPartition → ℕ → ℕ → ℕ → VvcPps
picture w h unpartitioned p extension first_bit bits =
    record {
      pps_pic_parameter_set_id = 0;
      pps_seq_parameter_set_id = 0;
      pps_mixed_nalu_types_in_pic_flag = 0;
      pps_pic_width_in_luma_samples = w;
      pps_pic_height_in_luma_samples = h;
      pps_conf_win_offsets = record { present = 0; pps_conf_win_left_offset = 0; pps_conf_win_right_offset = 0; pps_conf_win_top_offset = 0; pps_conf_win_bottom_offset = 0 };
      pps_scaling_win_offsets = record { present = 0; pps_scaling_win_left_offset = pos 0; pps_scaling_win_right_offset = pos 0; pps_scaling_win_top_offset = pos 0; pps_scaling_win_bottom_offset = pos 0 };
      pps_output_flag_present_flag = 0;
      pps_no_pic_partition_flag = unpartitioned;
      subpic_id_mapping = record { present = 0; pps_num_subpics_minus1 = 0; pps_subpic_id_len_minus1 = 0; num_subpic_ids = 0 };
      partition = p;
      pps_cabac_init_present_flag = 0;
      pps_num_ref_idx_default_active_minus1_l0 = 0;
      pps_num_ref_idx_default_active_minus1_l1 = 0;
      pps_rpl1_idx_present_flag = 0;
      pps_weighted_pred_flag = 0;
      pps_weighted_bipred_flag = 0;
      pps_ref_wraparound_enabled_flag = 0;
      pps_pic_width_minus_wraparound_offset = 0;
      pps_init_qp_minus26 = pos 0;
      pps_cu_qp_delta_enabled_flag = 0;
      chroma_tool_offsets = record { present = 0; pps_cb_qp_offset = pos 0; pps_cr_qp_offset = pos 0; pps_joint_cbcr_qp_offset_present_flag = 0; pps_joint_cbcr_qp_offset_value = pos 0; pps_slice_chroma_qp_offsets_present_flag = 0; pps_cu_chroma_qp_offset_list_enabled_flag = 0; cu_chroma_qp_offset_list_len = 0 };
      deblocking = record { present = 0; pps_deblocking_filter_override_enabled_flag = 0; pps_deblocking_filter_disabled_flag = 0; pps_dbf_info_in_ph_flag = 0; pps_luma_beta_offset_div2 = pos 0; pps_luma_tc_offset_div2 = pos 0; pps_cb_beta_offset_div2 = pos 0; pps_cb_tc_offset_div2 = pos 0; pps_cr_beta_offset_div2 = pos 0; pps_cr_tc_offset_div2 = pos 0 };
      pps_rpl_info_in_ph_flag = 0;
      pps_sao_info_in_ph_flag = 0;
      pps_alf_info_in_ph_flag = 0;
      pps_wp_info_in_ph_flag = 0;
      pps_qp_delta_info_in_ph_flag = 0;
      pps_picture_header_extension_present_flag = 0;
      pps_slice_header_extension_present_flag = 0;
      pps_extension_flag = extension;
      pps_extension_data_first_bit = first_bit;
      pps_extension_data_bits = bits;
    }

abbrev pub unpartitioned : ℕ → ℕ → VvcPps
unpartitioned w h = picture w h 1 no_partition 0 0 0

abbrev pub partitioned : ℕ → ℕ → VvcPpsPartition → VvcPps
partitioned w h p = picture w h 0 p 0 0 0

-- CTBs of 32 samples, one explicit column and one explicit row; rectangular slices, of which N and so many entries, with or without deltas.
abbrev pub slicing : ℕ → ℕ → ℕ → VvcPpsPartition
slicing N deltas entries =
    record {
      present = 1;
      pps_log2_ctu_size_minus5 = 0;
      num_tile_column_widths = 1;
      num_tile_row_heights = 1;
      pps_loop_filter_across_tiles_enabled_flag = 1;
      pps_rect_slice_flag = 1;
      pps_single_slice_per_subpic_flag = 0;
      pps_num_slices_in_pic_minus1 = N;
      pps_tile_idx_delta_present_flag = deltas;
      num_rect_slices = entries;
      pps_loop_filter_across_slices_enabled_flag = 1;
    }

-- ---- tables at their stated lengths

-- A table of so many places: these numbers, then zeros.
unfoldable pub places : {A : Type 0} → ℕ → A → List A → List A
places n z l = l ++ replicate (n - length l) z

-- A column width and a row height minus 1; then the rows of the entries, and the split heights minus 1.
abbrev pub tables_of : ℕ → ℕ → List (List ℕ) → List ℕ → Lent
tables_of w h entries heights =
    lent (places max_subpics 0 []) (places max_tile_columns 0 (w ∷ [])) (places max_tiles 0 (h ∷ [])) (slice_tables (places max_slices_minus1 no_entry entries) (places max_slices 0 heights))

-- All numbers 0: tiles of one CTB, and entries of one tile.
abbrev pub zero_tables : Lent
zero_tables = tables_of 0 0 [] []

abbrev pub no_tables : Lent
no_tables = lent [] [] [] (slice_tables [] [])

-- One tile of one column and a row of 7 CTBs, its entry split into these explicit heights minus 1.
abbrev pub row_of7 : List ℕ → Lent
row_of7 heights = tables_of 0 6 ((0 ∷ 0 ∷ 1 ∷ length heights ∷ 0 ∷ 0 ∷ []) ∷ []) heights

-- Tiles of one CTB, and two entries of one column: one tile, then one over two rows; with these deltas.
abbrev pub with_deltas : ℤ → ℤ → Lent
with_deltas d e = tables_of 0 0 ((0 ∷ 0 ∷ 0 ∷ 0 ∷ 1 ∷ bits_of_delta d ∷ []) ∷ (0 ∷ 1 ∷ 0 ∷ 0 ∷ 1 ∷ bits_of_delta e ∷ []) ∷ []) []

abbrev pub slice : ℕ → ℕ → ℕ → ℕ → Slice
slice l t w h = record { left = l; top = t; width = w; height = h }
