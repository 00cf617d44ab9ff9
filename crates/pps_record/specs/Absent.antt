-- The partition block where a set has none.
use Rattle.pps_record.specs.declared.VvcPpsPartition.{VvcPpsPartition}

unfoldable pub no_partition : VvcPpsPartition
no_partition =
    record {
      present = 0;
      pps_log2_ctu_size_minus5 = 0;
      num_tile_column_widths = 0;
      num_tile_row_heights = 0;
      pps_loop_filter_across_tiles_enabled_flag = 0;
      pps_rect_slice_flag = 0;
      pps_single_slice_per_subpic_flag = 0;
      pps_num_slices_in_pic_minus1 = 0;
      pps_tile_idx_delta_present_flag = 0;
      num_rect_slices = 0;
      pps_loop_filter_across_slices_enabled_flag = 0;
    }
