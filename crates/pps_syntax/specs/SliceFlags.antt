-- The flags of the partition block that say how slices are coded, and N (H.266 7.3.2.5).
use Rattle.std.specs.Prelude.{ℕ, Bool}
use Rattle.pps_syntax.specs.PartitionSyntax.{coded}

pub record SliceFlags : Type 0 where
  pub pps_loop_filter_across_tiles_enabled_flag : ℕ
  pub pps_rect_slice_flag : ℕ
  pub pps_single_slice_per_subpic_flag : ℕ
  pub pps_num_slices_in_pic_minus1 : ℕ
  pub pps_tile_idx_delta_present_flag : ℕ

-- rectangular slices are coded
abbrev pub codes : SliceFlags → Bool
codes f = coded f.pps_rect_slice_flag f.pps_single_slice_per_subpic_flag
