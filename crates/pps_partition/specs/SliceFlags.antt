-- The flags of the partition block that say how slices are coded, and N (H.266 7.3.2.5).
use Rattle.std.specs.Prelude.{Bool, ◌&&◌, ltb}
use Rattle.pps_syntax.specs.PartitionSyntax.{coded, rect_flag, slices_minus1}
use Rattle.pps_syntax.specs.SliceFlags.{SliceFlags}
use Rattle.syntax.specs.Elements.{is_set}
use Rattle.syntax.proofs.Elements.{flag_if}
use Rattle.syntax.specs.Syntax.{Syntax, done, ◌for◌, ◌>>=◌}
use Rattle.pps_partition.specs.declared.slicing.SliceFlagsRead.{SliceFlagsRead}

unfoldable pub slice_flags : Bool → Syntax SliceFlags
slice_flags several = do
  across_tiles ← flag_if several for (λ r. r.pps_loop_filter_across_tiles_enabled_flag)
  rect ← rect_flag several for (λ r. r.pps_rect_slice_flag)
  single ← flag_if (is_set rect) for (λ r. r.pps_single_slice_per_subpic_flag)
  N ← slices_minus1 (coded rect single) for (λ r. r.pps_num_slices_in_pic_minus1)
  deltas ← flag_if (coded rect single && ltb 1 N) for (λ r. r.pps_tile_idx_delta_present_flag)
  done (record {
    pps_loop_filter_across_tiles_enabled_flag = across_tiles;
    pps_rect_slice_flag = rect;
    pps_single_slice_per_subpic_flag = single;
    pps_num_slices_in_pic_minus1 = N;
    pps_tile_idx_delta_present_flag = deltas;
  })

abbrev pub flags_kept : SliceFlags → SliceFlagsRead
flags_kept f =
    record {
      across_tiles = f.pps_loop_filter_across_tiles_enabled_flag;
      rect = f.pps_rect_slice_flag;
      single = f.pps_single_slice_per_subpic_flag;
      num_slices_minus1 = f.pps_num_slices_in_pic_minus1;
      deltas = f.pps_tile_idx_delta_present_flag;
    }
