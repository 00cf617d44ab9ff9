-- The partition block as it is written, up to a refusal: group by group, and the description's steps over them.
use Rattle.std.specs.Prelude.{ℕ, ◌-◌, ◌/◌, ◌≡◌, refl, List, Bool, not, ◌&&◌, eqb, ltb, leb, length}
use Rattle.std.proofs.Common.{◌∙◌, lit<}
use Rattle.codes.specs.Coded.{ue_symbols}
use Rattle.codes.specs.Symbols.{check}
use Rattle.bit_writer.specs.Writing.{Writing}
use Rattle.partition.specs.Entry.{first_position}
use Rattle.partition.specs.Grid.{Grid, max_tile_columns, max_tiles}
use Rattle.partition.specs.Partition.{in_ctbs, tile_grid}
use Rattle.partition.specs.Sizes.{sum, explicit_sizes, axis_sizes}
use Rattle.syntax.specs.Elements.{ue, or_else, is_set}
use Rattle.syntax.proofs.Elements.{flag_if}
use Rattle.syntax.specs.Lists.{none}
use Rattle.syntax.specs.Syntax.{symbols_for, ◌for◌}
use Rattle.pps_syntax.specs.PartitionSyntax.{PartitionBlock, partition, some, coded, ctu_size, explicit, rect_flag, slices_minus1, several}
use Rattle.pps_syntax.specs.SliceSyntax.{RectSlice, rect_slices}
use Rattle.pps_syntax.specs.SliceFlags.{SliceFlags, codes}
use Rattle.bit_writer.specs.Stop.{play_on, on-refused}
use Rattle.syntax.specs.StopSteps.{stops-done, stops, stops-test, stops-both, stops_past}

-- the CTU size and the explicit tile sizes
unfoldable pub tiles_put : ℕ → ℕ → ℕ → List ℕ → List ℕ → Writing → Writing
tiles_put W H ctu ws hs w =
    play_on
    (play_on (play_on (play_on (play_on (play_on w (ctu_size.symbols ctu)) (check (some ws && some hs) 10)) (ue_symbols (length ws - 1))) (ue_symbols (length hs - 1))) ((explicit (length ws - 1) (in_ctbs W ctu)).symbols ws))
    ((explicit (length hs - 1) (in_ctbs H ctu)).symbols hs)

-- 12 where the explicit sizes of an axis pass it, 13 where the grid is over its limits: columns, then rows
unfoldable pub grid_put : ℕ → ℕ → ℕ → List ℕ → List ℕ → Writing → Writing
grid_put W H ctu ws hs w =
    play_on
    (play_on (play_on (play_on w (check (leb (sum (explicit_sizes ws)) (in_ctbs W ctu)) 12)) (check (leb (length (axis_sizes ws (in_ctbs W ctu))) max_tile_columns) 13)) (check (leb (sum (explicit_sizes hs)) (in_ctbs H ctu)) 12))
    (check (leb (length (axis_sizes hs (in_ctbs H ctu))) (max_tiles / length (axis_sizes ws (in_ctbs W ctu)))) 13)

-- the flags that say how slices are coded, and N
unfoldable pub flags_put : Bool → SliceFlags → Writing → Writing
flags_put several f w =
    play_on
    (play_on
    (play_on (play_on (play_on w ((flag_if several).symbols f.pps_loop_filter_across_tiles_enabled_flag)) ((rect_flag several).symbols f.pps_rect_slice_flag)) ((flag_if (is_set f.pps_rect_slice_flag)).symbols f.pps_single_slice_per_subpic_flag))
    ((slices_minus1 (codes f)).symbols f.pps_num_slices_in_pic_minus1))
    ((flag_if (codes f && ltb 1 f.pps_num_slices_in_pic_minus1)).symbols f.pps_tile_idx_delta_present_flag)

-- the slices, where they are coded; 26 for entries where they are not
unfoldable pub slices_put : Grid → Bool → Bool → ℕ → List RectSlice → Writing → Writing
slices_put g on deltas N rs w = play_on w ((or_else on (rect_slices g deltas N first_position) (none 26)).symbols rs)

-- what stands behind the grid
unfoldable pub rest_put : Grid → Bool → SliceFlags → List RectSlice → ℕ → Writing → Writing
rest_put g several f rs across w =
    play_on (slices_put g (codes f) (is_set f.pps_tile_idx_delta_present_flag) f.pps_num_slices_in_pic_minus1 rs (flags_put several f w)) ((flag_if (not (codes f && eqb f.pps_num_slices_in_pic_minus1 0))).symbols across)

abbrev pub flags_in : PartitionBlock → SliceFlags
flags_in b =
    record {
      pps_loop_filter_across_tiles_enabled_flag = b.pps_loop_filter_across_tiles_enabled_flag;
      pps_rect_slice_flag = b.pps_rect_slice_flag;
      pps_single_slice_per_subpic_flag = b.pps_single_slice_per_subpic_flag;
      pps_num_slices_in_pic_minus1 = b.pps_num_slices_in_pic_minus1;
      pps_tile_idx_delta_present_flag = b.pps_tile_idx_delta_present_flag;
    }

abbrev pub grid_from : ℕ → ℕ → PartitionBlock → Grid
grid_from W H b = tile_grid W H b.pps_log2_ctu_size_minus5 b.pps_tile_column_width_minus1 b.pps_tile_row_height_minus1

pub block-put : (W H : ℕ) (b : PartitionBlock) (w : Writing)
    → rest_put (grid_from W H b) (several (grid_from W H b)) (flags_in b) b.rect_slices b.pps_loop_filter_across_slices_enabled_flag
    (grid_put W H b.pps_log2_ctu_size_minus5 b.pps_tile_column_width_minus1 b.pps_tile_row_height_minus1 (tiles_put W H b.pps_log2_ctu_size_minus5 b.pps_tile_column_width_minus1 b.pps_tile_row_height_minus1 w))
    ≡ play_on w (symbols_for (partition W H) b)
unfolding partition rest_put grid_put tiles_put flags_put slices_put
block-put W H b w =
    let ctu = b.pps_log2_ctu_size_minus5 in
    let ws = b.pps_tile_column_width_minus1 in
    let hs = b.pps_tile_row_height_minus1 in
    let g = grid_from W H b in
    let on = coded b.pps_rect_slice_flag b.pps_single_slice_per_subpic_flag in
    let N = b.pps_num_slices_in_pic_minus1 in
    stops-done _ b _
    ∙ stops (flag_if (not (on && eqb N 0)) for _) _ b _ refl
    ∙ stops (or_else on (rect_slices g (is_set b.pps_tile_idx_delta_present_flag) N first_position) (none 26) for _) _ b _ refl
    ∙ stops (flag_if (on && ltb 1 N) for _) _ b _ refl
    ∙ stops (slices_minus1 on for _) _ b _ refl
    ∙ stops (flag_if (is_set b.pps_rect_slice_flag) for _) _ b _ refl
    ∙ stops (rect_flag (several g) for _) _ b _ refl
    ∙ stops (flag_if (several g) for _) _ b _ refl
    ∙ stops-both _ 13 (lit< tt) _ b _ refl
    ∙ stops-both _ 12 (lit< tt) _ b _ refl
    ∙ stops-both _ 13 (lit< tt) _ b _ refl
    ∙ stops-both _ 12 (lit< tt) _ b _ refl
    ∙ stops (explicit (length hs - 1) (in_ctbs H ctu) for _) _ b _ refl
    ∙ stops (explicit (length ws - 1) (in_ctbs W ctu) for _) _ b _ refl
    ∙ stops_past _ 10 (lit< tt) _ b _
    ∙ stops (ue for _) _ b _ refl
    ∙ stops (ue for _) _ b _ refl
    ∙ stops-test _ 10 _ b _ refl
    ∙ stops (ctu_size for _) _ b w refl

-- nothing of it is put behind a refusal
pub rest-refused : (g : Grid) (several : Bool) (f : SliceFlags) (rs : List RectSlice) (across : ℕ) (w : Writing) → (w.sink.refused ≡ 0 → ⊥) → rest_put g several f rs across w ≡ w
unfolding rest_put slices_put flags_put
rest-refused g several f rs across w h = rw (on-refused w _ h, on-refused w _ h, on-refused w _ h, on-refused w _ h, on-refused w _ h, on-refused w _ h, on-refused w _ h)
