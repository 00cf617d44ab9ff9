-- What the grid, plan and cover questions test in a record with its lent tables, in order, and the layout that they answer from (docs/BEHAVIOUR.md).
use Rattle.std.specs.Prelude.{ℕ, List, [], ◌∷◌, map, Bool, not, cond, ◌&&◌, ◌||◌, ltb, leb, eqb}
use Rattle.std.specs.Bool.{beq}
use Rattle.partition.specs.Checks.{Check, refuse, first_bad}
use Rattle.partition.specs.Entry.{Entry, asking, first_position}
use Rattle.partition.specs.Grid.{Grid, tiles, max_slices_minus1}
use Rattle.partition.specs.Partition.{Layout, unsliced, from_walk, unless, layout}
use Rattle.partition.specs.Walk.{walk}
use Rattle.pps_record.specs.declared.VvcPps.{VvcPps}
use Rattle.pps_record.specs.declared.VvcPpsPartition.{VvcPpsPartition}
use Rattle.pps_syntax.specs.FromRecord.{Lent, partition_from, tables_long, counts_fit}
use Rattle.pps_syntax.specs.PartitionSyntax.{PartitionBlock, coded, partition_of}
use Rattle.pps_syntax.specs.SliceSyntax.{entry_of}
use Rattle.pps_syntax.specs.SliceTables.{SliceTables, slices_from}
use Rattle.syntax.specs.Elements.{is_set}

-- Some flag of a partition is over 1.
unfoldable pub flag_over1 : VvcPpsPartition → Bool
flag_over1 p =
    ltb 1 p.pps_loop_filter_across_tiles_enabled_flag || (ltb 1 p.pps_rect_slice_flag || (ltb 1 p.pps_single_slice_per_subpic_flag
    || (ltb 1 p.pps_tile_idx_delta_present_flag || ltb 1 p.pps_loop_filter_across_slices_enabled_flag)))

-- The tests before the partition's own: tables and counts as in writing, the extension bits aside; the picture's size; the no-partition flag; a present partition's flags, and
-- that it is present exactly where the no-partition flag is 0 (7.3.2.5).
unfoldable pub record_checks : VvcPps → Lent → List Check
record_checks r t =
    refuse 5 (not (tables_long t && counts_fit r t))
    ∷ refuse 7 (eqb r.pps_pic_width_in_luma_samples 0 || eqb r.pps_pic_height_in_luma_samples 0)
    ∷ refuse 26 (ltb 1 r.pps_no_pic_partition_flag)
    ∷ refuse 26 (is_set r.partition.present && flag_over1 r.partition)
    ∷ refuse 26 (beq (is_set r.partition.present) (is_set r.pps_no_pic_partition_flag))
    ∷ []

-- An unpartitioned picture has no columns and no rows.
unfoldable pub no_tiles : Grid
no_tiles = record { column_widths = []; row_heights = [] }

unfoldable pub picture_layout : ℕ → ℕ → List PartitionBlock → Layout
picture_layout W H [] = unsliced no_tiles
picture_layout W H (b ∷ bs) = layout asking (partition_of W H b)

-- The layout of a record's picture: declined with the number of the first test that it fails, those of the partition being writing's and the two that `asking` adds.
unfoldable pub layout_asked : VvcPps → Lent → Layout
layout_asked r t =
    unless (first_bad (record_checks r t)) (picture_layout r.pps_pic_width_in_luma_samples r.pps_pic_height_in_luma_samples (partition_from r.partition t))

-- ---- a partition in its grid

-- The tests between the grid's and the slice loop's: a single tile's slices are rectangular; then, where slices are coded, N and the delta flag, and where not, that there are no entries.
unfoldable pub slicing_checks : ℕ → Bool → Bool → ℕ → Bool → ℕ → List Check
slicing_checks tile_count rectangular sliced N deltas entries =
    refuse 26 (leb tile_count 1 && not rectangular)
    ∷ cond sliced (refuse 14 (ltb max_slices_minus1 N) ∷ refuse 26 (deltas && ltb N 2) ∷ []) (refuse 26 (not (eqb entries 0)) ∷ [])

-- The entries of the slice loop in their tables.
unfoldable pub entries_in : SliceTables → ℕ → List Entry
entries_in t n = map entry_of (slices_from t 0 0 n)

-- The layout of a partition whose grid is accepted.
unfoldable pub sliced_in : Grid → VvcPpsPartition → SliceTables → Layout
sliced_in g p t =
    let sliced : Bool = coded p.pps_rect_slice_flag p.pps_single_slice_per_subpic_flag in
    let deltas : Bool = is_set p.pps_tile_idx_delta_present_flag in
    unless (first_bad (slicing_checks (tiles g) (is_set p.pps_rect_slice_flag) sliced p.pps_num_slices_in_pic_minus1 deltas p.num_rect_slices))
    (cond sliced (from_walk g (walk asking g deltas p.pps_num_slices_in_pic_minus1 first_position (entries_in t p.num_rect_slices))) (unsliced g))
