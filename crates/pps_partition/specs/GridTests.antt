-- The tests of the grid, over what was counted on its axes.
use Rattle.std.specs.Prelude.{ℕ, ◌/◌, List, cond, leb, Option, Some, None, Result, Ok, Err, length}
use Rattle.refusal.specs.declared.Refusal.{Refusal}
use Rattle.refusal.specs.declared.Refusal.TheVariants.{TileSizesSum, GridTooLarge}
use Rattle.bit_reader.specs.declared.Cursor.{Cursor}
use Rattle.bit_reader.specs.Reading.{demanded}
use Rattle.partition.specs.Grid.{max_tile_columns, max_tiles}
use Rattle.partition.specs.Partition.{in_ctbs}
use Rattle.partition.specs.Sizes.{sum, explicit_sizes, axis_sizes}
use Rattle.pps_partition.specs.declared.tiles.NumTiles.{NumTiles}
use Rattle.pps_partition.specs.TileSizes.{TileSizes}

-- 12 where the explicit sizes of an axis pass it, 13 where the grid is over its limits: columns, then rows
unfoldable pub axes_tested : Option ℕ → Option ℕ → Result NumTiles Refusal
axes_tested None _ = Err TileSizesSum
axes_tested (Some w) None = cond (leb w max_tile_columns) (Err TileSizesSum) (Err GridTooLarge)
axes_tested (Some w) (Some h) =
    cond (leb w max_tile_columns)
    (cond (leb h (max_tiles / w)) (Ok (record { columns = w; rows = h })) (Err GridTooLarge))
    (Err GridTooLarge)

-- the same as the block's description has them
unfoldable pub grid_tested : ℕ → ℕ → TileSizes → Cursor → Cursor
grid_tested W H t c =
    let w : ℕ = in_ctbs W t.pps_log2_ctu_size_minus5 in
    let h : ℕ = in_ctbs H t.pps_log2_ctu_size_minus5 in
    let ws : List ℕ = t.pps_tile_column_width_minus1 in
    let hs : List ℕ = t.pps_tile_row_height_minus1 in
    demanded (leb (length (axis_sizes hs h)) (max_tiles / length (axis_sizes ws w))) 13
    (demanded (leb (sum (explicit_sizes hs)) h) 12
    (demanded (leb (length (axis_sizes ws w)) max_tile_columns) 13
    (demanded (leb (sum (explicit_sizes ws)) w) 12 c)))
