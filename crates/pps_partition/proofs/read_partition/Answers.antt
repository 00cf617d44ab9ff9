-- The parts of the block one behind the other.
use Rattle.std.proofs.Common.{arith, rules}
use Rattle.bit_reader.proofs.Gives.{at_exit}
use Rattle.pps_partition.proofs.Fronts.{room_long}
use Rattle.pps_partition.proofs.Whole.{columns_put, rows_put, no_sizes, no_sizes_put, no_grid, no_grid_put, no_slicing, slices_put, block_made, grid-small, spread_ready, spread_length, spread_front, grid_has}
use Rattle.pps_partition.proofs.read_partition.Goals as goal

pub returns-in_err-sizes-clause-answer : goal.returns-in_err-sizes-clause-answer
returns-in_err-sizes-clause-answer c = at_exit c.from_residual.ensures.1 (no_sizes _ _ c.in_err-sizes.ensures.gives)

pub returns-in_err-sizes-clause-columns : goal.returns-in_err-sizes-clause-columns
returns-in_err-sizes-clause-columns c = columns_put _ _ c.args.r.now _ _ c.read_tile_sizes-read.ensures.tables.0

pub returns-in_err-sizes-clause-rows : goal.returns-in_err-sizes-clause-rows
returns-in_err-sizes-clause-rows c = rows_put _ _ c.args.r.now c.args.tables.now.tile_row_heights.now c.copy_front.ensures c.read_tile_sizes-read.ensures.tables.1 c.copy_front-2.ensures

pub returns-in_err-sizes-clause-slices : goal.returns-in_err-sizes-clause-slices
returns-in_err-sizes-clause-slices c = no_sizes_put _ _ c.in_err-sizes.ensures.gives _

pub returns-in_err-num_tiles-clause-answer : goal.returns-in_err-num_tiles-clause-answer
returns-in_err-num_tiles-clause-answer c = at_exit c.from_residual-in_err-num_tiles.ensures.1 (no_grid _ _ c.in_ok-sizes.ensures.gives c.in_err-num_tiles.ensures)

pub returns-in_err-num_tiles-clause-columns : goal.returns-in_err-num_tiles-clause-columns
returns-in_err-num_tiles-clause-columns c = columns_put _ _ c.args.r.now _ _ c.read_tile_sizes-read.ensures.tables.0

pub returns-in_err-num_tiles-clause-rows : goal.returns-in_err-num_tiles-clause-rows
returns-in_err-num_tiles-clause-rows c = rows_put _ _ c.args.r.now c.args.tables.now.tile_row_heights.now c.copy_front.ensures c.read_tile_sizes-read.ensures.tables.1 c.copy_front-2.ensures

pub returns-in_err-num_tiles-clause-slices : goal.returns-in_err-num_tiles-clause-slices
returns-in_err-num_tiles-clause-slices c = no_grid_put _ _ c.in_ok-sizes.ensures.gives c.in_err-num_tiles.ensures _

pub spread-requires : goal.spread-requires
spread-requires c = spread_ready _ _ c.in_ok-sizes.ensures.gives c.in_ok-num_tiles.ensures _ _ (room_long c.args.tables.now.tile_row_heights.now c.copy_front.ensures) c.read_tile_sizes-read.ensures.tables.1

pub overflow_cast-num_tiles : goal.overflow_cast-num_tiles
overflow_cast-num_tiles c = omega (arith, (grid-small _ _ c.in_ok-sizes.ensures.gives c.in_ok-num_tiles.ensures).0)

pub slice_bounds-row_heights-end : goal.slice_bounds-row_heights-end
slice_bounds-row_heights-end c = spread_length _ _ c.in_ok-sizes.ensures.gives c.in_ok-num_tiles.ensures _ _ (room_long c.args.tables.now.tile_row_heights.now c.copy_front.ensures) c.read_tile_sizes-read.ensures.tables.1 c.spread.ensures

pub slice_bounds-read_slicing-end : goal.slice_bounds-read_slicing-end
slice_bounds-read_slicing-end c = spread_front _ _ c.in_ok-sizes.ensures.gives c.in_ok-num_tiles.ensures _ _ (room_long c.args.tables.now.tile_row_heights.now c.copy_front.ensures) c.read_tile_sizes-read.ensures.tables.1 c.spread.ensures

pub returns-in_err-slicing-clause-answer : goal.returns-in_err-slicing-clause-answer
returns-in_err-slicing-clause-answer c = at_exit c.from_residual-in_err-slicing.ensures.1 (no_slicing _ _ c.in_ok-sizes.ensures.gives c.in_ok-num_tiles.ensures (c.in_err-slicing.ensures.gives _ (grid_has _ _ c.in_ok-sizes.ensures.gives c.in_ok-num_tiles.ensures _ _ (room_long c.args.tables.now.tile_row_heights.now c.copy_front.ensures) c.read_tile_sizes-read.ensures.tables.1 c.spread.ensures)))

pub returns-in_err-slicing-clause-columns : goal.returns-in_err-slicing-clause-columns
returns-in_err-slicing-clause-columns c = columns_put _ _ c.args.r.now _ _ c.read_tile_sizes-read.ensures.tables.0

pub returns-in_err-slicing-clause-rows : goal.returns-in_err-slicing-clause-rows
returns-in_err-slicing-clause-rows c = rows_put _ _ c.args.r.now c.args.tables.now.tile_row_heights.now c.copy_front.ensures c.read_tile_sizes-read.ensures.tables.1 c.copy_front-2.ensures

pub returns-in_err-slicing-clause-slices : goal.returns-in_err-slicing-clause-slices
returns-in_err-slicing-clause-slices c = let r = slices_put _ _ c.in_ok-sizes.ensures.gives c.in_ok-num_tiles.ensures _ _ (c.in_err-slicing.ensures.tables _ (grid_has _ _ c.in_ok-sizes.ensures.gives c.in_ok-num_tiles.ensures _ _ (room_long c.args.tables.now.tile_row_heights.now c.copy_front.ensures) c.read_tile_sizes-read.ensures.tables.1 c.spread.ensures)) in search rules

pub returns-clause-answer : goal.returns-clause-answer
returns-clause-answer c = block_made _ _ c.in_ok-sizes.ensures.gives c.in_ok-num_tiles.ensures (c.in_ok-slicing.ensures.gives _ (grid_has _ _ c.in_ok-sizes.ensures.gives c.in_ok-num_tiles.ensures _ _ (room_long c.args.tables.now.tile_row_heights.now c.copy_front.ensures) c.read_tile_sizes-read.ensures.tables.1 c.spread.ensures))

pub returns-clause-columns : goal.returns-clause-columns
returns-clause-columns c = columns_put _ _ c.args.r.now _ _ c.read_tile_sizes-read.ensures.tables.0

pub returns-clause-rows : goal.returns-clause-rows
returns-clause-rows c = rows_put _ _ c.args.r.now c.args.tables.now.tile_row_heights.now c.copy_front.ensures c.read_tile_sizes-read.ensures.tables.1 c.copy_front-2.ensures

pub returns-clause-slices : goal.returns-clause-slices
returns-clause-slices c = let r = slices_put _ _ c.in_ok-sizes.ensures.gives c.in_ok-num_tiles.ensures _ _ (c.in_ok-slicing.ensures.tables _ (grid_has _ _ c.in_ok-sizes.ensures.gives c.in_ok-num_tiles.ensures _ _ (room_long c.args.tables.now.tile_row_heights.now c.copy_front.ensures) c.read_tile_sizes-read.ensures.tables.1 c.spread.ensures)) in search rules
