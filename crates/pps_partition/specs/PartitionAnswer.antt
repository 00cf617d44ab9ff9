-- What reading the partition block answers and leaves in the tables.
use Rattle.std.specs.Prelude.{ℕ, List, [], ◌∷◌}
use Rattle.bit_reader.specs.declared.Cursor.{Cursor}
use Rattle.bit_reader.specs.Gives.{Parsed}
use Rattle.pps_record.specs.declared.VvcPpsPartition.{VvcPpsPartition}
use Rattle.pps_syntax.specs.PartitionSyntax.{PartitionBlock}
use Rattle.pps_syntax.specs.Record.{partition_record}
use Rattle.syntax.specs.Syntax.{parse}
use Rattle.pps_partition.specs.GridTests.{grid_tested}
use Rattle.pps_partition.specs.Slicing.{slicing_left}
use Rattle.pps_partition.specs.TileSizes.{TileSizes, tile_sizes, grid_from}

-- the record of a block that is there
abbrev pub one_block : PartitionBlock → VvcPpsPartition
one_block b = partition_record 1 (b ∷ [])

-- the explicit slice heights of an entry that is refused: those of the slice loop, which stands behind the tile sizes,
-- the grid's tests and the flags
unfoldable pub partition_left : ℕ → ℕ → List ℕ → Cursor → List ℕ
partition_left W H s c =
    let t : Parsed TileSizes = parse (tile_sizes W H) s c in
    slicing_left (grid_from W H t.value) s (grid_tested W H t.value t.next)
