-- What is demanded of tiles and slices, of every set that was read: "Every block of an accepted partitioned picture lies in exactly one tile; without deltas no
-- block lies in two slices; the cover check says whole, gap or double exactly when that is so; the plan reports exactly these slices."
use Rattle.std.specs.Prelude.{List}
use Rattle.partition.specs.Entry.{asking}
use Rattle.partition.specs.Grid.{Grid}
use Rattle.partition.specs.Partition.{grid_of, layout, plan_of}
use Rattle.partition.specs.Slices.{Slice}
use Rattle.pps_syntax.specs.PartitionSyntax.{PartitionBlock}
use Rattle.pps_syntax.specs.Pps.{Pps}
use Rattle.pps_syntax.specs.ReadAccepted.{picture_of}

-- the grid, and the plan that the plan question gives
abbrev pub grid_read : Pps → PartitionBlock → Grid
grid_read r b = grid_of (picture_of r b)

abbrev pub plan_read : Pps → PartitionBlock → List Slice
plan_read r b = plan_of (layout asking (picture_of r b))
