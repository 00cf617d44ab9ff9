-- `Filling` of grid_sizes: the sizes written so far and those left are all of them.
use Rattle.std.proofs.Common.{take}
use Rattle.partition.specs.Sizes.{axis_sizes}
use Rattle.grid_sizes.proofs.Fill.{Filling}
use Rattle.pps_partition.proofs.tiles.spread.Given as goal

abbrev pub invariant-loop-j : goal.invariant-loop-j
invariant-loop-j l =
    Filling (take l.axis.count l.initial.table) (axis_sizes (take l.axis.count l.initial.table) l.initial.remaining) l.axis.uniform l.initial.table l.table l.remaining l.j
