-- `Filling` of grid_sizes: the sizes written so far and those left are all of them.
use Rattle.std.proofs.Common.{arith}
use Rattle.tables.specs.Tables.{over}
use Rattle.grid_sizes.proofs.Fill.{filling_goes-on, filling_ends}
use Rattle.pps_partition.proofs.Fronts.{spread_begins, next_in_place, some_left, all_written}
use Rattle.pps_partition.proofs.tiles.spread.Goals as goal

pub loop-j-init : goal.loop-j-init
loop-j-init c = spread_begins _ _ _ _ c.requires.1 c.requires.2 (omega (arith, c.requires.3, c.requires.4))

pub loop-j-preserved : goal.loop-j-preserved
loop-j-preserved c = let more = some_left _ _ _ _ _ _ _ c.loop-j.invariant (omega (arith, c.requires.3)) in
    filling_goes-on _ _ _ _ _ _ _ _ more (next_in_place c.args.axis.count _ _ _ _ _ _ _ c.next_size-size.ensures c.loop-j.invariant) c.loop-j.invariant

pub returns : goal.returns
unfolding over
returns c = filling_ends _ _ _ _ _ _ _ (all_written _ _ _ _ _ _ _ c.loop-j.invariant (omega (arith, c.requires.3))) c.loop-j.invariant
