use Prim.Native.Nat.{ℕ, ◌+◌}
use mathlib.Core.Path.{refl}
use native.Mathlib.Omega.{arith}
use lib.ListN.{length-replicate}
use Rattle.partition.specs.Grid.{max_tiles}
use Rattle.tile_grid.specs.Starts.{starting_begins, starting_fits, starting_goes-on}
use Rattle.tile_grid.proofs.starts.starts_of.Goals as goal

pub loop-i-init : goal.loop-i-init
loop-i-init c = starting_begins _ _ (length-replicate {A = ℕ} (max_tiles + 1) 0) refl

pub overflow_add-total : goal.overflow_add-total
overflow_add-total c = omega (arith, starting_fits c.requires c.loop-i.invariant (omega arith))

pub loop-i-preserved : goal.loop-i-preserved
loop-i-preserved c = starting_goes-on c.requires c.loop-i.invariant (omega arith)
