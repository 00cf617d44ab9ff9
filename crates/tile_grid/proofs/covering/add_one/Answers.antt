use mathlib.Core.Path.{sym}
use native.Mathlib.Omega.{arith}
use lib.Seq.{set_out}
use Rattle.tile_grid.specs.Edges.{add_at}
use Rattle.tile_grid.proofs.covering.add_one.Goals as goal

pub returns-else-at-table : goal.returns-else-at-table
unfolding add_at
returns-else-at-table c = sym (set_out _ _ _ (omega arith))
