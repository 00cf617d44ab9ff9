use native.Mathlib.Omega.{arith}
use Rattle.tile_grid.specs.Marking.{counting-goes-on, counting-skips, counting-ends}
use Rattle.tile_grid.proofs.covering.count_edges.Goals as goal

pub loop-g-preserved-then-not-inside : goal.loop-g-preserved-then-not-inside
loop-g-preserved-then-not-inside c = counting-skips _ _ _ _ _ _ _ c.loop-g.invariant (omega arith) (rw c.if-not-inside.true at c.inside.ensures)

pub loop-g-preserved : goal.loop-g-preserved
loop-g-preserved c = counting-goes-on _ _ _ _ _ _ _ c.loop-g.invariant 1 _ _ (omega arith) (rw c.if-not-inside.false at c.inside.ensures) c.add_one.ensures c.add_one-in-loop-g.ensures

pub returns : goal.returns
returns c = counting-ends _ _ _ _ _ _ _ c.loop-g.invariant (omega arith)
