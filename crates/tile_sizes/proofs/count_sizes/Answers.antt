-- The invariant is `Counting`: what remains of the axis, and the last explicit size so far.
use Rattle.tile_sizes.proofs.Count.{begins, goes_on, passes-axis, uniform_some, counted}
use Rattle.tile_sizes.proofs.count_sizes.Goals as goal

pub loop-e-init : goal.loop-e-init
loop-e-init c = begins _ _

pub returns-then-e-remaining : goal.returns-then-e-remaining
returns-then-e-remaining c = passes-axis _ _ _ _ _ c.loop-e-test.true c.if-e-remaining.true c.loop-e.invariant

pub loop-e-preserved : goal.loop-e-preserved
loop-e-preserved c = goes_on _ _ _ _ _ c.loop-e-test.true c.if-e-remaining.false c.loop-e.invariant

pub div_ceil-requires : goal.div_ceil-requires
div_ceil-requires c = uniform_some _ _ _ _ _ c.loop-e-test.false c.loop-e.invariant

pub returns : goal.returns
returns c = counted _ _ _ _ _ c.loop-e-test.false c.loop-e.invariant _ c.div_ceil.ensures
