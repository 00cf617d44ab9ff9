use Prim.Native.Nat.{◌≤◌}
use native.Mathlib.Omega.{arith}
use Rattle.tile_grid.specs.Stacking.{stacking_begins, stacking_ends, stacking_length, stacking_room, stacking_goes-on, height-some, with_unit}
use Rattle.tile_grid.proofs.stack.stack.Goals as goal

pub loop-remaining-init : goal.loop-remaining-init
loop-remaining-init c = stacking_begins _ _ _ _ _ _ _ c.requires.0 c.requires.1

pub bounds-slices-k : goal.bounds-slices-k
bounds-slices-k c = let more : 1 ≤ c.loop-remaining.remaining = omega (arith, c.loop-remaining-test.true) in
    let r = stacking_room c.loop-remaining.invariant more _ (with_unit c.args.heights_minus1.now c.loop-remaining.j _ _ c.loop-remaining.remaining _ c.next_size-h.ensures c.unit_of-unit.ensures) in
    omega (arith, r, c.requires.3, c.requires.4, stacking_length c.loop-remaining.invariant)

pub loop-remaining-smaller : goal.loop-remaining-smaller
loop-remaining-smaller c = let more : 1 ≤ c.loop-remaining.remaining = omega (arith, c.loop-remaining-test.true) in
    let h = height-some c.loop-remaining.invariant more _ (with_unit c.args.heights_minus1.now c.loop-remaining.j _ _ c.loop-remaining.remaining _ c.next_size-h.ensures c.unit_of-unit.ensures) in
    omega (arith, h.0, h.1)

pub loop-remaining-preserved : goal.loop-remaining-preserved
loop-remaining-preserved c = let more : 1 ≤ c.loop-remaining.remaining = omega (arith, c.loop-remaining-test.true) in
    stacking_goes-on c.loop-remaining.invariant more _ (with_unit c.args.heights_minus1.now c.loop-remaining.j _ _ c.loop-remaining.remaining _ c.next_size-h.ensures c.unit_of-unit.ensures)

pub returns-clause-next : goal.returns-clause-next
returns-clause-next c = (stacking_ends c.loop-remaining.invariant (omega (arith, c.loop-remaining-test.false))).0

pub returns-clause-slices : goal.returns-clause-slices
returns-clause-slices c = (stacking_ends c.loop-remaining.invariant (omega (arith, c.loop-remaining-test.false))).1
