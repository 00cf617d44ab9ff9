use mathlib.Core.Path.{ap, refl, sym, ◌∙◌}
use borrow.Author.Tests.{leb-true, leb-false}
use native.Mathlib.Omega.{arith}
use Rattle.tile_grid.specs.Placing.{placing_begins, placing_wide, placing_tall, placing_room, placing_fits, placing_goes-on, plan_length, last_fits, with_last, without-last, all_placed, blank-long}
use Rattle.slice_loop.specs.declared.TileIdx.{TileIdx}
use Rattle.tile_grid.specs.Starts.{tiles-small}
use Rattle.tile_grid.proofs.place.place_slices.Goals as goal
use Rattle.tile_grid.proofs.place.place_slices.Goals.{then-has_slice, else-has_slice}

pub loop-i-init : goal.loop-i-init
loop-i-init c = placing_begins _ _ _ _ _ _ _ _ c.requires.4.0 c.requires.4.1 c.requires.2

pub overflow_add-group : goal.overflow_add-group
overflow_add-group c = omega (arith, placing_wide c.loop-i.invariant c.loop-i-test.true _ _ c.entry-e.ensures c.split_heights_of-heights.ensures, c.requires.0.few)

pub overflow_add-group-in-loop-i : goal.overflow_add-group-in-loop-i
overflow_add-group-in-loop-i c = omega (arith, placing_tall c.loop-i.invariant c.loop-i-test.true _ _ c.entry-e.ensures c.split_heights_of-heights.ensures, c.requires.1.few)

pub bounds-placed-i : goal.bounds-placed-i
bounds-placed-i c = omega (arith, placing_room c.loop-i.invariant c.loop-i-test.true _ _ c.entry-e.ensures c.split_heights_of-heights.ensures, c.requires.3)

pub place_group-slice-requires : goal.place_group-slice-requires
place_group-slice-requires c =
    let f = placing_fits c.loop-i.invariant c.loop-i-test.true _ _ c.entry-e.ensures c.split_heights_of-heights.ensures c.requires.0 c.requires.1 _ _ c.place-corner.ensures.0 c.place-corner.ensures.1 c.requires.3 in
    (f.0, f.1, f.2, f.3, f.4, f.5, f.6, f.7, f.8, plan_length c.loop-i.invariant ∙ blank-long)

pub loop-i-preserved : goal.loop-i-preserved
loop-i-preserved c = placing_goes-on c.loop-i.invariant c.loop-i-test.true _ _ c.entry-e.ensures c.split_heights_of-heights.ensures c.requires.0 c.requires.1 _ _ c.place-corner.ensures.0 c.place-corner.ensures.1 _ c.place_group-slice.ensures.next _ c.place_group-slice.ensures.slices _ (ap (λ (u : TileIdx). u.0) c.next_tile-tile.ensures) (tiles-small c.requires.0 c.requires.1)

pub place_group-slice-requires-then-has_slice : goal.place_group-slice-requires-then-has_slice
place_group-slice-requires-then-has_slice c =
    let f = last_fits c.loop-i.invariant c.loop-i-test.false (leb-true _ _ (sym c.if-has_slice.ensures)) c.requires.0 c.requires.1 _ _ _ _ c.place-corner-then-has_slice.ensures.0 c.place-corner-then-has_slice.ensures.1 c.columns_left.ensures c.rows_left.ensures _ refl c.requires.3 in
    (f.0, f.1, f.2, f.3, f.4, f.5, f.6, f.7, f.8, plan_length c.loop-i.invariant ∙ blank-long)

pub returns : goal.returns
returns c = elim c.if-has_slice.branch [
  | then-has_slice w ↦ rw (w.placed-is, w.slice-is) (all_placed (with_last c.loop-i.invariant c.loop-i-test.false (leb-true _ _ (sym w.if-has_slice.ensures)) c.requires.0 c.requires.1 _ _ _ _ w.place-corner-then-has_slice.ensures.0 w.place-corner-then-has_slice.ensures.1 w.columns_left.ensures w.rows_left.ensures _ refl _ w.place_group-slice-then-has_slice.ensures.next _ w.place_group-slice-then-has_slice.ensures.slices) c.requires.3)
  | else-has_slice w ↦ rw (w.placed-is, w.slice-is) (all_placed (without-last c.loop-i.invariant c.loop-i-test.false (omega (arith, leb-false _ _ (sym w.if-has_slice.ensures)))) c.requires.3)
]
