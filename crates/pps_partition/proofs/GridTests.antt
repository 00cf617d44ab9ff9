-- The tests of the grid from every cursor, and what they have shown where nothing is refused.
use Rattle.std.specs.Prelude.{ℕ, ◌≡◌, refl, Bool, true, false, cond, eqb}
use Rattle.std.proofs.Common.{ap, ◌∙◌, lit<}
use borrow.Author.Tests.{leb-true, eqb-true, eqb-false}
use Rattle.refusal.specs.Numbers.{refused}
use Rattle.bit_reader.specs.declared.Cursor.{Cursor}
use Rattle.bit_reader.specs.Laws.{cursor_is, demanded-held}
use Rattle.partition.specs.Grid.{columns, rows}
use Rattle.partition.specs.Partition.{in_ctbs, tile_grid}
use Rattle.partition.specs.Sizes.{Fit}
use Rattle.syntax.specs.Round.{and-true}
use Rattle.tile_sizes.specs.Limits.{within_limits, Limited, limits_held}
use Rattle.pps_fields.specs.declared.lists.AxisRead.{AxisRead}
use Rattle.pps_fields.specs.Axis.{axis_of}
use Rattle.pps_partition.specs.GridTests.{axes_tested, grid_tested}
use Rattle.pps_partition.specs.TileSizes.{TileSizes, grid_from}
use Rattle.pps_partition.proofs.Whole.{tested-as, tested-stuck}

module _ (W H : ℕ) (t : TileSizes) (c : Cursor) where
  -- the tests over what was counted on the axes; behind a refusal none is made
  pub axes-tested : (columns rows : AxisRead) → columns ≡ axis_of t.pps_tile_column_width_minus1 (in_ctbs W t.pps_log2_ctu_size_minus5)
      → rows ≡ axis_of t.pps_tile_row_height_minus1 (in_ctbs H t.pps_log2_ctu_size_minus5)
      → grid_tested W H t c ≡ record { at = c.at; refused = cond (eqb c.refused 0) (refused (axes_tested columns.sizes rows.sizes)) c.refused }
  axes-tested columns rows e f = split (eqb c.refused 0) refl
    where
      split : (b : Bool) → eqb c.refused 0 ≡ b → grid_tested W H t c ≡ record { at = c.at; refused = cond b (refused (axes_tested columns.sizes rows.sizes)) c.refused }
      split true z = ap (grid_tested W H t) (cursor_is c (eqb-true c.refused 0 z)) ∙ tested-as W H t c.at ∙ rw (e, f)
      split false z = tested-stuck W H t c (eqb-false c.refused 0 z)

  -- what they have shown
  pub record GridFits : Type 0 where
    pub limited : Limited (columns (grid_from W H t)) (rows (grid_from W H t))
    pub rows_fit : Fit t.pps_tile_row_height_minus1 (in_ctbs H t.pps_log2_ctu_size_minus5)

  pub grid-accepted : (grid_tested W H t c).refused ≡ 0 → GridFits
  unfolding grid_tested within_limits tile_grid
  grid-accepted h =
      let a = demanded-held _ 13 _ (lit< tt) h in
      let b = demanded-held _ 12 _ (lit< tt) a.1 in
      let d = demanded-held _ 13 _ (lit< tt) b.1 in
      record { limited = limits_held _ _ (and-true _ _ d.0 a.0); rows_fit = leb-true _ _ b.0 }
