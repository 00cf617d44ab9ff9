-- The explicit sizes are the first so many of their tables.
use mathlib.Core.Path.{refl, ◌∙◌}
use native.Mathlib.Omega.{arith}
use Rattle.refusal.proofs.Numbers.{number_above0}
use Rattle.bit_writer.proofs.Ended.{at_err}
use Rattle.bit_writer.proofs.Steps.{test_failed}
use Rattle.pps_syntax.specs.SliceTables.{slices_from}
use Rattle.pps_tables.specs.Lent.{lent_of}
use Rattle.pps_put_partition.specs.Rest.{tiles-refused, grid-refused, block_goes}
use Rattle.pps_put_partition.proofs.put_partition.Goals as goal

pub returns-in_err-put_tile_sizes : goal.returns-in_err-put_tile_sizes
returns-in_err-put_tile_sizes c =
    at_err _ _ _ _ c.from_residual.ensures.1
    ∙ tiles-refused _ _ c.args.p.now _ _ (slices_from (lent_of c.args.tables).slices 0 0 c.args.p.now.num_rect_slices) _ c.in_err-put_tile_sizes.ensures (λ z. absurd (let h = number_above0 c.in_err-put_tile_sizes.field-0.0 in omega arith))
    ∙ rw (c.column_widths-widths.ensures, c.row_heights-heights.ensures)

pub returns-in_err-grid : goal.returns-in_err-grid
returns-in_err-grid c =
    at_err _ _ _ _ c.from_residual-in_err-grid.ensures.1
    ∙ grid-refused _ _ c.args.p.now _ _ (slices_from (lent_of c.args.tables).slices 0 0 c.args.p.now.num_rect_slices) _ c.in_ok-put_tile_sizes.ensures c.in_err-grid.field-0.0 c.in_err-grid.ensures (test_failed _ _ _ refl refl)
    ∙ rw (c.column_widths-widths.ensures, c.row_heights-heights.ensures)

pub returns : goal.returns
returns c =
    block_goes _ _ c.args.p.now _ _ _ _ c.in_ok-put_tile_sizes.ensures c.in_ok-grid.grid c.in_ok-grid.ensures c.put_slicing.ensures
    ∙ rw (c.column_widths-widths.ensures, c.row_heights-heights.ensures)
