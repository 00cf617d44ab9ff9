use Prim.Native.Nat.{◌≤◌}
use native.Mathlib.Omega.{arith}
use Rattle.std.proofs.Common.{ap, ◌∙◌, sym}
use Rattle.partition.specs.Sizes.{sum}
use Rattle.question_tests.specs.Questions.{no_tiles}
use Rattle.refusal.proofs.Numbers.{number_above0}
use Rattle.refusal.specs.Numbers.{refused}
use Rattle.tile_grid.specs.Answers.{as_tile_grid, number_at_exit}
use Rattle.tile_grid.specs.GridQuestion.{sizes_of, grid_answer_of}
use Rattle.tile_grid.specs.InGrid.{asked-tests, asked-absent, asked-grid, asked-slices, asked-accepted, sums-fit}
use Rattle.grid_sizes.specs.Answers.{grid_of_sizes}
use Rattle.refusal.specs.Answers.{with_number}
use Rattle.tile_sizes.specs.Padded.{zeros, table_of}
use Rattle.tile_grid.proofs.TileGrid.of_record.Goals as goal

pub returns-in_err-record_refusal-clause-grid : goal.returns-in_err-record_refusal-clause-grid
unfolding refused as_tile_grid sizes_of
returns-in_err-record_refusal-clause-grid c = number_at_exit _ _ c.from_residual.ensures.1 ∙ ap grid_answer_of (sym (asked-tests _ _ _ c.in_err-record_refusal.ensures (number_above0 _)))

pub returns-then-p-eq0-clause-grid : goal.returns-then-p-eq0-clause-grid
unfolding refused with_number as_tile_grid sizes_of grid_of_sizes no_tiles zeros table_of
returns-then-p-eq0-clause-grid c = ap grid_answer_of (sym (asked-absent _ _ c.in_ok-record_refusal.ensures c.if-p-eq0.true))

pub returns-then-p-eq0-clause-sums : goal.returns-then-p-eq0-clause-sums
unfolding sum
returns-then-p-eq0-clause-sums c = (omega arith, omega arith)

pub returns-in_err-sizes-clause-grid : goal.returns-in_err-sizes-clause-grid
unfolding refused with_number as_tile_grid sizes_of
returns-in_err-sizes-clause-grid c = number_at_exit _ _ c.from_residual-in_err-sizes.ensures.1 ∙ ap grid_answer_of (sym (asked-grid _ _ c.in_ok-record_refusal.ensures c.if-p-eq0.false _ (c.in_err-sizes.ensures ∙ rw (c.column_widths.ensures, c.row_heights.ensures))))

pub returns-in_err-slicing_refusal-clause-grid : goal.returns-in_err-slicing_refusal-clause-grid
unfolding refused with_number as_tile_grid sizes_of
returns-in_err-slicing_refusal-clause-grid c = number_at_exit _ _ c.from_residual-in_err-slicing_refusal.ensures.1 ∙ ap grid_answer_of (sym (asked-slices _ _ c.in_ok-record_refusal.ensures c.if-p-eq0.false _ (c.in_ok-sizes.ensures ∙ rw (c.column_widths.ensures, c.row_heights.ensures)) _ c.in_err-slicing_refusal.ensures (number_above0 _)))

pub returns-clause-grid : goal.returns-clause-grid
unfolding refused with_number as_tile_grid
returns-clause-grid c = ap as_tile_grid (sym (asked-accepted _ _ c.in_ok-record_refusal.ensures c.if-p-eq0.false _ (c.in_ok-sizes.ensures ∙ rw (c.column_widths.ensures, c.row_heights.ensures)) c.in_ok-slicing_refusal.ensures))

pub returns-clause-sums : goal.returns-clause-sums
unfolding refused with_number
returns-clause-sums c =
    let w : c.args.pps.now.pps_pic_width_in_luma_samples ≤ 4294967295 = omega arith in
    let h : c.args.pps.now.pps_pic_height_in_luma_samples ≤ 4294967295 = omega arith in
    sums-fit _ _ c.in_ok-record_refusal.ensures c.if-p-eq0.false _ (c.in_ok-sizes.ensures ∙ rw (c.column_widths.ensures, c.row_heights.ensures)) w h
