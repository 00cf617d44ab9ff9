use Rattle.std.proofs.Common.{refl}
use Rattle.refusal.specs.Numbers.{number}
use Rattle.bit_reader.proofs.Gives.{at_exit}
use Rattle.pps_partition.proofs.Sizes.{large_ctu, large_ctu_put, no_columns, no_columns_put, no_rows, no_rows_put, many_counted, many_counted_put, no_widths, no_widths_put, no_heights, sizes_made, sizes_put}
use Rattle.pps_partition.proofs.tiles.read_tile_sizes.Goals as goal

pub returns-then-ctu-gt2 : goal.returns-then-ctu-gt2
unfolding number
returns-then-ctu-gt2 c = record {
  gives = large_ctu _ _ c.small_u-ctu.ensures c.if-ctu-gt2.true;
  tables = large_ctu_put _ _ c.small_u-ctu.ensures c.if-ctu-gt2.true _ _;
}

pub returns-in_err-columns_minus1 : goal.returns-in_err-columns_minus1
unfolding number
returns-in_err-columns_minus1 c = record {
  gives = at_exit c.from_residual.ensures.1 (no_columns _ _ c.small_u-ctu.ensures c.if-ctu-gt2.false c.in_err-columns_minus1.ensures);
  tables = no_columns_put _ _ c.small_u-ctu.ensures c.if-ctu-gt2.false c.in_err-columns_minus1.ensures _ _;
}

pub returns-in_err-rows_minus1 : goal.returns-in_err-rows_minus1
unfolding number
returns-in_err-rows_minus1 c = record {
  gives = at_exit c.from_residual-in_err-rows_minus1.ensures.1 (no_rows _ _ c.small_u-ctu.ensures c.if-ctu-gt2.false c.in_ok-columns_minus1.ensures c.in_err-rows_minus1.ensures);
  tables = no_rows_put _ _ c.small_u-ctu.ensures c.if-ctu-gt2.false c.in_ok-columns_minus1.ensures c.in_err-rows_minus1.ensures _ _;
}

pub returns-then-not-few : goal.returns-then-not-few
unfolding number
returns-then-not-few c = record {
  gives = many_counted _ _ c.small_u-ctu.ensures c.if-ctu-gt2.false c.in_ok-columns_minus1.ensures c.in_ok-rows_minus1.ensures c.if-not-few.true;
  tables = many_counted_put _ _ c.small_u-ctu.ensures c.if-ctu-gt2.false c.in_ok-columns_minus1.ensures c.in_ok-rows_minus1.ensures c.if-not-few.true _ _;
}

pub returns-in_err-columns : goal.returns-in_err-columns
unfolding number
returns-in_err-columns c = record {
  gives = at_exit c.from_residual-in_err-columns.ensures.1
      (no_widths _ _ c.small_u-ctu.ensures c.if-ctu-gt2.false c.in_ok-columns_minus1.ensures c.in_ok-rows_minus1.ensures c.if-not-few.false c.in_ctbs-pic_width.ensures c.in_err-columns.ensures.axis);
  tables = no_widths_put _ _ c.small_u-ctu.ensures c.if-ctu-gt2.false c.in_ok-columns_minus1.ensures c.in_ok-rows_minus1.ensures c.if-not-few.false c.in_ctbs-pic_width.ensures c.in_err-columns.ensures.axis _ _ c.in_err-columns.ensures.table;
}

pub returns-in_err-rows : goal.returns-in_err-rows
unfolding number
returns-in_err-rows c = record {
  gives = at_exit c.from_residual-in_err-rows.ensures.1
      (no_heights _ _ c.small_u-ctu.ensures c.if-ctu-gt2.false c.in_ok-columns_minus1.ensures c.in_ok-rows_minus1.ensures c.if-not-few.false c.in_ctbs-pic_width.ensures c.in_ok-columns.ensures.axis c.in_ctbs-pic_height.ensures c.in_err-rows.ensures.axis);
  tables = sizes_put _ _ c.small_u-ctu.ensures c.if-ctu-gt2.false c.in_ok-columns_minus1.ensures c.in_ok-rows_minus1.ensures c.if-not-few.false c.in_ctbs-pic_width.ensures c.in_ok-columns.ensures.axis c.in_ctbs-pic_height.ensures _ _ c.in_ok-columns.ensures.table c.in_err-rows.ensures.table;
}

pub returns : goal.returns
unfolding number
returns c = record {
  gives = sizes_made _ _ c.small_u-ctu.ensures c.if-ctu-gt2.false c.in_ok-columns_minus1.ensures c.in_ok-rows_minus1.ensures c.if-not-few.false c.in_ctbs-pic_width.ensures c.in_ok-columns.ensures.axis c.in_ctbs-pic_height.ensures c.in_ok-rows.ensures.axis refl;
  tables = sizes_put _ _ c.small_u-ctu.ensures c.if-ctu-gt2.false c.in_ok-columns_minus1.ensures c.in_ok-rows_minus1.ensures c.if-not-few.false c.in_ctbs-pic_width.ensures c.in_ok-columns.ensures.axis c.in_ctbs-pic_height.ensures _ _ c.in_ok-columns.ensures.table c.in_ok-rows.ensures.table;
}
