-- The parts one behind the other. A signed value is unchanged by the 32 bits of its field.
use Rattle.pps_slices.proofs.Entries.{entry_exit, width_over, height_over, heights_over, table_over, way_over, no_width, no_width_table, no_height, no_height_table, no_split, no_way, heights_table, entry_held}
use Rattle.pps_slices.proofs.entry.read_rect_slice.Goals as goal

pub returns-in_err-width : goal.returns-in_err-width
returns-in_err-width c = record {
  gives = λ g o. entry_exit g _ _ _ _ _ _ c.from_residual.ensures.1 (no_width g _ _ _ (width_over g _ _ o _ _ _ _ c.in_err-width.ensures));
  table = λ g o. no_width_table g _ _ _ (width_over g _ _ o _ _ _ _ c.in_err-width.ensures) _ _;
}

pub returns-in_err-height : goal.returns-in_err-height
returns-in_err-height c = record {
  gives = λ g o. entry_exit g _ _ _ _ _ _ c.from_residual-in_err-height.ensures.1 (no_height g _ _ _ (width_over g _ _ o _ _ _ _ c.in_ok-width.ensures) (height_over g _ _ o _ _ _ _ _ _ c.in_err-height.ensures));
  table = λ g o. no_height_table g _ _ _ (width_over g _ _ o _ _ _ _ c.in_ok-width.ensures) (height_over g _ _ o _ _ _ _ _ _ c.in_err-height.ensures) _ _;
}

pub returns-in_err-heights : goal.returns-in_err-heights
returns-in_err-heights c = record {
  gives = λ g o. entry_exit g _ _ _ _ _ _ c.from_residual-in_err-heights.ensures.1
      (no_split g _ _ _ (width_over g _ _ o _ _ _ _ c.in_ok-width.ensures) (height_over g _ _ o _ _ _ _ _ _ c.in_ok-height.ensures) c.requires.0
      (heights_over g _ _ o _ _ _ _ _ _ _ c.row_height-row.ensures c.exp_block-split.ensures _ _ _ c.in_err-heights.ensures.gives));
  table = λ g o. heights_table g _ _ _ (width_over g _ _ o _ _ _ _ c.in_ok-width.ensures) (height_over g _ _ o _ _ _ _ _ _ c.in_ok-height.ensures) c.requires.0 _ _
      (table_over g _ _ o _ _ _ _ _ _ _ c.row_height-row.ensures c.exp_block-split.ensures c.read_height.new.r _ _ _ c.in_err-heights.ensures.table);
}

pub returns-in_err-to_next : goal.returns-in_err-to_next
returns-in_err-to_next c = record {
  gives = λ g o. entry_exit g _ _ _ _ _ _ c.from_residual-in_err-to_next.ensures.1
      (no_way g _ _ _ (width_over g _ _ o _ _ _ _ c.in_ok-width.ensures) (height_over g _ _ o _ _ _ _ _ _ c.in_ok-height.ensures) c.requires.0
      (heights_over g _ _ o _ _ _ _ _ _ _ c.row_height-row.ensures c.exp_block-split.ensures _ _ _ c.in_ok-heights.ensures.gives)
      (way_over g _ _ o _ _ _ _ _ _ _ _ c.in_err-to_next.ensures));
  table = λ g o. heights_table g _ _ _ (width_over g _ _ o _ _ _ _ c.in_ok-width.ensures) (height_over g _ _ o _ _ _ _ _ _ c.in_ok-height.ensures) c.requires.0 _ _
      (table_over g _ _ o _ _ _ _ _ _ _ c.row_height-row.ensures c.exp_block-split.ensures c.read_height.new.r _ _ _ c.in_ok-heights.ensures.table);
}

pub returns : goal.returns
returns c = record {
  gives = λ g o.
      entry_held g _ _ _ (width_over g _ _ o _ _ _ _ c.in_ok-width.ensures) (height_over g _ _ o _ _ _ _ _ _ c.in_ok-height.ensures) c.requires.0
      (heights_over g _ _ o _ _ _ _ _ _ _ c.row_height-row.ensures c.exp_block-split.ensures _ _ _ c.in_ok-heights.ensures.gives)
      (way_over g _ _ o _ _ _ _ _ _ _ _ c.in_ok-to_next.ensures) c.slice_after-slice.ensures;
  table = λ g o. heights_table g _ _ _ (width_over g _ _ o _ _ _ _ c.in_ok-width.ensures) (height_over g _ _ o _ _ _ _ _ _ c.in_ok-height.ensures) c.requires.0 _ _
      (table_over g _ _ o _ _ _ _ _ _ _ c.row_height-row.ensures c.exp_block-split.ensures c.read_height.new.r _ _ _ c.in_ok-heights.ensures.table);
}
