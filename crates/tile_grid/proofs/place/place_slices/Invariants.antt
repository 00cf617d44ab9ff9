use Rattle.pps_tables.specs.Lent.{slices_of}
use Rattle.tile_grid.specs.Placing.{Placing, blank_plan, blank_groups}
use Rattle.syntax.specs.Elements.{is_set}
use Rattle.tile_grid.proofs.place.place_slices.Given as goal

abbrev pub invariant-loop-i : goal.invariant-loop-i
invariant-loop-i l = Placing l.column_widths l.row_heights (is_set l.p.pps_tile_idx_delta_present_flag) l.p.pps_num_slices_in_pic_minus1 (slices_of l.tables) l.p.num_rect_slices blank_plan blank_groups l.placed.plan.slices l.placed.groups l.at.slice.0 l.at.tile.0 l.i l.from
