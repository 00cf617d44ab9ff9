use Rattle.bit_writer.specs.Written.{written}
use Rattle.partition.specs.Grid.{grid_with}
use Rattle.pps_syntax.specs.SliceTables.{slice_tables}
use Rattle.pps_put_slices.specs.Held.{Held}
use Rattle.pps_put_slices.proofs.walk.put_entries.Given as goal

abbrev pub invariant-loop-i : goal.invariant-loop-i
invariant-loop-i l =
    Held (grid_with l.column_widths l.row_heights) l.deltas_coded l.fn.n.0 (slice_tables l.slices.entries.now l.slices.split_heights.now) l.count (written l.initial.w l.initial.out) (written l.w l.out) l.at l.i l.from
