use Rattle.partition.specs.Grid.{grid_with}
use Rattle.question_tests.specs.Refusing.{Refusing}
use Rattle.pps_tables.specs.Lent.{slices_of}
use Rattle.question_tests.proofs.walk.walk_refusal.Given as goal

abbrev pub invariant-loop-i : goal.invariant-loop-i
invariant-loop-i l = Refusing (grid_with l.column_widths l.row_heights) l.deltas_on l.fn.n.0 (slices_of l.slices) l.count l.at.slice.0 l.at.tile.0 l.at.preceding_height l.i l.from
