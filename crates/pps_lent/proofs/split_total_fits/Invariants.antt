use Rattle.pps_tables.specs.Lent.{slices_of}
use Rattle.pps_lent.proofs.SplitTotal.{Left}
use Rattle.pps_lent.proofs.split_total_fits.Given as goal

abbrev pub invariant-loop-i : goal.invariant-loop-i
invariant-loop-i l = Left (slices_of l.fn.slices) l.fn.n l.i l.left
