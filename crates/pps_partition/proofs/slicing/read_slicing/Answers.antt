-- Flags, slices and the last flag, one behind the other.
use Prim.Native.Nat.{◌<◌}
use native.Mathlib.Omega.{arith}
use lib.ListN.{length}
use Rattle.bit_reader.proofs.Gives.{at_exit}
use Rattle.pps_partition.proofs.Slices.{several-made, all-rows, no_flags, no_flags_put, no_slices, sliced, sliced_put}
use Rattle.pps_partition.specs.Slicing.{coded_left}
use borrow.Author.Rules.{rules}
use Rattle.pps_partition.proofs.slicing.read_slicing.Goals as goal

pub returns-in_err-flags-clause-gives : goal.returns-in_err-flags-clause-gives
returns-in_err-flags-clause-gives c = λ g h. at_exit c.from_residual.ensures.1 (no_flags g _ (several-made _ _ g h) c.in_err-flags.ensures)

pub returns-in_err-num_rect_slices-clause-gives : goal.returns-in_err-num_rect_slices-clause-gives
returns-in_err-num_rect_slices-clause-gives c = λ g h. at_exit c.from_residual-in_err-num_rect_slices.ensures.1
    (no_slices g _ (several-made _ _ g h) c.in_ok-flags.ensures (c.in_err-num_rect_slices.ensures.gives g (all-rows _ _ g c.requires h)))

pub returns-clause-gives : goal.returns-clause-gives
returns-clause-gives c = λ g h. sliced g _ (several-made _ _ g h) c.in_ok-flags.ensures (c.in_ok-num_rect_slices.ensures.gives g (all-rows _ _ g c.requires h)) (c.flag_or-across_slices.ensures 0)

pub returns-in_err-flags-clause-tables : goal.returns-in_err-flags-clause-tables
returns-in_err-flags-clause-tables c = λ g h. no_flags_put g _ (several-made _ _ g h) c.in_err-flags.ensures _

pub returns-in_err-num_rect_slices-clause-tables : goal.returns-in_err-num_rect_slices-clause-tables
unfolding coded_left
returns-in_err-num_rect_slices-clause-tables c = λ g h. sliced_put g _ (several-made _ _ g h) c.in_ok-flags.ensures _ _ (c.in_err-num_rect_slices.ensures.tables g (all-rows _ _ g c.requires h))

pub returns-clause-tables : goal.returns-clause-tables
unfolding coded_left
returns-clause-tables c = λ g h. sliced_put g _ (several-made _ _ g h) c.in_ok-flags.ensures _ _ (c.in_ok-num_rect_slices.ensures.tables g (all-rows _ _ g c.requires h))
