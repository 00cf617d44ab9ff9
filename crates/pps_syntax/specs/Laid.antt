-- A partition block whose writing is refused nowhere and that reading could have given is accepted: the questions give it a layout. So is every block that was read.
use Rattle.std.specs.Prelude.{ℕ, ◌≡◌, Bool, ◌&&◌, eqb}
use Rattle.std.proofs.Common.{ap}
use Rattle.partition.specs.Partition.{slices_coded}
use Rattle.pps_syntax.specs.PartitionSyntax.{PartitionBlock, coded, partition_of}
use Rattle.pps_syntax.specs.SameTests.{twice}
use Rattle.syntax.specs.Elements.{is_set}

-- ---- from an element that was accepted to a check that passes

-- slices are coded in both, or in neither
pub slices-coded : (W H : ℕ) (r : PartitionBlock) → slices_coded (partition_of W H r) ≡ coded r.pps_rect_slice_flag r.pps_single_slice_per_subpic_flag
unfolding slices_coded partition_of
slices-coded W H r = ap (λ (b : Bool). is_set r.pps_rect_slice_flag && b) (twice (eqb r.pps_single_slice_per_subpic_flag 0))
