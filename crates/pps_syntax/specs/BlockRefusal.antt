-- The partition block: writing it by the description refuses with the number with which the definitions of tiles and slices decline it, in writing's order.
use Prim.Native.Nat.{ℕ, suc, ◌+◌, ◌-◌, ◌*◌, ◌^◌, ◌≤◌, ◌<◌}
use Rattle.std.proofs.Common.{div-lt_iff_lt-mul, mul-le-mul_left, le_of_suc-le-suc, arith, pow_pos}
use Rattle.std.proofs.Math.ListN.{length}
use Rattle.partition.specs.Partition.{in_ctbs, Layout, declined, unsliced, sliced}
use Rattle.pps_syntax.specs.PartitionSyntax.{PartitionBlock}
use Rattle.pps_syntax.specs.WalkRefusal.{Deltas32}

-- The number with which a layout is declined, 0 where it is not.
unfoldable pub declined_with : Layout → ℕ
declined_with (declined n) = n
declined_with (unsliced g) = 0
declined_with (sliced g ps) = 0

-- ---- the numbers
-- What is asked of them, so that of all codes only a delta's can be missing (25): the picture's size, the counts and the deltas are numbers of 32 bits. Of the flag: where
-- 1 is inferred, writing refuses every other number, and the check only 0.
pub record Numbers32 (W H : ℕ) (r : PartitionBlock) : Type 0 where
  pub width : W < 4294967296
  pub height : H < 4294967296
  pub columns : length r.pps_tile_column_width_minus1 < 4294967296
  pub rows : length r.pps_tile_row_height_minus1 < 4294967296
  pub rect : r.pps_rect_slice_flag < 2
  pub deltas : Deltas32 r.rect_slices

-- a picture has no more CTBs than samples on an axis
pub ctbs_most : (samples ctu : ℕ) → in_ctbs samples ctu ≤ samples
unfolding in_ctbs
ctbs_most samples ctu =
    let s : ℕ = 2 ^ (5 + ctu) in
    let l : 0 < s = pow_pos (5 + ctu) in
    let q : samples + (s - 1) < suc samples * s = omega (arith, mul-le-mul_left samples l) in
    le_of_suc-le-suc ((div-lt_iff_lt-mul l).1 q)
