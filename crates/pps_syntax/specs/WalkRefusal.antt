-- The slice loop: writing its entries by the description refuses with the number with which the walk of writing refuses them.
use Prim.Native.Nat.{ℕ}
use Rattle.std.proofs.Common.{SFits}
use mathlib.Core.List.{List, [], ◌∷◌}
use Rattle.std.specs.Int.{w32}
use Rattle.partition.specs.Walk.{Walked, refused, placed}
use Rattle.pps_syntax.specs.SliceSyntax.{RectSlice}

-- the number with which a walk refuses, 0 where it places
unfoldable pub walk_refusal : Walked → ℕ
walk_refusal (refused n) = n
walk_refusal (placed ps) = 0

-- every delta is a number of 32 bits
unfoldable pub Deltas32 : List RectSlice → Type 0
Deltas32 [] = Unit {0}
Deltas32 (r ∷ rs) = SFits w32 r.pps_tile_idx_delta_val × Deltas32 rs
