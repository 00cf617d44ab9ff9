-- Laws on the slices of a tile, for callers.
use Rattle.std.specs.Prelude.{◌≡◌, List, Bool, ℕ, ltb, Ok, Err, is_ok}
use Rattle.std.proofs.Math.Path.{refl}
use Rattle.std.proofs.Math.Bool.{true, false, cond, not}
use Rattle.refusal.specs.declared.Refusal.TheVariants.{SplitHeights}
use Rattle.partition.specs.Sizes.{sum, explicit_sizes}
use Rattle.partition.specs.Entry.{num_slices_in_tile}
use Rattle.tile_sizes.specs.Answers.{slices_in_tile}

pub slices-ok : (hs : List ℕ) (row : ℕ) → is_ok (slices_in_tile hs row) ≡ not (ltb row (sum (explicit_sizes hs)))
unfolding slices_in_tile
slices-ok hs row = go (ltb row (sum (explicit_sizes hs)))
  where
    go : (b : Bool) → is_ok (cond b (Err SplitHeights) (Ok (num_slices_in_tile hs row))) ≡ not b
    go true = refl
    go false = refl
