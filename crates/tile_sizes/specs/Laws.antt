-- Laws on the slices of a tile, for callers.
use Rattle.std.specs.Prelude.{◌≡◌, List, Bool, ℕ, ltb, Ok, Err}
use Rattle.std.proofs.Math.Path.{refl}
use Rattle.std.proofs.Math.Bool.{true, false, cond}
use Rattle.refusal.specs.declared.Refusal.TheVariants.{SplitHeights}
use Rattle.refusal.specs.Numbers.{number, refused}
use Rattle.partition.specs.Sizes.{sum, explicit_sizes}
use Rattle.partition.specs.Entry.{num_slices_in_tile}
use Rattle.tile_sizes.specs.Answers.{slices_in_tile}

module _ (hs : List ℕ) (row : ℕ) where
  pub slices-number : refused (slices_in_tile hs row) ≡ cond (ltb row (sum (explicit_sizes hs))) 16 0
  unfolding slices_in_tile refused number
  slices-number = go (ltb row (sum (explicit_sizes hs)))
    where
      go : (b : Bool) → refused (cond b (Err SplitHeights) (Ok (num_slices_in_tile hs row))) ≡ cond b 16 0
      go true = refl
      go false = refl

  pub slices-count : ltb row (sum (explicit_sizes hs)) ≡ false → slices_in_tile hs row ≡ Ok (num_slices_in_tile hs row)
  unfolding slices_in_tile
  slices-count e = rw e
