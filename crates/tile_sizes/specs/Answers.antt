-- What the functions of this crate answer, by the definitions of `partition`.
use Rattle.std.specs.Prelude.{List, [], ◌∷◌, cond, ℕ, suc, min, ltb, Result, Ok, Err}
use Rattle.refusal.specs.declared.Refusal.{Refusal}
use Rattle.refusal.specs.declared.Refusal.TheVariants.{SplitHeights}
use Rattle.partition.specs.Sizes.{sum, explicit_sizes}
use Rattle.partition.specs.Entry.{num_slices_in_tile}

-- The next size on an axis, of which `remaining` is left: an explicit one, or the uniform one, or the tail.
unfoldable pub next_size : List ℕ → ℕ → ℕ → ℕ
next_size [] uniform remaining = min uniform remaining
next_size (e ∷ es) uniform remaining = suc e

-- The number of slices, or 16.
unfoldable pub slices_in_tile : List ℕ → ℕ → Result ℕ Refusal
slices_in_tile heights_minus1 row_height =
    cond (ltb row_height (sum (explicit_sizes heights_minus1)))
    (Err SplitHeights)
    (Ok (num_slices_in_tile heights_minus1 row_height))
