-- The tile grid as the answers hold it, and a refusal by its number.
use Rattle.std.specs.Prelude.{ℕ, ◌≡◌, List, Result, Ok, Err, IsErrAnd}
use Rattle.std.proofs.lemmas.Result.{err_from_is_err_and}
use Rattle.grid_sizes.specs.declared.GridSizes.{GridSizes}
use Rattle.refusal.specs.Answers.{with_number}
use Rattle.grid_sizes.specs.Answers.{grid_sizes}
use Rattle.refusal.specs.Numbers.{number}
use Rattle.refusal.specs.declared.Refusal.{Refusal}
use Rattle.tile_grid.specs.declared.TileGrid.{TileGrid}

unfoldable pub as_tile_grid : Result GridSizes ℕ → Result TileGrid ℕ
as_tile_grid (Ok s) = Ok (record { sizes = s })
as_tile_grid (Err n) = Err n

-- from explicit sizes (minus 1): a refusal's number, or the grid
unfoldable pub grid_answer : ℕ → ℕ → ℕ → List ℕ → List ℕ → Result TileGrid ℕ
grid_answer width height ctu ws hs = as_tile_grid (grid_sizes width height ctu ws hs)

-- what a `?` leaves with
pub number_at_exit : {A : Type 0} (r : Result A Refusal) (e : Refusal) → IsErrAnd r (λ x. x ≡ e) → with_number r ≡ Err (number e)
unfolding with_number
number_at_exit r e h = let p = err_from_is_err_and r h in rw (p.1, p.2)
