-- Laws on the answers, for callers.
use Rattle.std.specs.Prelude.{◌≡◌, List, [], ◌∷◌, ◌++◌, ℕ, zero, suc, ◌-◌, length, get_or, Result, Ok}
use Rattle.refusal.specs.declared.Refusal.{Refusal}
use Rattle.refusal.specs.Numbers.{refused}
use Rattle.grid_sizes.specs.declared.GridSizes.{GridSizes}
use Rattle.std.proofs.Math.Path.{refl}
use Rattle.std.proofs.Common.{sym, ap, ◌∙◌, lit<}
use Rattle.partition.specs.Checks.{Outcome, fine, refused_with, first_bad, number_of, Numbered, zero-fine}
use Rattle.partition.specs.Partition.{tile_grid, explicit_checks, axis_checks, grid_checks}
use Rattle.tile_sizes.specs.Padded.{zeros, table_of}
use Rattle.refusal.specs.Answers.{with_number, refused_in, refused-with}
use Rattle.grid_sizes.specs.Answers.{grid_of_sizes, sizes_for, grid_sizes}

-- ---- tables

zeros-at : (n i : ℕ) → get_or (zeros n) i 0 ≡ 0
unfolding zeros
zeros-at zero i = refl
zeros-at (suc n) zero = refl
zeros-at (suc n) (suc i) = zeros-at n i

-- a table reads like the sizes that it holds
pub table_at : (n : ℕ) (ss : List ℕ) (i : ℕ) → get_or (table_of n ss) i 0 ≡ get_or ss i 0
unfolding table_of
table_at n ss i = go ss i
  where
    go : (l : List ℕ) (i : ℕ) → get_or (l ++ zeros (n - length ss)) i 0 ≡ get_or l i 0
    go [] i = zeros-at (n - length ss) i
    go (s ∷ l) zero = refl
    go (s ∷ l) (suc i) = go l i

-- ---- the grid

module _ (width height ctu : ℕ) (ws hs : List ℕ) where
  numbered : Numbered (grid_checks width height ctu ws hs)
  unfolding grid_checks explicit_checks axis_checks Numbered
  numbered = (lit< tt, (lit< tt, (lit< tt, (lit< tt, (lit< tt, (lit< tt, (lit< tt, (lit< tt, (lit< tt, tt)))))))))

  -- the number is that of the first check that fails, 0 where none does
  pub grid-number : refused_in (grid_sizes width height ctu ws hs) ≡ number_of (first_bad (grid_checks width height ctu ws hs))
  unfolding grid_sizes sizes_for refused_in number_of
  grid-number = go (first_bad (grid_checks width height ctu ws hs))
    where
      go : (o : Outcome) → refused_in (sizes_for o (tile_grid width height ctu ws hs)) ≡ number_of o
      go fine = refl
      go (refused_with n) = refl

  pub grid-fine : refused_in (grid_sizes width height ctu ws hs) ≡ 0 → first_bad (grid_checks width height ctu ws hs) ≡ fine
  grid-fine z = zero-fine (grid_checks width height ctu ws hs) numbered (sym z ∙ grid-number)

  -- accepted, it is the tile grid
  pub grid-sizes : refused_in (grid_sizes width height ctu ws hs) ≡ 0 → grid_sizes width height ctu ws hs ≡ Ok (grid_of_sizes (tile_grid width height ctu ws hs).column_widths (tile_grid width height ctu ws hs).row_heights)
  unfolding grid_sizes sizes_for
  grid-sizes z = rw (grid-fine z)

  -- ---- of an answer
  module _ (r : Result GridSizes Refusal) (e : with_number r ≡ grid_sizes width height ctu ws hs) where
    pub answer-number : refused r ≡ number_of (first_bad (grid_checks width height ctu ws hs))
    answer-number = sym (refused-with r) ∙ ap refused_in e ∙ grid-number

  pub answer-sizes : (s : GridSizes) → with_number (Ok s) ≡ grid_sizes width height ctu ws hs → s ≡ grid_of_sizes (tile_grid width height ctu ws hs).column_widths (tile_grid width height ctu ws hs).row_heights
  unfolding with_number refused_in
  answer-sizes s e =
      let z : Ok s ≡ Ok (grid_of_sizes (tile_grid width height ctu ws hs).column_widths (tile_grid width height ctu ws hs).row_heights) = e ∙ grid-sizes (ap refused_in (sym e)) in
      cc
