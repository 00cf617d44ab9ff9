-- What the functions of this crate answer, by the definitions of `partition`.
use Rattle.std.specs.Prelude.{List, ◌≡◌, ℕ, ◌≤◌, length, Result, Ok, Err}
use Rattle.partition.specs.Sizes.{axis_sizes, Fit}
use Rattle.partition.specs.Grid.{Grid, max_tile_columns, max_tiles}
use Rattle.partition.specs.Checks.{Outcome, fine, refused_with, first_bad}
use Rattle.partition.specs.Partition.{tile_grid, grid_checks}
use Rattle.tile_sizes.specs.Padded.{table_of}
use Rattle.grid_sizes.specs.declared.GridSizes.{GridSizes}

-- The grid of these sizes.
unfoldable pub grid_of_sizes : List ℕ → List ℕ → GridSizes
grid_of_sizes ws hs =
    record { num_tile_columns = length ws; num_tile_rows = length hs; column_widths = table_of max_tile_columns ws; row_heights = table_of max_tiles hs }

-- The sizes of an axis, so many, fit a table of n places.
pub record FitsTable (es : List ℕ) (total count n : ℕ) : Type 0 where
  pub some : 1 ≤ length es
  pub fit : Fit es total
  pub counted : count ≡ length (axis_sizes es total)
  pub room : length (axis_sizes es total) ≤ n

-- The grid, or the refusal's number.
unfoldable pub sizes_for : Outcome → Grid → Result GridSizes ℕ
sizes_for fine g = Ok (grid_of_sizes g.column_widths g.row_heights)
sizes_for (refused_with n) g = Err n

unfoldable pub grid_sizes : ℕ → ℕ → ℕ → List ℕ → List ℕ → Result GridSizes ℕ
grid_sizes width height ctu ws hs = sizes_for (first_bad (grid_checks width height ctu ws hs)) (tile_grid width height ctu ws hs)
