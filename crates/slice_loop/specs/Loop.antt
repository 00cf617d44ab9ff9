-- Where the slice loop stands, in the numbers of the code.
use Rattle.std.specs.Prelude.{ℕ, ◌<◌, min, ◌≡◌, List}
use Rattle.partition.specs.Entry.{Position}
use Rattle.partition.specs.Grid.{Grid, columns, rows}
use Rattle.slice_loop.specs.declared.LoopPosition.{LoopPosition}
use Rattle.slice_loop.specs.declared.SliceLoopCtx.{SliceLoopCtx}

-- a grid of so many columns and rows, of these heights
pub record LoopOver (ctx : SliceLoopCtx) (row_heights : List ℕ) (g : Grid) : Type 0 where
  pub columns_are : columns g ≡ ctx.num_tile_columns
  pub rows_are : rows g ≡ ctx.num_tile_rows
  pub heights_are : g.row_heights ≡ row_heights

abbrev pub position : ℕ → ℕ → ℕ → Position
position slice tile preceding = record { slice = slice; tile = tile; preceding_height_minus1 = preceding }

-- a place of the loop, as the definitions have it
abbrev pub position_of : LoopPosition → Position
position_of p = position p.slice.0 p.tile.0 p.preceding_height

-- slice index and tile are those of a position, as far as the loop goes: a slice index is held to N, and behind the last entry there is no tile
pub record Follows (N slice tile : ℕ) (p : Position) : Type 0 where
  pub slice_is : slice ≡ min p.slice N
  pub tile_is : p.slice < N → tile ≡ p.tile
