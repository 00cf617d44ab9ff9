-- The tile grid (H.266 6.5.1): columns, rows and tiles, and the one tile in which each CTB lies.
use Rattle.std.specs.Prelude.{◌≡◌, ℕ, ◌+◌, ◌*◌, ◌/◌, ◌%◌, ◌<◌}
use Rattle.std.proofs.Common.{◌∙◌, div-add-mod'}
use Rattle.std.proofs.Math.Path.{ap₂, sym}
use Rattle.partition.proofs.Axis.{holds_own, holds-only, holds-inside}
use Rattle.partition.specs.Grid.{Grid, columns, pic_width, pic_height, InTile, tile_of, tile_of-column, tile_of-row}

module _ (g : Grid) where
  pub in_tile_of : (x y : ℕ) → x < pic_width g → y < pic_height g → InTile g (tile_of g x y) x y
  in_tile_of x y hx hy =
      record {
        column = rw (tile_of-column g x y hx) (holds_own g.column_widths x hx);
        row = rw (tile_of-row g x y hx) (holds_own g.row_heights y hy);
      }

  -- .. and in no other, and a tile holds blocks of the picture alone
  pub in_width : (t x y : ℕ) → InTile g t x y → x < pic_width g
  in_width t x y i = holds-inside g.column_widths (t % columns g) x i.column

  pub in_height : (t x y : ℕ) → InTile g t x y → y < pic_height g
  in_height t x y i = holds-inside g.row_heights (t / columns g) y i.row

  pub tile-only : (t x y : ℕ) → InTile g t x y → t ≡ tile_of g x y
  unfolding tile_of
  tile-only t x y i =
      sym (div-add-mod' t (columns g))
      ∙ ap₂ (λ (q r : ℕ). q * columns g + r)
      (holds-only g.row_heights (t / columns g) y (in_height t x y i) i.row)
      (holds-only g.column_widths (t % columns g) x (in_width t x y i) i.column)
