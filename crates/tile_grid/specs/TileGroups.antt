-- Groups of tiles as the cover check goes by them.
use Rattle.std.specs.Prelude.{List, [], map, length}
use Prim.Native.Nat.{ℕ, ◌*◌, ◌≤◌, ◌<◌}
use Rattle.partition.specs.Grid.{max_tile_columns, max_tiles, max_slices}
use Rattle.partition.specs.Groups.{Group}
use Rattle.tile_grid.specs.declared.placed.TileGroup.{TileGroup}

-- How one is cut into slices is not looked at.
unfoldable pub group_of : TileGroup → Group
group_of g = record { tile_x = g.x; tile_y = g.y; width = g.columns; height = g.rows; slice_heights = [] }

abbrev pub groups_in : List TileGroup → List Group
groups_in gs = map group_of gs

-- Groups in a grid within the limits: what the count can be made over.
pub record Countable (columns rows : ℕ) (gs : List TileGroup) : Type 0 where
  pub some : 0 < columns
  pub wide : columns ≤ max_tile_columns
  pub small : columns * rows ≤ max_tiles
  pub few : length gs ≤ max_slices
