-- Slices and groups of tiles as the code holds them, and tables of 1,000 places for them.
use Rattle.std.specs.Prelude.{◌-◌, List, ◌++◌, map, length, replicate}
use Rattle.partition.specs.Grid.{max_slices}
use Rattle.partition.specs.Groups.{Group}
use Rattle.partition.specs.Slices.{Slice}
use Rattle.tile_grid.specs.declared.SlicePlan.{SlicePlan}
use Rattle.tile_grid.specs.declared.SliceRect.{SliceRect}
use Rattle.tile_grid.specs.declared.placed.TileGroup.{TileGroup}

abbrev pub rect_of : Slice → SliceRect
rect_of s =
    record { left = record { 0 = s.left }; top = record { 0 = s.top }; width = record { 0 = s.width }; height = record { 0 = s.height } }

-- How a group is cut into slices is not held.
abbrev pub tiles_of : Group → TileGroup
tiles_of p = record { x = p.tile_x; y = p.tile_y; columns = p.width; rows = p.height }

-- what stands in a place that is not in use
abbrev pub no_rect : SliceRect
no_rect = record { left = record { 0 = 0 }; top = record { 0 = 0 }; width = record { 0 = 0 }; height = record { 0 = 0 } }

abbrev pub no_tiles : TileGroup
no_tiles = record { x = 0; y = 0; columns = 0; rows = 0 }

-- A table that holds these in front.
unfoldable pub table_with : {A : Type 0} → A → List A → List A
table_with none l = l ++ replicate (max_slices - length l) none

unfoldable pub plan_with : List Slice → SlicePlan
plan_with ss = record { num_slices = length ss; slices = table_with no_rect (map rect_of ss) }
