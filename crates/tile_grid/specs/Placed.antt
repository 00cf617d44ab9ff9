-- What is placed of a partition in a grid: its slices in CTBs, and the groups of tiles that they are cut from.
use Rattle.std.specs.Prelude.{◌≤◌, ◌<◌, ◌≡◌, Bool, ◌&&◌, List, map, length}
use Rattle.grid_sizes.specs.declared.GridSizes.{GridSizes}
use Rattle.partition.specs.Grid.{Grid, tiles, max_slices_minus1}
use Rattle.partition.specs.Groups.{Group}
use Rattle.partition.specs.Slices.{Slice}
use Rattle.partition.specs.Walk.{placed}
use Rattle.pps_record.specs.declared.VvcPpsPartition.{VvcPpsPartition}
use Rattle.pps_syntax.specs.PartitionSyntax.{coded}
use Rattle.pps_syntax.specs.SliceTables.{SliceTables}
use Rattle.question_tests.specs.Sliced.{walked}
use Rattle.syntax.specs.Elements.{is_set}
use Rattle.tile_grid.specs.declared.placed.Placed.{Placed}
use Rattle.grid_sizes.specs.Answers.{grid_of_sizes}
use Rattle.tile_grid.specs.Rects.{tiles_of, no_tiles, table_with, plan_with}
use Rattle.tile_grid.specs.Starts.{ProperSizes}

-- The grid of a picture: a tile at least, and the sizes of its axes.
pub record Proper (g : Grid) : Type 0 where
  pub some-tile : 0 < tiles g
  pub column_sizes : ProperSizes g.column_widths
  pub row_sizes : ProperSizes g.row_heights

-- The slices of these groups by slice index, and the groups themselves, each in its table.
unfoldable pub placed_of : List Slice → List Group → Placed
placed_of ss ps = record { plan = plan_with ss; num_groups = length ps; groups = table_with no_tiles (map tiles_of ps) }

-- Slices are coded, of a partition that is there.
unfoldable pub has_slices : VvcPpsPartition → Bool
has_slices p = is_set p.present && coded p.pps_rect_slice_flag p.pps_single_slice_per_subpic_flag

-- The slices of a partition are accepted in the grid of these sizes: they are those of these groups.
pub record AcceptedIn (s : GridSizes) (p : VvcPpsPartition) (t : SliceTables) (g : Grid) (ps : List Group) : Type 0 where
  pub held : s ≡ grid_of_sizes g.column_widths g.row_heights
  pub proper : Proper g
  pub few : p.pps_num_slices_in_pic_minus1 ≤ max_slices_minus1
  pub walks : walked g p t ≡ placed ps
