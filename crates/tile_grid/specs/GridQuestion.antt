-- The grid question (docs/BEHAVIOUR.md): the sizes of columns and rows in CTBs, from the layout that the questions test.
use Rattle.std.specs.Prelude.{ℕ, ◌≤◌, ◌≡◌, refl, List, Result, Ok, Err, take}
use Rattle.grid_sizes.specs.declared.GridSizes.{GridSizes}
use Rattle.grid_sizes.specs.Answers.{grid_of_sizes}
use Rattle.partition.specs.Grid.{Grid}
use Rattle.partition.specs.Groups.{Group}
use Rattle.partition.specs.Partition.{Layout, declined, unsliced, sliced}
use Rattle.partition.specs.Sizes.{sum}
use Rattle.pps_record.specs.declared.VvcPps.{VvcPps}
use Rattle.pps_syntax.specs.BlockRefusal.{declined_with}
use Rattle.pps_syntax.specs.FromRecord.{Lent}
use Rattle.question_tests.specs.Questions.{layout_asked}
use Rattle.refusal.specs.Answers.{refused_in}
use Rattle.tile_grid.specs.declared.TileGrid.{TileGrid}
use Rattle.tile_grid.specs.Answers.{as_tile_grid}

-- A refusal's number, or the sizes; of no columns and no rows where the picture is unpartitioned.
unfoldable pub sizes_of : Layout → Result GridSizes ℕ
sizes_of (declined n) = Err n
sizes_of (unsliced g) = Ok (grid_of_sizes g.column_widths g.row_heights)
sizes_of (sliced g ps) = Ok (grid_of_sizes g.column_widths g.row_heights)

abbrev pub grid_answer_of : Layout → Result TileGrid ℕ
grid_answer_of l = as_tile_grid (sizes_of l)

-- what `TileGrid::of_record` answers
abbrev pub of_record : VvcPps → Lent → Result TileGrid ℕ
of_record r t = grid_answer_of (layout_asked r t)

-- The sizes of its columns sum to a number of 32 bits, and so do those of its rows.
abbrev pub SumsFit : TileGrid → Type 0
SumsFit a =
    (sum (take a.sizes.num_tile_columns a.sizes.column_widths) ≤ 4294967295) × (sum (take a.sizes.num_tile_rows a.sizes.row_heights) ≤ 4294967295)

-- ---- what it answers to each layout
pub answer-unsliced : (g : Grid) → sizes_of (unsliced g) ≡ Ok (grid_of_sizes g.column_widths g.row_heights)
unfolding sizes_of
answer-unsliced g = refl

pub answer-sliced : (g : Grid) (ps : List Group) → sizes_of (sliced g ps) ≡ Ok (grid_of_sizes g.column_widths g.row_heights)
unfolding sizes_of
answer-sliced g ps = refl

pub answer-declined : (n : ℕ) → sizes_of (declined n) ≡ Err n
unfolding sizes_of
answer-declined n = refl

pub answer-number : (l : Layout) → refused_in (sizes_of l) ≡ declined_with l
unfolding sizes_of declined_with refused_in
answer-number (declined n) = refl
answer-number (unsliced g) = refl
answer-number (sliced g ps) = refl
