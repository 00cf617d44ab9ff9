-- What C holds beside a refusal: its number, and zeros throughout.
use Rattle.std.specs.Prelude.{◌≡◌, refl, Err}
use Rattle.partition.specs.Grid.{max_tile_columns, max_tiles, max_slices}
use Rattle.tile_sizes.specs.Padded.{zeros}
use Rattle.vvc_pps.specs.QuestionAnswers.{grid_held, plan_held}

pub refused-grid : grid_held (Err 12) ≡ record { refused = 12; num_tile_columns = 0; num_tile_rows = 0; column_widths = zeros max_tile_columns; row_heights = zeros max_tiles }
unfolding zeros
refused-grid = refl

pub refused-plan : plan_held (Err 12) ≡ record { refused = 12; num_slices = 0; left = zeros max_slices; top = zeros max_slices; width = zeros max_slices; height = zeros max_slices }
unfolding zeros
refused-plan = refl
