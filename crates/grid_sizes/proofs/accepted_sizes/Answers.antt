use Rattle.partition.specs.Grid.{max_tile_columns, max_tiles}
use Rattle.tile_sizes.specs.Padded.{filled-table}
use Rattle.grid_sizes.proofs.Fill.{grid-made}
use Rattle.grid_sizes.proofs.accepted_sizes.Goals as goal

pub returns : goal.returns
returns c = grid-made _ _ _ _ _ _ c.requires.0.counted c.requires.1.counted (filled-table max_tile_columns _ _ c.sizes_into.ensures) (filled-table max_tiles _ _ c.sizes_into-2.ensures)
