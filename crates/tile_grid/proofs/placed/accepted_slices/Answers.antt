use Rattle.tile_grid.specs.Placing.{accepted-columns, accepted-rows, accepted-some, accepted-made}
use Rattle.tile_grid.proofs.placed.accepted_slices.Goals as goal

pub starts_of-column_starts-requires : goal.starts_of-column_starts-requires
starts_of-column_starts-requires c = accepted-columns c.requires.1.1 c.column_widths-column_widths.ensures.used c.row_heights-row_heights.ensures.used

pub starts_of-row_starts-requires : goal.starts_of-row_starts-requires
starts_of-row_starts-requires c = accepted-rows c.requires.1.1 c.column_widths-column_widths.ensures.used c.row_heights-row_heights.ensures.used

pub place_slices-requires : goal.place_slices-requires
place_slices-requires c = accepted-some c.requires.1.1 c.column_widths-column_widths.ensures.used c.row_heights-row_heights.ensures.used c.starts_of-column_starts.ensures c.starts_of-row_starts.ensures

pub returns : goal.returns
returns c = λ g ps a. accepted-made a c.column_widths-column_widths.ensures.used c.row_heights-row_heights.ensures.used _ c.place_slices.ensures
