-- The tables lent to be read, as one value: what `before` and `slices_before` of Parameters say of them apart.
use Rattle.pps_tables.specs.declared.lent.LentTables.{LentTables}
use Rattle.pps_tables.specs.declared.lent.SliceTables.{SliceTables as LentSlices}
use Rattle.pps_syntax.specs.FromRecord.{Lent, lent}
use Rattle.pps_syntax.specs.SliceTables.{SliceTables, slice_tables}

abbrev pub slices_of : LentSlices → SliceTables
slices_of t = slice_tables t.entries.now t.split_heights.now

abbrev pub lent_of : LentTables → Lent
lent_of t = lent t.subpic_ids.now t.tile_column_widths.now t.tile_row_heights.now (slices_of t.slices)
