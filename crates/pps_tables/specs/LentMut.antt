-- The tables lent for change, as one value: what they hold, and that they stay the same tables.
use Rattle.std.specs.Prelude.{List, ◌≡◌, length}
use Rattle.std.specs.Borrow.{MutBor}
use Rattle.pps_tables.specs.declared.lent_mut.LentTablesMut.{LentTablesMut}
use Rattle.pps_tables.specs.declared.lent_mut.SliceTablesMut.{SliceTablesMut}
use Rattle.pps_syntax.specs.FromRecord.{Lent, lent}
use Rattle.pps_syntax.specs.SliceTables.{SliceTables, slice_tables}

abbrev pub slices_now : SliceTablesMut → SliceTables
slices_now t = slice_tables t.entries.now t.split_heights.now

abbrev pub lent_now : LentTablesMut → Lent
lent_now t = lent t.subpic_ids.now t.tile_column_widths.now t.tile_row_heights.now (slice_tables t.entries.now t.split_heights.now)

-- the same reference, so that the lender learns what is left there, to a table of the same length
pub record SameTable {A : Type 0} (t u : MutBor (List A)) : Type 0 where
  pub reference : u.ghost_name ≡ t.ghost_name
  pub length : length u.now ≡ length t.now

pub record SameTables (t u : LentTablesMut) : Type 0 where
  pub subpic_ids : SameTable t.subpic_ids u.subpic_ids
  pub tile_column_widths : SameTable t.tile_column_widths u.tile_column_widths
  pub tile_row_heights : SameTable t.tile_row_heights u.tile_row_heights
  pub entries : SameTable t.entries u.entries
  pub split_heights : SameTable t.split_heights u.split_heights

pub record SameSlices (t u : SliceTablesMut) : Type 0 where
  pub entries : SameTable t.entries u.entries
  pub split_heights : SameTable t.split_heights u.split_heights
