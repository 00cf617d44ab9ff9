-- An entry of the slice loop, as it stands in the lent tables.
use Rattle.std.specs.Prelude.{ℕ, List}
use Rattle.partition.specs.Entry.{Entry}
use Rattle.pps_syntax.specs.SliceTables.{SliceTables, row_at}
use Rattle.pps_tables.specs.declared.RectSliceEntry.{RectSliceEntry}
use Rattle.pps_tables.specs.Rows.{entry_of}
use Rattle.syntax.specs.Elements.{is_set}

-- Entry i, but for its explicit slice heights.
abbrev pub entry_at : SliceTables → ℕ → RectSliceEntry
entry_at t i = entry_of (row_at t i)

-- With them.
abbrev pub entry_with : RectSliceEntry → List ℕ → Entry
entry_with e hs =
    record {
      width_minus1 = e.width;
      height_minus1 = e.height;
      split_present = is_set e.split_present;
      split_heights_minus1 = hs;
      delta_present = is_set e.delta_present;
      delta = e.delta;
    }
