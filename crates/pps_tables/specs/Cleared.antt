-- The lent tables, zero throughout.
use Rattle.std.specs.Prelude.{ℕ, List, ◌≡◌, length}
use Rattle.tables.specs.Tables.{blank}
use Rattle.pps_syntax.specs.FromRecord.{Lent, lent}
use Rattle.pps_syntax.specs.SliceTables.{SliceTables, slice_tables}
use Rattle.pps_tables.specs.Rows.{no_entry}

abbrev pub zeros : List ℕ → List ℕ
zeros t = blank (length t) 0

unfoldable pub cleared_slices : SliceTables → SliceTables
cleared_slices t = record { entries = blank (length t.entries) no_entry; split_heights = zeros t.split_heights }

-- however long they are
unfoldable pub cleared : Lent → Lent
cleared t =
    record {
      subpic_ids = zeros t.subpic_ids;
      column_widths = zeros t.column_widths;
      row_heights = zeros t.row_heights;
      slices = cleared_slices t.slices;
    }

-- each table by itself
pub tables-cleared : (t : Lent) {ids columns rows sh : List ℕ} {es : List (List ℕ)} → ids ≡ zeros t.subpic_ids
    → columns ≡ zeros t.column_widths → rows ≡ zeros t.row_heights → es ≡ blank (length t.slices.entries) no_entry
    → sh ≡ zeros t.slices.split_heights → lent ids columns rows (slice_tables es sh) ≡ cleared t
unfolding cleared cleared_slices
tables-cleared t a b c d e = rw (a, b, c, d, e)
