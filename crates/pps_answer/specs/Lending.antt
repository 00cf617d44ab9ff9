-- What reading leaves in the lent tables (docs/BEHAVIOUR.md): unchanged after 1 to 5, zero throughout after 6 to 23, and
-- after an acceptance the entries in use, then zeros.
use Rattle.std.specs.Prelude.{ℕ, List, [], ◌∷◌}
use Rattle.std.proofs.lemmas.List.Edits.{sets}
use Rattle.tables.specs.Tables.{over}
use Rattle.pps_syntax.specs.FromRecord.{Lent}
use Rattle.pps_syntax.specs.PartitionSyntax.{PartitionBlock}
use Rattle.pps_syntax.specs.Pps.{Pps}
use Rattle.pps_syntax.specs.Rbsp.{ReadAnswer, accepted, refused}
use Rattle.pps_syntax.specs.SliceSyntax.{RectSlice}
use Rattle.pps_syntax.specs.SliceTables.{put_slices}
use Rattle.pps_tables.specs.Cleared.{cleared}

-- ---- the lists of a set, empty without a partition
abbrev pub columns_of : List PartitionBlock → List ℕ
columns_of [] = []
columns_of (p ∷ ps) = p.pps_tile_column_width_minus1

abbrev pub rows_of : List PartitionBlock → List ℕ
rows_of [] = []
rows_of (p ∷ ps) = p.pps_tile_row_height_minus1

abbrev pub slices_of : List PartitionBlock → List RectSlice
slices_of [] = []
slices_of (p ∷ ps) = p.rect_slices

-- ---- the tables
-- the entries in use, then zeros
unfoldable pub filled : Pps → Lent → Lent
filled r t =
    let z : Lent = cleared t in
    record {
      subpic_ids = over r.front.subpic_ids.pps_subpic_id z.subpic_ids;
      column_widths = over (columns_of r.partition) z.column_widths;
      row_heights = over (rows_of r.partition) z.row_heights;
      slices = put_slices z.slices 0 0 (slices_of r.partition);
    }

-- the entries alone
unfoldable pub put_lists : Pps → Lent → Lent
put_lists r t =
    record {
      subpic_ids = sets t.subpic_ids 0 r.front.subpic_ids.pps_subpic_id;
      column_widths = sets t.column_widths 0 (columns_of r.partition);
      row_heights = sets t.row_heights 0 (rows_of r.partition);
      slices = put_slices t.slices 0 0 (slices_of r.partition);
    }

-- after the fields were looked at
unfoldable pub after_fields : ReadAnswer → Lent → Lent
after_fields (accepted a) t = filled a.set t
after_fields (refused n) t = cleared t
