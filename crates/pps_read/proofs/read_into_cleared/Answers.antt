use Rattle.std.proofs.Common.{◌∙◌}
use Rattle.pps_read.specs.Cleared.{lists-kept, lists-dropped}
use Rattle.pps_read.proofs.read_into_cleared.Goals as goal

pub returns-in-Ok-clause-tables : goal.returns-in-Ok-clause-tables
returns-in-Ok-clause-tables c = let r = c.in-Ok.ensures in lists-kept _ _ _ _ _ c.clear.ensures.cleared r.answer r.tables c.requires

pub returns-in-Err-clause-tables : goal.returns-in-Err-clause-tables
returns-in-Err-clause-tables c = let r = c.in-Err.ensures in
    let k = r.same_tables in
    let z = c.clear.ensures.same_tables in
    lists-dropped _ _ _ _ r.answer c.clear-in-Err.ensures.cleared
    (record {
      ids = k.subpic_ids.length ∙ z.subpic_ids.length;
      columns = k.tile_column_widths.length ∙ z.tile_column_widths.length;
      rows = k.tile_row_heights.length ∙ z.tile_row_heights.length;
      entries = k.entries.length ∙ z.entries.length;
      split_heights = k.split_heights.length ∙ z.split_heights.length;
    })
