use mathlib.Core.Path.{◌∙◌, ap}
use mir.Facts.{to_z-of_z}
use mir.Syntax.{w32}
use mir.Val.{SFits}
use borrow.Author.Rules.{rules}
use Rattle.std.specs.Option.{unwrap_or}
use Rattle.pps_tables.specs.Rows.{no_entry}
use Rattle.pps_tables.proofs.Rows.{copied_or, row_parts}
use Rattle.pps_tables.proofs.lent.SliceTables.entry.Goals as goal

pub returns : goal.returns
returns c = let fits : SFits w32 c.delta_of_bits.result = search rules in
    row_parts c.args.self.entries.now c.args.i _ _ (c.unwrap_or-row.ensures ∙ (ap (λ o. unwrap_or o no_entry) c.copied-row.ensures ∙ copied_or _ _ _ c.get.result c.get.ensures.lookup.0 c.get.ensures.lookup.1)) (to_z-of_z fits ∙ c.delta_of_bits.ensures)
