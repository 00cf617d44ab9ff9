use mathlib.Core.Path.{◌∙◌}
use mir.Facts.{to_z-of_z}
use mir.Syntax.{w32}
use mir.Val.{SFits}
use borrow.Author.Rules.{rules}
use Rattle.pps_tables.proofs.DeltaBits.{delta_is}
use Rattle.pps_tables.proofs.delta_of_bits.Goals as goal

pub returns : goal.returns
returns c = let fits : SFits w32 c.cast_signed.result = search rules in to_z-of_z fits ∙ (c.cast_signed.ensures ∙ delta_is c.args.bits c.ranges.bits.fits)
