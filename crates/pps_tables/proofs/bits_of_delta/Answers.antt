use mathlib.Core.Path.{◌∙◌}
use Rattle.pps_tables.proofs.DeltaBits.{bits_are}
use Rattle.pps_tables.proofs.bits_of_delta.Goals as goal

pub returns : goal.returns
returns c = c.cast_unsigned.ensures ∙ bits_are c.ranges.delta
