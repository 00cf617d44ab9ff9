-- A signed value is unchanged by the 32 bits of its field.
use Rattle.std.proofs.Common.{refl, SFits, to_z-of_z, rules}
use Rattle.std.specs.Int.{w32}
use Rattle.pps_syntax.specs.Offsets.{offset}
use Rattle.bit_reader.proofs.Gives.{given}
use Rattle.syntax.proofs.Steps.{coded, uncoded}
use Rattle.pps_fields.proofs.fields.offset_or.Goals as goal

pub returns-then-on : goal.returns-then-on
returns-then-on c = coded _ offset _ c.if-on.true c.read_offset.ensures

pub returns-else-on : goal.returns-else-on
returns-else-on c = let fits : SFits w32 c.args.inferred = search rules in
    rw (to_z-of_z fits) (uncoded _ offset _ c.if-on.false (given refl refl))
