use Rattle.std.proofs.Common.{refl, SFits, to_z-of_z, rules}
use Rattle.std.specs.Int.{w32}
use Rattle.syntax.proofs.Steps.{coded, uncoded}
use Rattle.bit_reader.proofs.Gives.{given}
use Rattle.pps_fields.proofs.fields.se_or.Goals as goal

pub returns-then-on : goal.returns-then-on
returns-then-on c = λ n. coded _ _ _ c.if-on.true c.se.ensures

pub returns-else-on : goal.returns-else-on
returns-else-on c = let fits : SFits w32 c.args.inferred = search rules in
    λ n. rw (to_z-of_z fits) (uncoded _ _ _ c.if-on.false (given refl refl))
