use Rattle.std.specs.Prelude.{leb}
use Rattle.std.proofs.Common.{refl}
use Rattle.bit_reader.proofs.Gives.{given}
use Rattle.syntax.specs.Elements.{ue, limited}
use Rattle.syntax.proofs.Steps.{coded, uncoded}
use Rattle.pps_fields.proofs.fields.ue_at_most_or.Goals as goal

pub returns-then-on-clause-value : goal.returns-then-on-clause-value
returns-then-on-clause-value c = λ n l. coded _ (limited ue (λ v. leb v c.args.limit) _ l) _ c.if-on.true c.ue_at_most.ensures.value

pub returns-else-on-clause-value : goal.returns-else-on-clause-value
returns-else-on-clause-value c = λ n l. uncoded _ _ _ c.if-on.false (given refl refl)
