use Rattle.std.proofs.Common.{refl}
use Rattle.syntax.proofs.Steps.{coded, uncoded}
use Rattle.bit_reader.proofs.Gives.{given}
use Rattle.pps_fields.proofs.fields.flag_or.Goals as goal

pub returns-then-on : goal.returns-then-on
returns-then-on c = λ n. coded _ _ _ c.if-on.true c.flag.ensures

pub returns-else-on : goal.returns-else-on
returns-else-on c = λ n. uncoded _ _ _ c.if-on.false (given refl refl)
