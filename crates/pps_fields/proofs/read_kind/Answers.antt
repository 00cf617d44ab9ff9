-- One step of the description for each call.
use Rattle.pps_syntax.specs.Head.{kind}
use Rattle.syntax.specs.Syntax.{◌>>=◌}
use Rattle.syntax.proofs.Steps.{follows, ◌⟫◌, end}
use Rattle.pps_fields.proofs.read_kind.Goals as goal

pub returns : goal.returns
unfolding kind ◌>>=◌
returns c = follows kind (c.flag-output.ensures ⟫ c.flag-unpartitioned.ensures ⟫ end)
