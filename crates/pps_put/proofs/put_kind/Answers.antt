use Rattle.pps_syntax.specs.Head.{kind}
use Rattle.syntax.specs.Syntax.{◌>>=◌}
use Rattle.syntax.proofs.PutSteps.{follows, ◌⟫◌, end}
use Rattle.pps_put.proofs.put_kind.Goals as goal

pub returns : goal.returns
unfolding kind ◌>>=◌
returns c = follows kind (c.put_flag.ensures ⟫ c.put_flag-2.ensures ⟫ end)
