use Rattle.refusal.specs.Numbers.{number}
use Rattle.pps_put_partition.specs.Made.{rect-coded, rect-inferred}
use Rattle.pps_put_partition.proofs.flags.put_rect.Goals as goal

pub returns-then-not-several : goal.returns-then-not-several
unfolding number
returns-then-not-several c = rect-inferred _ _ c.args.v c.if-not-several.true (c.test.ensures.put _ _)

pub returns : goal.returns
returns c = rect-coded _ _ c.args.v c.if-not-several.false c.put_flag.ensures
