use Rattle.refusal.specs.Numbers.{number}
use Rattle.pps_put_partition.specs.Rest.{slices-coded, slices-absent}
use Rattle.pps_put_partition.proofs.slicing.put_coded_slices.Goals as goal

pub returns-then-not-coded : goal.returns-then-not-coded
unfolding number
returns-then-not-coded c = slices-absent _ _ _ _ _ c.args.p.now.num_rect_slices _ c.if-not-coded.true (c.test.ensures.put _ _)

pub returns : goal.returns
returns c = slices-coded _ _ _ _ _ _ c.if-not-coded.false c.put_rect_slices.ensures
