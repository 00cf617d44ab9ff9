use Rattle.pps_tables.specs.LentMut.{slices_now}
use Rattle.pps_partition.proofs.Slices.{slices-coded, slices-put, slices-absent, slices-unput}
use Rattle.pps_partition.proofs.slicing.read_coded_slices.Goals as goal

pub returns-then-coded-clause-gives : goal.returns-then-coded-clause-gives
returns-then-coded-clause-gives c = λ g h. slices-coded _ g _ _ c.if-coded.true (c.read_rect_slices.ensures.gives g h)

pub returns-then-coded-clause-tables : goal.returns-then-coded-clause-tables
returns-then-coded-clause-tables c = λ g h. slices-put _ g _ _ c.args.r.now _ _ c.if-coded.true (c.read_rect_slices.ensures.tables g h)

pub returns-else-coded-clause-gives : goal.returns-else-coded-clause-gives
returns-else-coded-clause-gives c = λ g h. slices-absent _ g _ _ c.if-coded.false

pub returns-else-coded-clause-tables : goal.returns-else-coded-clause-tables
returns-else-coded-clause-tables c = λ g h. slices-unput _ g _ _ c.args.r.now (slices_now c.args.tables.now) c.if-coded.false
