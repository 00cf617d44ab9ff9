use Rattle.pps_tables.proofs.Rows.{count_none, count_some}
use Rattle.pps_tables.proofs.lent.SliceTables.split_count.Goals as goal

pub returns-then-e-eq0 : goal.returns-then-e-eq0
returns-then-e-eq0 c = count_none _ _ c.args.i c.entry-e.ensures c.if-e-eq0.true

pub returns-else-e-eq0 : goal.returns-else-e-eq0
returns-else-e-eq0 c = count_some _ _ c.args.i c.entry-e.ensures c.if-e-eq0.false
