use Rattle.pps_tables.specs.Cleared.{tables-cleared}
use Rattle.pps_tables.proofs.lent_mut.LentTablesMut.clear.Goals as goal

pub returns-clause-cleared : goal.returns-clause-cleared
returns-clause-cleared c = tables-cleared _ c.clear.ensures c.clear-2.ensures c.clear-3.ensures c.clear-4.ensures c.clear-5.ensures
