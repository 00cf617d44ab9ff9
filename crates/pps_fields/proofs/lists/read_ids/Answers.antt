-- What is left to be read and stored, from where the loop stands, makes the whole list: `Filling`, with a law for each
-- way through the loop.
use Rattle.std.specs.Prelude.{min}
use Rattle.syntax.specs.Elements.{u}
use Rattle.syntax.specs.Lists.{many}
use Rattle.pps_fields.specs.ListReads.{list-many, fill_more, filled-list}
use Rattle.pps_fields.proofs.lists.read_ids.Goals as goal

pub loop-i-preserved : goal.loop-i-preserved
loop-i-preserved c = fill_more c.loop-i.invariant c.loop-i-test.true c.u-v.ensures c.store.ensures

pub returns-clause-list : goal.returns-clause-list
returns-clause-list c = (filled-list (many c.args.count (u (min c.args.bits 32) 27) 27).read (list-many _ _ 27 _ _) c.loop-i.invariant c.loop-i-test.false).0

pub returns-clause-count : goal.returns-clause-count
returns-clause-count c = (filled-list (many c.args.count (u (min c.args.bits 32) 27) 27).read (list-many _ _ 27 _ _) c.loop-i.invariant c.loop-i-test.false).1

pub returns-clause-table : goal.returns-clause-table
returns-clause-table c = (filled-list (many c.args.count (u (min c.args.bits 32) 27) 27).read (list-many _ _ 27 _ _) c.loop-i.invariant c.loop-i-test.false).2
