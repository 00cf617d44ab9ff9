use Rattle.pps_record.specs.Absent.{no_partition}
use Rattle.pps_syntax.specs.Record.{partition_record}
use Rattle.pps_tables.specs.LentMut.{lent_now}
use Rattle.pps_read.proofs.Block.{block-answer, block-tables, none-answer, none-tables}
use Rattle.pps_read.proofs.rbsp.read_block.Goals as goal

pub returns-then-not-partitioned-clause-answer : goal.returns-then-not-partitioned-clause-answer
unfolding partition_record no_partition
returns-then-not-partitioned-clause-answer c = let a = c.args in rw c.absent.ensures (none-answer a.partitioned a.width a.height c.if-not-partitioned.true)

pub returns-then-not-partitioned-clause-tables : goal.returns-then-not-partitioned-clause-tables
returns-then-not-partitioned-clause-tables c = let a = c.args in none-tables a.partitioned a.width a.height a.r.now (lent_now a.tables.now) c.if-not-partitioned.true

pub returns-clause-answer : goal.returns-clause-answer
returns-clause-answer c = let a = c.args in block-answer a.width a.height a.partitioned c.if-not-partitioned.false c.read_partition.ensures.answer

pub returns-clause-tables : goal.returns-clause-tables
returns-clause-tables c = let a = c.args in
    let r = c.read_partition.ensures in
    block-tables a.width a.height a.partitioned _ _ c.if-not-partitioned.false r.answer r.columns r.rows r.slices
