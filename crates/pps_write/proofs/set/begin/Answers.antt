use Rattle.pps_write.specs.Block.{begun}
use Rattle.pps_write.proofs.set.begin.Goals as goal

pub returns-in-Rbsp : goal.returns-in-Rbsp
unfolding begun
returns-in-Rbsp c = rw c.in-Rbsp.is (c.new.ensures _)

pub returns-in-NalUnit : goal.returns-in-NalUnit
unfolding begun
returns-in-NalUnit c = rw c.in-NalUnit.is c.start_nal.ensures
