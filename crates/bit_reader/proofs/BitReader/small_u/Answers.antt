use Rattle.std.proofs.Common.{◌≡◌, min, arith}
use Rattle.bit_reader.proofs.Gives.{small-fits}
use Rattle.bit_reader.proofs.BitReader.small_u.Goals as goal

pub returns : goal.returns
returns c = let e : min c.min.result 32 ≡ min c.args.n 8 = omega arith in small-fits (omega arith) (rw e at c.u-v.ensures)
