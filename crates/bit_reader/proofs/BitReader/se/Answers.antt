use Rattle.std.proofs.Common.{to_z-of_z, SFits, rules}
use Rattle.std.specs.Int.{w32}
use Rattle.bit_reader.proofs.Gives.{at_exit, number-small, signed, signed_refused}
use Rattle.bit_reader.proofs.BitReader.se.Goals as goal

pub returns-in_err-k : goal.returns-in_err-k
returns-in_err-k c = at_exit c.from_residual.ensures.1 (signed_refused c.in_err-k.ensures)

pub signed_of-requires : goal.signed_of-requires
signed_of-requires c = number-small c.in_ok-k.ensures

pub returns : goal.returns
returns c = let fits : SFits w32 c.signed_of.result = search rules in rw (to_z-of_z fits) (signed c.in_ok-k.ensures c.signed_of.ensures)
