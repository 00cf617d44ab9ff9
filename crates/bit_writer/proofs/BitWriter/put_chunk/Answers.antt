use native.Mathlib.Omega.{arith}
use Rattle.std.proofs.lemmas.Nat.{one_shl}
use Rattle.bit_writer.proofs.Chunked.{made_open, made-whole}
use Rattle.bit_writer.proofs.BitWriter.put_chunk.Goals as goal

pub returns-then-n-lt8 : goal.returns-then-n-lt8
returns-then-n-lt8 c = made_open _ _ _ _ (one_shl c.args.m 64 (omega arith)) c.requires.0 c.if-n-lt8.true

pub returns : goal.returns
returns c = made-whole _ _ _ _ (one_shl c.args.m 64 (omega arith)) c.requires.1 c.if-n-lt8.false c.put_byte.ensures
