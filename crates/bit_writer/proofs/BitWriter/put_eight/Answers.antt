use Prim.Native.Nat.{◌-◌, ◌%◌}
use native.Mathlib.Omega.{arith}
use Rattle.bit_writer.proofs.Copying.{put-made}
use Rattle.std.proofs.lemmas.Nat.{one_shl}
use Rattle.bit_writer.proofs.BitWriter.put_eight.Goals as goal

pub returns : goal.returns
returns c = put-made _ c.args.x _ _ (omega arith) (one_shl (8 - c.args.self.now.have % 8) 64 (omega arith)) (one_shl (c.args.self.now.have % 8) 8 (omega arith)) c.put_byte.ensures
