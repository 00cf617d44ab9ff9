use Prim.Native.Nat.{◌%◌}
use mathlib.Core.List.{[], ◌∷◌}
use Rattle.bit_writer.proofs.ByValue.{bits-kept}
use Rattle.bit_writer.proofs.Sink.put_bit.Goals as goal

pub returns : goal.returns
returns c = bits-kept c.args.self _ _ c.writer-w.ensures (c.args.b % 2 ∷ []) c.put_bit.ensures c.of.ensures
