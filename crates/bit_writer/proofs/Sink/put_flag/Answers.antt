use mathlib.Core.List.{[], ◌∷◌}
use Rattle.codes.specs.Coded.{flag_bit}
use Rattle.bit_writer.proofs.ByValue.{bits-kept}
use Rattle.bit_writer.proofs.Sink.put_flag.Goals as goal

pub returns : goal.returns
returns c = bits-kept c.args.self _ _ c.writer-w.ensures (flag_bit c.args.v ∷ []) c.put_flag.ensures c.of.ensures
