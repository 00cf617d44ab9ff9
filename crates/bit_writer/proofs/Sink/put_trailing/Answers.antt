use Rattle.std.proofs.Common.{ap, ◌∙◌}
use Rattle.codes.specs.Symbols.{putting}
use Rattle.bit_writer.specs.declared.BitWriter.{BitWriter}
use Rattle.bit_writer.specs.Stop.{play_on}
use Rattle.bit_writer.specs.Writing.{trailing_bits}
use Rattle.bit_writer.specs.Written.{written}
use Rattle.bit_writer.proofs.ByValue.{bits-kept}
use Rattle.bit_writer.proofs.Sink.put_trailing.Goals as goal

pub returns : goal.returns
returns c =
    let same = ap (λ (x : BitWriter). play_on (written c.writer-w.result c.args.out.now) (putting (trailing_bits x.have))) c.writer-w.ensures in
    bits-kept c.args.self _ _ c.writer-w.ensures _ (c.put_trailing.ensures ∙ same) c.of.ensures
