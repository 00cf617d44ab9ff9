use Rattle.bit_writer.proofs.ByValue.{bits-kept}
use Rattle.bit_writer.proofs.Sink.put_copy.Goals as goal

pub returns : goal.returns
returns c = bits-kept c.args.self _ _ c.writer-w.ensures _ c.put_copy.ensures c.of.ensures
