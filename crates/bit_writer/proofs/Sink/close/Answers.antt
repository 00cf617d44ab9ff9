use Rattle.bit_writer.proofs.ByValue.{close-kept}
use Rattle.bit_writer.proofs.Sink.close.Goals as goal

pub returns : goal.returns
returns c = close-kept c.args.self _ _ c.writer-w.ensures c.close.ensures c.of.ensures
