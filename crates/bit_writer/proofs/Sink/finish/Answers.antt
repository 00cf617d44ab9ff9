use Rattle.bit_writer.proofs.ByValue.{finish-kept}
use Rattle.bit_writer.proofs.Sink.finish.Goals as goal

pub returns : goal.returns
returns c = finish-kept c.args.self _ _ c.writer-w.ensures c.finish.ensures c.of.ensures
