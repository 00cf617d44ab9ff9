use Rattle.bit_reader.proofs.ByCursor.{ue_at}
use Rattle.bit_reader.proofs.by_cursor.ue.Goals as goal

pub returns : goal.returns
returns c = ue_at _ _ c.if-c-ne0.false c.reader-r.ensures c.ue-read.ensures c.unwrap_or.ensures c.behind.ensures
