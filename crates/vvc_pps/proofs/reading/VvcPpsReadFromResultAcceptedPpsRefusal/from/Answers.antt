use Rattle.pps_answer.specs.Answers.{said}
use Rattle.pps_syntax.specs.Record.{no_triples}
use Rattle.tables.specs.Tables.{blank}
use Rattle.vvc_pps.specs.PpsAnswer.{pps_read}
use Rattle.vvc_pps.proofs.reading.VvcPpsReadFromResultAcceptedPpsRefusal.from.Goals as goal

pub returns-in-Ok : goal.returns-in-Ok
unfolding pps_read said
returns-in-Ok c = rw c.in-Ok.is

pub returns-in-Err : goal.returns-in-Err
unfolding pps_read said no_triples blank
returns-in-Err c = rw (c.in-Err.is, c.number.ensures, c.no_pps-pps.ensures)
