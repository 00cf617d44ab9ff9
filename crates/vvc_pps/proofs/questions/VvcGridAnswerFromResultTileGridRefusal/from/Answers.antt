use Rattle.refusal.specs.Answers.{with_number}
use Rattle.vvc_pps.proofs.questions.VvcGridAnswerFromResultTileGridRefusal.from.Goals as goal

pub returns-in-Ok : goal.returns-in-Ok
unfolding with_number
returns-in-Ok c = rw c.in-Ok.is

pub returns-in-Err : goal.returns-in-Err
unfolding with_number
returns-in-Err c = rw (c.in-Err.is, c.number.ensures)
