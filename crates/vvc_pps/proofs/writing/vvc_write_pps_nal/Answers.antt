use Rattle.vvc_pps.specs.Answers.{written_held_lem}
use Rattle.vvc_pps.proofs.writing.vvc_write_pps_nal.Goals as goal

pub returns : goal.returns
returns c = written_held_lem _ _ _ _ c.from.ensures c.write_pps_nal-answer.ensures
