-- A signed value is unchanged by the 32 bits of its field.
use Rattle.std.proofs.Common.{SFits, to_z-of_z, rules}
use Rattle.std.specs.Int.{w32}
use Rattle.bit_reader.proofs.Gives.{at_exit}
use Rattle.pps_answer.specs.Answers.{record_from}
use Rattle.pps_answer.proofs.Answers.{answer-given, answer-refused}
use Rattle.pps_answer.proofs.answer_of.Goals as goal

pub returns-in_err-bits : goal.returns-in_err-bits
returns-in_err-bits c = let a = c.args in at_exit c.from_residual.ensures.1 (answer-refused a.front a.partition a.back c.in_err-bits.ensures)

pub returns : goal.returns
unfolding record_from
returns c = let a = c.args in
    let fits : SFits w32 a.back.references.pps_init_qp_minus26 = search rules in
    rw (to_z-of_z fits) (answer-given a.front a.partition a.back c.in_ok-bits.ensures c.first_bit-pps_extension_data_first_bit.ensures)
