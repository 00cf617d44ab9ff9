-- The parts of a set, put together with its end.
use Rattle.std.specs.Prelude.{ℕ, ◌/◌, ◌≡◌, Ok, Err}
use Rattle.std.proofs.Common.{ap, ◌∙◌}
use Rattle.refusal.specs.declared.Refusal.{Refusal}
use Rattle.bit_reader.specs.declared.BitReader.{BitReader}
use Rattle.bit_reader.specs.Gives.{Parsed, parsed, cursor_of, Gives}
use Rattle.bit_reader.proofs.Gives.{given, given_back, refuses, refused_back}
use Rattle.pps_parts.specs.declared.FrontRead.{FrontRead}
use Rattle.pps_parts.specs.declared.BackRead.{BackRead}
use Rattle.pps_parts.specs.Ends.{end_read}
use Rattle.pps_record.specs.declared.VvcPpsPartition.{VvcPpsPartition}
use Rattle.pps_answer.specs.declared.AcceptedPps.{AcceptedPps}
use Rattle.pps_answer.specs.Answers.{first_bit, record_from, answer_from}

module _ (f : FrontRead) (k : VvcPpsPartition) (b : BackRead) {p q : BitReader} where
  pub answer-given : {bits first : ℕ} → Gives (end_read b.picture_header.pps_extension_flag) p q (Ok bits) → first ≡ first_bit bits p.bit_pos
      → Gives (answer_from f k b) p q (Ok (record { pps = record_from f k b first bits; triples = b.chroma.triples; bytes_taken = q.bit_pos / 8 }))
  unfolding answer_from
  answer-given {bits} g h =
      let all : Parsed ℕ → Parsed AcceptedPps = λ n. parsed (record { pps = record_from f k b (first_bit n.value p.bit_pos) n.value; triples = b.chroma.triples; bytes_taken = n.next.at / 8 }) n.next in
      given g.bytes
      (ap (λ (n : ℕ). parsed (record { pps = record_from f k b n bits; triples = b.chroma.triples; bytes_taken = q.bit_pos / 8 }) (cursor_of q)) h ∙ ap all (given_back g))

  pub answer-refused : {e : Refusal} → Gives (end_read b.picture_header.pps_extension_flag) p q (Err e) → Gives (answer_from f k b) p q (Err e)
  unfolding answer_from
  answer-refused g = refuses g.bytes (refused_back g)
