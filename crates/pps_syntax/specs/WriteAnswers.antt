-- Writing a picture parameter set (docs/BEHAVIOUR.md): what is answered, and what is left in the output. A refusal changes nothing; an acceptance changes only the bytes that it
-- reports.
use Rattle.std.specs.Prelude.{ℕ, Bool, true, false, cond, ◌&&◌, List, Result}
use Rattle.bit_writer.specs.Answers.{written_answer, written_out}
use Rattle.pps_record.specs.declared.VvcPps.{VvcPps}
use Rattle.pps_record.specs.declared.VvcQpOffsets.{VvcQpOffsets}
use Rattle.pps_syntax.specs.FromRecord.{Lent, set_from, extension_from, tables_long, counts_fit, extension_lent}
use Rattle.pps_syntax.specs.Written.{set_refusal, set_rbsp, set_nal}

-- all tables at their stated lengths, also those of absent parts; counts that they hold; extension bits in the lent bytes
abbrev pub lent_right : VvcPps → Lent → List ℕ → Bool
lent_right r t extension = (tables_long t && counts_fit r t) && extension_lent r extension

-- The first refusal, 0 where there is none: 5, then what the description of the set refuses, in its order (24, 7, 25, 8, 26, 27, 9 to 19, 20, 21, 28)
unfoldable pub write_refusal : VvcPps → List VvcQpOffsets → Lent → List ℕ → ℕ
write_refusal r triples t extension = cond (lent_right r t extension) (set_refusal (set_from r triples t) (extension_from r extension)) 5

-- the bytes: an RBSP, or a NAL unit
unfoldable pub write_bytes : Bool → VvcPps → List VvcQpOffsets → Lent → List ℕ → List ℕ
write_bytes nal r triples t extension =
    cond nal (set_nal (set_from r triples t) (extension_from r extension)) (set_rbsp (set_from r triples t) (extension_from r extension))

pub record WriteOutcome : Type 0 where
  pub answer : Result ℕ ℕ
  pub out : List ℕ

abbrev pub wrote : Result ℕ ℕ → List ℕ → WriteOutcome
wrote answer out = record { answer = answer; out = out }

-- 29 exactly where the output is shorter than the bytes
unfoldable pub write_set : Bool → VvcPps → List VvcQpOffsets → Lent → List ℕ → List ℕ → WriteOutcome
write_set nal r triples t extension out =
    let refusal : ℕ = write_refusal r triples t extension in
    let bytes : List ℕ = write_bytes nal r triples t extension in
    wrote (written_answer refusal bytes out) (written_out refusal bytes out)

-- the RBSP, with its trailing bits
abbrev pub write_pps : VvcPps → List VvcQpOffsets → Lent → List ℕ → List ℕ → WriteOutcome
write_pps = write_set false

-- 00 81, then the escaped RBSP
abbrev pub write_pps_nal : VvcPps → List VvcQpOffsets → Lent → List ℕ → List ℕ → WriteOutcome
write_pps_nal = write_set true
