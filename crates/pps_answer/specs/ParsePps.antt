-- Reading a NAL unit with a picture parameter set, whole (docs/BEHAVIOUR.md): what is answered, and what is left in the lent memory.
use Rattle.std.specs.Prelude.{ℕ, List, cond, eqb, length}
use Rattle.tables.specs.Tables.{over}
use Rattle.pps_syntax.specs.FromRecord.{Lent, tables_long}
use Rattle.pps_syntax.specs.Rbsp.{ReadAnswer, read_rbsp, before_fields, rbsp_of}
use Rattle.pps_answer.specs.Answers.{PpsAnswer, refused_pps, answer_of}
use Rattle.pps_answer.specs.Lending.{after_fields}

pub record ReadOutcome : Type 0 where
  pub answer : PpsAnswer
  pub work : List ℕ
  pub tables : Lent

abbrev pub outcome : PpsAnswer → List ℕ → Lent → ReadOutcome
outcome answer work tables = record { answer = answer; work = work; tables = tables }

-- unchanged after 1 to 5; else the RBSP in the work buffer, and the tables cleared or filled
unfoldable pub parse_pps : List ℕ → List ℕ → Lent → ReadOutcome
parse_pps nal work t =
    let n : ℕ = before_fields nal (length work) (tables_long t) in
    let read : ReadAnswer = read_rbsp (rbsp_of nal) in
    cond (eqb n 0) (outcome (answer_of read) (over (rbsp_of nal) work) (after_fields read t)) (outcome (refused_pps n) work t)
