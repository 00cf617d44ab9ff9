-- What the contract of `parse_pps` says of a unit that it accepts: the set that was read, and from it the record, the
-- triples, the bytes taken, the work buffer and the tables.
use Rattle.std.specs.Prelude.{ℕ, ◌≡◌, List, Bool, true, false, cond, eqb, length}
use Rattle.std.proofs.Math.Path.{refl, ap}
use Rattle.std.proofs.Common.{sym, arith, eqb-true}
use Rattle.pps_answer.specs.Answers.{Accepted, Refused, accepted_pps, refused_pps, record_read, triples_read, answer_of}
use Rattle.pps_answer.specs.Before.{before-passed}
use Rattle.pps_answer.specs.Lending.{filled, after_fields}
use Rattle.pps_answer.specs.ParsePps.{ReadOutcome, outcome, parse_pps}
use Rattle.pps_answer.specs.declared.AcceptedPps.{AcceptedPps}
use Rattle.pps_record.specs.declared.VvcPps.{VvcPps}
use Rattle.pps_record.specs.declared.VvcQpOffsets.{VvcQpOffsets}
use Rattle.pps_syntax.specs.FromRecord.{Lent, tables_long}
use Rattle.pps_syntax.specs.Rbsp.{ReadSet, ReadAnswer, accepted, refused, read_rbsp, before_fields, rbsp_of}
use Rattle.tables.specs.Tables.{over}

pub record UnitRead (nal work : List ℕ) (t : Lent) (pps : VvcPps) (triples : List VvcQpOffsets) (taken : ℕ)
    (left : List ℕ) (tables : Lent) : Type 0 where
  pub read : ReadSet
  pub is : read_rbsp (rbsp_of nal) ≡ accepted read
  pub record_is : pps ≡ record_read read
  pub triples_are : triples ≡ triples_read read
  pub taken_is : taken ≡ read.bytes_taken
  pub work-is : left ≡ over (rbsp_of nal) work
  pub tables_are : tables ≡ filled read.set t
  pub long : tables_long t ≡ true

same-accepted : (x y : AcceptedPps) → Accepted x ≡ Accepted y → x ≡ y
same-accepted x y e = cc

not-refused : (x : AcceptedPps) (n : ℕ) → Accepted x ≡ Refused n → ⊥
not-refused x n e = let z : ◌≡◌ {A = ℕ} 0 1 = cc in omega arith

said : {x y : ReadOutcome} → x ≡ y → x.answer ≡ y.answer
said e = ap (λ (o : ReadOutcome). o.answer) e

module _ (nal work : List ℕ) (t : Lent) (pps : VvcPps) (triples : List VvcQpOffsets) (taken : ℕ) (left : List ℕ)
    (tables : Lent) where
  abbrev Said : ReadOutcome
  Said = outcome (accepted_pps pps triples taken) left tables

  abbrev before : ℕ
  before = before_fields nal (length work) (tables_long t)

  abbrev Looked : ReadAnswer → ReadOutcome
  Looked o = outcome (answer_of o) (over (rbsp_of nal) work) (after_fields o t)

  found : before ≡ 0 → (o : ReadAnswer) → read_rbsp (rbsp_of nal) ≡ o → Said ≡ Looked o
      → UnitRead nal work t pps triples taken left tables
  unfolding answer_of after_fields
  found q (refused n) w z = absurd (not-refused _ n (said z))
  found q (accepted a) w z =
      let x = same-accepted _ _ (said z) in
      record {
        read = a;
        is = w;
        record_is = ap (λ (r : AcceptedPps). r.pps) x;
        triples_are = ap (λ (r : AcceptedPps). r.triples) x;
        taken_is = ap (λ (r : AcceptedPps). r.bytes_taken) x;
        work-is = ap (λ (o : ReadOutcome). o.work) z;
        tables_are = ap (λ (o : ReadOutcome). o.tables) z;
        long = (before-passed nal (length work) (tables_long t) (sym q)).fit;
      }

  looked : (b : Bool) → eqb before 0 ≡ b
      → Said ≡ cond b (Looked (read_rbsp (rbsp_of nal))) (outcome (refused_pps before) work t)
      → UnitRead nal work t pps triples taken left tables
  looked true q z = found (eqb-true before 0 q) (read_rbsp (rbsp_of nal)) refl z
  looked false q z = absurd (not-refused _ before (said z))

  pub unit-read : outcome (accepted_pps pps triples taken) left tables ≡ parse_pps nal work t
      → UnitRead nal work t pps triples taken left tables
  unfolding parse_pps
  unit-read e = looked (eqb before 0) refl e
