-- What is told of a unit: the number of its refusal, read into a work buffer of 65,536 bytes and tables of the stated
-- lengths. What is printed beside it no contract can say.
use Rattle.std.specs.Prelude.{ℕ, ◌≡◌, refl, Bool, true, false, List, Result, Ok, Err, eqb, length}
use Rattle.std.proofs.Math.Path.{sym, ap}
use Rattle.std.proofs.Common.{◌∙◌}
use Rattle.pps_answer.specs.Answers.{PpsAnswer, Accepted, Refused, answer_of, said}
use Rattle.pps_answer.specs.ParsePps.{ReadOutcome, outcome, parse_pps}
use Rattle.pps_answer.specs.declared.AcceptedPps.{AcceptedPps}
use Rattle.refusal.specs.declared.Refusal.{Refusal}
use Rattle.refusal.specs.Numbers.{refused}
use Rattle.pps_syntax.specs.FromRecord.{Lent, tables_long}
use Rattle.pps_syntax.specs.Rbsp.{read_nal, before_fields}

-- The number of a refusal, 0 where the unit is accepted.
unfoldable pub refusal_of : PpsAnswer → ℕ
refusal_of (Accepted a) = 0
refusal_of (Refused n) = n

unfoldable pub refusal_told : List ℕ → ℕ
refusal_told nal = refusal_of (answer_of (read_nal nal 65536 true))

-- the answer of reading goes by the lengths of what is lent
answer-read : (nal work : List ℕ) (t : Lent)
    → (parse_pps nal work t).answer ≡ answer_of (read_nal nal (length work) (tables_long t))
unfolding parse_pps read_nal answer_of
answer-read nal work t = cases (eqb (before_fields nal (length work) (tables_long t)) 0) refl
  where
    cases : (b : Bool) → eqb (before_fields nal (length work) (tables_long t)) 0 ≡ b
        → (parse_pps nal work t).answer ≡ answer_of (read_nal nal (length work) (tables_long t))
    cases true e = rw e
    cases false e = rw e

-- from what reading answers, with tables of the stated lengths
module _ (nal work left : List ℕ) (t after : Lent) (r : Result AcceptedPps Refusal) (e : outcome (said r) left after ≡ parse_pps nal work t)
    (w : length work ≡ 65536) (fit : tables_long t ≡ true) where
  said-number : (r : Result AcceptedPps Refusal) → refusal_of (said r) ≡ refused r
  unfolding refusal_of said refused
  said-number (Ok a) = refl
  said-number (Err e) = refl

  pub told : refused r ≡ refusal_told nal
  unfolding refusal_told
  told =
      sym (said-number r)
      ∙ ap (λ (o : ReadOutcome). refusal_of o.answer) e
      ∙ ap refusal_of (answer-read nal work t)
      ∙ rw (w, fit)
