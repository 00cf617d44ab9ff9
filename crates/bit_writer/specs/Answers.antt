-- What a writer of bytes answers and leaves in its output; 29 is the number for an output shorter than the bytes. A run
-- over any other bytes counts and finds any refusal first, so that a refused write changes nothing.
use Rattle.std.specs.Prelude.{ℕ, ◌≤◌, ◌<◌, ◌^◌, min, Bool, true, false, cond, List, ◌≡◌, refl, ltb, eqb, length, Result, Ok, Err}
use Rattle.std.proofs.Common.{arith, ap, ◌∙◌, lt-ltb, le-ltb, ltb-true, ltb-false, eqb-true}
use Rattle.nal.specs.Answers.{output_after}
use Rattle.tables.specs.Tables.{sets_over}
use Rattle.bit_writer.specs.declared.Sink.{Sink}
use Rattle.bit_writer.specs.Writing.{Writing}
use Rattle.bit_writer.specs.Closing.{Ran}

-- a refusal, or 29 for fewer than n places, or n
unfoldable pub answered : ℕ → ℕ → ℕ → Result ℕ ℕ
answered refusal n room = cond (eqb refusal 0) (cond (ltb room n) (Err 29) (Ok n)) (Err refusal)

-- what the sink of a run says of an output with that much room
unfoldable pub answer_of : Sink → ℕ → Result ℕ ℕ
answer_of s room = answered s.refused s.put room

-- what a writer of these bytes answers
unfoldable pub written_answer : ℕ → List ℕ → List ℕ → Result ℕ ℕ
written_answer refusal bytes out = answered refusal (length bytes) (length out)

-- and what it leaves in the output
unfoldable pub written_out : ℕ → List ℕ → List ℕ → List ℕ
written_out refusal bytes out = output_after (written_answer refusal bytes out) bytes out

counted : (n room : ℕ) → room < 2 ^ 63 → cond {A = Result ℕ ℕ} (ltb room (min (2 ^ 63) n)) (Err 29) (Ok (min (2 ^ 63) n)) ≡ cond (ltb room n) (Err 29) (Ok n)
counted n room h = split (ltb room n) refl
  where
    split : (t : Bool) → ltb room n ≡ t → cond {A = Result ℕ ℕ} (ltb room (min (2 ^ 63) n)) (Err 29) (Ok (min (2 ^ 63) n)) ≡ cond t (Err 29) (Ok n)
    split true e = rw (lt-ltb room (min (2 ^ 63) n) (omega (arith, ltb-true room n e)))
    split false e =
        let l : n ≤ room = ltb-false room n e in
        let k : min (2 ^ 63) n ≡ n = omega arith in
        rw (k, le-ltb room n l)

-- a run over any bytes says what an output is answered
pub answer-is : (w : Writing) (r : ℕ) (bytes out over : List ℕ) → Ran w r bytes over → length out < 2 ^ 63 → answer_of w.sink (length out) ≡ written_answer r bytes out
unfolding answer_of written_answer answered
answer-is w r bytes out over a h =
    rw (a.refused, a.count) (ap (λ (x : Result ℕ ℕ). cond (eqb r 0) x (Err r)) (counted (length bytes) (length out) h))

-- ---- the writing run
pub out-kept : (r n : ℕ) (bytes out : List ℕ) → written_answer r bytes out ≡ Err n → out ≡ written_out r bytes out
unfolding written_out output_after
out-kept r n bytes out e = rw e

-- an accepted number of bytes is theirs, with no refusal, and they fit
pub fits : (r n : ℕ) (bytes out : List ℕ) → written_answer r bytes out ≡ Ok n → (r ≡ 0) × (n ≡ length bytes) × (length bytes ≤ length out)
unfolding written_answer answered
fits r n bytes out = split (eqb r 0) refl (ltb (length out) (length bytes)) refl
  where
    split : (t : Bool) → eqb r 0 ≡ t → (u : Bool) → ltb (length out) (length bytes) ≡ u → cond t (cond u (Err 29) (Ok (length bytes))) (Err r) ≡ Ok n
        → (r ≡ 0) × (n ≡ length bytes) × (length bytes ≤ length out)
    split true e true f q = let z : ◌≡◌ {A = ℕ} 0 1 = cc in absurd (omega arith)
    split true e false f q = (eqb-true r 0 e, cc, ltb-false (length out) (length bytes) f)
    split false e u f q = let z : ◌≡◌ {A = ℕ} 0 1 = cc in absurd (omega arith)

pub out_written : (w : Writing) (r n : ℕ) (bytes out : List ℕ) → written_answer r bytes out ≡ Ok n → Ran w r bytes out → w.out ≡ written_out r bytes out
unfolding written_out output_after
out_written w r n bytes out e a = rw e (a.written ∙ sets_over out bytes (fits r n bytes out e).2)
