-- Ways out of functions that may refuse, and of those that call them.
use Rattle.std.specs.Prelude.{ℕ, List, ◌++◌, Result, ◌≡◌}
use Rattle.std.specs.Result.{IsErrAnd}
use Rattle.std.proofs.Common.{sym, ◌∙◌, arith}
use Rattle.std.proofs.lemmas.Result.{err_from_is_err_and}
use Rattle.codes.specs.Symbols.{Symbol, putting}
use Rattle.refusal.specs.declared.Refusal.{Refusal}
use Rattle.refusal.specs.Numbers.{number}
use Rattle.refusal.proofs.Numbers.{number_above0}
use Rattle.bit_writer.specs.declared.BitWriter.{BitWriter}
use Rattle.bit_writer.specs.Writing.{Writing, with_refusal, feed, play-bits}
use Rattle.bit_writer.specs.Stop.{play_on, on-bits, on_then, on-refused}
use Rattle.bit_writer.specs.Written.{written, ended}

-- bits of a writing that nothing refused
pub feed_on : (w : Writing) (bs : List ℕ) → w.sink.refused ≡ 0 → feed w bs ≡ play_on w (putting bs)
feed_on w bs z = sym (on-bits w bs z ∙ play-bits w bs)

-- the exit of a `?`
pub at_err : {A : Type 0} (w : BitWriter) (o : List ℕ) (r : Result A Refusal) (e : Refusal) → IsErrAnd r (λ y. y ≡ e) → ended w o r ≡ with_refusal (written w o) (number e)
at_err w o r e h = let p = err_from_is_err_and r h in rw (p.1, p.2)

-- behind a refusal nothing is put
pub refused_stays : (w : Writing) (e : Refusal) (xs : List Symbol) → with_refusal w (number e) ≡ play_on (with_refusal w (number e)) xs
refused_stays w e xs = sym (on-refused (with_refusal w (number e)) xs (λ z. absurd (let h = number_above0 e in omega arith)))

-- the exit of a `?`, before all that was to come
pub stopped_at : {A : Type 0} (w : BitWriter) (o : List ℕ) (r : Result A Refusal) (e : Refusal) (xs : List Symbol)
    → IsErrAnd r (λ y. y ≡ e) → ended w o r ≡ play_on (with_refusal (written w o) (number e)) xs
stopped_at w o r e xs h = at_err w o r e h ∙ refused_stays (written w o) e xs

-- a call that refused, and what was to come
pub refused_before : (v w : Writing) (e : Refusal) (xs ys : List Symbol) → with_refusal w (number e) ≡ play_on v xs → with_refusal w (number e) ≡ play_on v (xs ++ ys)
refused_before v w e xs ys p = on_then v xs ys p (refused_stays w e ys)
