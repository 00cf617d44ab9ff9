-- A test by another name, and a function that refuses where the description has a test.
use Rattle.std.specs.Prelude.{ℕ, ◌<◌, ◌≡◌, refl, Bool, true, false, not, cond}
use Rattle.std.proofs.Common.{ap, ◌∙◌, arith}
use Rattle.codes.specs.Symbols.{check}
use Rattle.refusal.specs.declared.Refusal.{Refusal}
use Rattle.refusal.specs.Numbers.{number}
use Rattle.refusal.proofs.Numbers.{number_above0}
use Rattle.bit_writer.specs.Writing.{Writing, with_refusal}
use Rattle.bit_writer.specs.Stop.{play_on}
use Rattle.bit_writer.proofs.Steps.{test_met, test_failed}

pub renamed : (w : Writing) (n : ℕ) {x : Writing} {a b : Bool} → a ≡ b → x ≡ play_on w (check a n) → x ≡ play_on w (check b n)
renamed w n e p = p ∙ ap (λ (t : Bool). play_on w (check t n)) e

pub answered_refused : (w : Writing) (e : Refusal) (b : Bool) (n : ℕ) → w.sink.refused ≡ 0 → number e ≡ cond b n 0 → with_refusal w (number e) ≡ play_on w (check (not b) n)
answered_refused w e true n z q = rw q (test_failed w false n refl z)
answered_refused w e false n z q = absurd (let h = number_above0 e in omega arith)

pub answered_fine : (b : Bool) (n : ℕ) → 0 < n → 0 ≡ cond b n 0 → b ≡ false
answered_fine true n h q = absurd (omega arith)
answered_fine false n h q = refl

pub fine_put : (w : Writing) (b : Bool) (n : ℕ) → b ≡ false → w ≡ play_on w (check (not b) n)
fine_put w b n e = test_met w (not b) n (ap not e)
