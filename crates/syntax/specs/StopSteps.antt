-- How a function that writes up to a refusal is shown to follow a description: one step for each call, the last call first (as `WriteSteps` of `syntax`).
use Rattle.std.specs.Prelude.{ℕ, ◌<◌, ◌≡◌, List, Bool, true, false}
use Rattle.std.proofs.Math.Path.{refl, sym, ap}
use Rattle.std.proofs.Common.{◌∙◌}
use Rattle.codes.specs.Coded.{only_if}
use Rattle.codes.specs.Symbols.{Symbol, check}
use Rattle.bit_writer.specs.Writing.{Writing, play}
use Rattle.syntax.specs.Syntax.{SyntaxOf, done, on_writing, on_reading, on_both, PlacedOf, ◌>>=◌, symbols_for}
use Rattle.bit_writer.specs.Stop.{play_on, on_none, on-append, on-check}

-- the end
pub stops-done : {R : Type 0} (e r : R) (w : Writing) → w ≡ play_on w (symbols_for {still = true} (done e) r)
unfolding symbols_for
stops-done e r w = sym (on_none w)

module _ {still : Bool} {R : Type 0} where
  -- an element that a call has written
  pub stops : {A : Type 0} (m : PlacedOf still R A) (k : A → SyntaxOf still R) (r : R) (w : Writing) {v : Writing} → v ≡ play_on w (m.what.symbols (m.place r))
      → play_on v (symbols_for (k (m.place r)) r) ≡ play_on w (symbols_for (◌>>=◌ m k) r)
  unfolding symbols_for ◌>>=◌
  stops m k r w e = ap (λ (x : Writing). play_on x (symbols_for (k (m.place r)) r)) e ∙ sym (on-append w (m.what.symbols (m.place r)) (symbols_for (k (m.place r)) r))

  -- a test that a call has made
  pub stops-test : (test : R → Bool) (n : ℕ) (k : SyntaxOf still R) (r : R) (w : Writing) {v : Writing} → v ≡ play_on w (check (test r) n)
      → play_on v (symbols_for k r) ≡ play_on w (symbols_for (on_writing test n k) r)
  unfolding symbols_for
  stops-test test n k r w e = ap (λ (x : Writing). play_on x (symbols_for k r)) e ∙ sym (on-append w (check (test r) n) (symbols_for k r))

  pub stops-both : (ok : Bool) (n : ℕ) (l : 0 < n) (k : SyntaxOf still R) (r : R) (w : Writing) {v : Writing} → v ≡ play_on w (check ok n)
      → play_on v (symbols_for k r) ≡ play_on w (symbols_for (on_both ok n l k) r)
  unfolding symbols_for
  stops-both ok n l k r w e = ap (λ (x : Writing). play_on x (symbols_for k r)) e ∙ sym (on-append w (check ok n) (symbols_for k r))

  -- a test of reading, which writing passes over
  pub stops_past : (ok : Bool) (n : ℕ) (l : 0 < n) (k : SyntaxOf still R) (r : R) (w : Writing) → play_on w (symbols_for k r) ≡ play_on w (symbols_for (on_reading ok n l k) r)
  unfolding symbols_for
  stops_past ok n l k r w = refl

-- ---- ways out of functions
pub only-on : (w : Writing) (on : Bool) (xs : List Symbol) {x : Writing} → on ≡ true → x ≡ play_on w xs → x ≡ play_on w (only_if on xs)
only-on w on xs e h = rw e h

pub only-off : (w : Writing) (on : Bool) (xs : List Symbol) → on ≡ false → w ≡ play_on w (only_if on xs)
only-off w on xs e = rw e (sym (on_none w))

-- a test by another name
pub tested : (w : Writing) (n : ℕ) {x : Writing} {a b : Bool} → a ≡ b → x ≡ play w (check a n) → x ≡ play_on w (check b n)
tested w n {a = a} e h = h ∙ sym (on-check w a n) ∙ ap (λ (k : Bool). play_on w (check k n)) e
