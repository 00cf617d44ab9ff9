-- How a function that writes is shown to follow a description: what is known of its calls, one step for each, the last call first.
use Rattle.std.specs.Prelude.{ℕ, ◌<◌, ◌≡◌, Bool, true, false, List}
use Rattle.std.proofs.Math.Path.{refl, sym, ap}
use Rattle.std.proofs.Common.{◌∙◌}
use Rattle.codes.specs.Coded.{only_if}
use Rattle.codes.specs.Symbols.{Symbol, check}
use Rattle.bit_writer.specs.Writing.{Writing, play, play-append, play-none}
use Rattle.syntax.specs.Syntax.{SyntaxOf, done, on_writing, on_reading, PlacedOf, ◌>>=◌, symbols_for}

-- the end
pub writes-done : {R : Type 0} (e r : R) (w : Writing) → w ≡ play w (symbols_for {still = true} (done e) r)
unfolding symbols_for
writes-done e r w = sym (play-none w)

module _ {still : Bool} {R : Type 0} where
  -- an element that a call has written
  pub writes : {A : Type 0} (m : PlacedOf still R A) (k : A → SyntaxOf still R) (r : R) (w : Writing) {v : Writing} → v ≡ play w (m.what.symbols (m.place r))
      → play v (symbols_for (k (m.place r)) r) ≡ play w (symbols_for (◌>>=◌ m k) r)
  unfolding symbols_for ◌>>=◌
  writes m k r w e =
      ap (λ (x : Writing). play x (symbols_for (k (m.place r)) r)) e ∙ sym (play-append w (m.what.symbols (m.place r)) (symbols_for (k (m.place r)) r))

  -- a test that a call has made
  pub writes-test : (test : R → Bool) (n : ℕ) (k : SyntaxOf still R) (r : R) (w : Writing) {v : Writing} → v ≡ play w (check (test r) n)
      → play v (symbols_for k r) ≡ play w (symbols_for (on_writing test n k) r)
  unfolding symbols_for
  writes-test test n k r w e = ap (λ (x : Writing). play x (symbols_for k r)) e ∙ sym (play-append w (check (test r) n) (symbols_for k r))

  -- a test of reading, which writing passes over
  pub writes_past : (ok : Bool) (n : ℕ) (l : 0 < n) (k : SyntaxOf still R) (r : R) (w : Writing) → play w (symbols_for k r) ≡ play w (symbols_for (on_reading ok n l k) r)
  unfolding symbols_for
  writes_past ok n l k r w = refl

-- symbols under a condition
pub only-on : (w : Writing) (on : Bool) (xs : List Symbol) → on ≡ true → play w xs ≡ play w (only_if on xs)
only-on w on xs e = rw e

pub only-off : (w : Writing) (on : Bool) (xs : List Symbol) → on ≡ false → w ≡ play w (only_if on xs)
only-off w on xs e = rw e (sym (play-none w))
