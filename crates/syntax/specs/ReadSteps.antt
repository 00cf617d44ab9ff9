-- How `parse` goes over each part of a description, from every cursor: what is known of the calls of a reader, one step for each, the last call first.
use Rattle.std.specs.Prelude.{ℕ, ◌<◌, ◌≡◌, List, Bool, true}
use Rattle.std.proofs.Math.Path.{refl, ap}
use Rattle.bit_reader.specs.declared.Cursor.{Cursor}
use Rattle.bit_reader.specs.Reading.{demanded}
use Rattle.syntax.specs.Element.{Parsed, parsed}
use Rattle.syntax.specs.Syntax.{SyntaxOf, done, on_writing, on_reading, on_both, PlacedOf, ◌>>=◌, parse}

-- the end
pub reads-done : {R : Type 0} (r : R) (s : List ℕ) (c : Cursor) → parsed r c ≡ parse {still = true} (done r) s c
unfolding parse
reads-done r s c = refl

module _ {still : Bool} {R : Type 0} where
  -- an element that a call has read
  pub reads : {A : Type 0} (m : PlacedOf still R A) (k : A → SyntaxOf still R) (s : List ℕ) (c : Cursor) {v : A} {n : Cursor} → parsed v n ≡ m.what.read s c → parse (k v) s n ≡ parse (◌>>=◌ m k) s c
  unfolding parse ◌>>=◌
  reads {A} m k s c e = ap (λ (g : Parsed A). parse (k g.value) s g.next) e

  -- a test that a call has made
  pub reads-test : (ok : Bool) (n : ℕ) (l : 0 < n) (k : SyntaxOf still R) (s : List ℕ) (c : Cursor) {d : Cursor} → d ≡ demanded ok n c → parse k s d ≡ parse (on_reading ok n l k) s c
  unfolding parse
  reads-test ok n l k s c e = rw e

  pub reads_both : (ok : Bool) (n : ℕ) (l : 0 < n) (k : SyntaxOf still R) (s : List ℕ) (c : Cursor) {d : Cursor} → d ≡ demanded ok n c → parse k s d ≡ parse (on_both ok n l k) s c
  unfolding parse
  reads_both ok n l k s c e = rw e

  -- a test of writing, which reading passes over
  pub reads_past : (test : R → Bool) (n : ℕ) (k : SyntaxOf still R) (s : List ℕ) (c : Cursor) → parse k s c ≡ parse (on_writing test n k) s c
  unfolding parse
  reads_past test n k s c = refl
