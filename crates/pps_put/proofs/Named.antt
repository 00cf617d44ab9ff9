-- The same step by another name.
use Rattle.std.specs.Prelude.{◌≡◌, List, ◌++◌, Bool, true, false, ◌&&◌, refl, ℕ}
use Rattle.std.specs.Result.{IsErrAnd}
use Rattle.std.specs.Prelude.{Result}
use Rattle.std.proofs.Common.{ap, ◌∙◌, ne_eqb}
use lib.IntN.{ℤ}
use mir.Facts.{to_z-of_z}
use mir.Syntax.{w32}
use mir.Val.{SFits, to_z, of_z}
use Rattle.codes.specs.Symbols.{Symbol, check}
use Rattle.refusal.specs.declared.Refusal.{Refusal}
use Rattle.refusal.specs.Numbers.{number}
use Rattle.bit_writer.specs.declared.BitWriter.{BitWriter}
use Rattle.bit_writer.specs.Writing.{Writing, with_refusal}
use Rattle.bit_writer.specs.Stop.{play_on, on_then}
use Rattle.bit_writer.specs.Written.{written, ended}
use Rattle.syntax.specs.Elements.{is_set}
use Rattle.bit_writer.proofs.Ended.{at_err, refused_before}

-- a value that the machine holds as y
pub named : {A : Type 0} (put : A → List Symbol) (w : Writing) {x : Writing} {y z : A} → y ≡ z → x ≡ play_on w (put y) → x ≡ play_on w (put z)
named put w e h = h ∙ ap (λ a. play_on w (put a)) e

-- a signed value is passed as its 32 bits
pub signed : (put : ℤ → List Symbol) (w : Writing) {x : Writing} (z : ℤ) → SFits w32 z → x ≡ play_on w (put (to_z w32 (of_z w32 z))) → x ≡ play_on w (put z)
signed put w z f h = named put w (to_z-of_z f) h

-- a flag of the record
pub present : {v : ℕ} → (v ≡ 0 → ⊥) → is_set v ≡ true
present {v} h = rw (ne_eqb v 0 h)

pub missing : {v : ℕ} → v ≡ 0 → is_set v ≡ false
missing {v} h = rw h

-- ---- two conditions
pub both : {a b : Bool} → a ≡ true → b ≡ true → (a && b) ≡ true
both p q = rw (p, q)

pub and_true : (a b : Bool) → (a && b) ≡ true → (a ≡ true) × (b ≡ true)
and_true true b h = (refl, h)
and_true false b h = cc

pub inside : {a : Bool} (b : Bool) → a ≡ true → b ≡ (a && b)
inside b p = rw p

pub not_first : {a : Bool} (b : Bool) → a ≡ false → (a && b) ≡ false
not_first b p = rw p

pub not_second : (a : Bool) {b : Bool} → b ≡ false → (a && b) ≡ false
not_second true p = p
not_second false p = refl

-- ---- a test, and what is put behind it: the exit of the test's `?`, and the end
module _ (w : Writing) (ok : Bool) (n : ℕ) (xs : List Symbol) where
  pub test_failed : {A : Type 0} (t : BitWriter) (o : List ℕ) (x : Result A Refusal) (e : Refusal) → IsErrAnd x (λ y. y ≡ e) → with_refusal (written t o) (number e) ≡ play_on w (check ok n)
      → ended t o x ≡ play_on w (check ok n ++ xs)
  test_failed t o x e h p = at_err t o x e h ∙ refused_before w (written t o) e (check ok n) xs p

  pub test-passed : {v u : Writing} → v ≡ play_on w (check ok n) → u ≡ play_on v xs → u ≡ play_on w (check ok n ++ xs)
  test-passed p q = on_then w (check ok n) xs p q
