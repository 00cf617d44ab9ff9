-- The symbols of a list, element by element, as a loop puts them.
use Prim.Native.Nat.{ℕ, zero, suc, min}
use Rattle.std.specs.Prelude.{◌≡◌, refl, Bool, false, eqb, length, take}
use Rattle.std.proofs.Math.Path.{sym, ap}
use Rattle.std.proofs.Common.{◌∙◌, arith, eq-eqb, ne_eqb, eqb-true}
use mathlib.Core.List.{List, [], ◌∷◌, ◌++◌, append_assoc}
use Rattle.std.proofs.Math.Bool.{true}
use Rattle.std.proofs.lemmas.Bool.{eqb-false}
use Rattle.codes.specs.Symbols.{Symbol, check, check-true}
use Rattle.syntax.specs.Element.{ElementOf}
use Rattle.syntax.specs.Lists.{many}

eqb-suc : (a b : ℕ) → eqb (suc a) (suc b) ≡ eqb a b
eqb-suc a b = split (eqb a b) refl
  where
    split : (t : Bool) → eqb a b ≡ t → eqb (suc a) (suc b) ≡ t
    split true e = eq-eqb (suc a) (suc b) (ap suc (eqb-true a b e))
    split false e = ne_eqb (suc a) (suc b) (λ q. eqb-false a b e (omega arith))

module _ {A : Type 0} where
  unfoldable pub each : {still : Bool} → ElementOf still A → List A → List Symbol
  each e [] = []
  each e (x ∷ xs) = e.symbols x ++ each e xs

  -- a list of a given length: its elements, as many as there are up to that length, and then the test of the length
  pub many-each : {still : Bool} (k : ℕ) (e : ElementOf still A) (n : ℕ) (l : List A) → (many k e n).symbols l ≡ each e (take k l) ++ check (eqb (length l) k) n
  unfolding many each
  many-each zero e n [] = sym (check-true true n refl)
  many-each zero e n (x ∷ l) = rw (ne_eqb (suc (length l)) 0 (λ q. absurd (omega arith)))
  many-each (suc k) e n [] = rw (ne_eqb 0 (suc k) (λ q. absurd (omega arith)))
  many-each (suc k) e n (x ∷ l) = rw (eqb-suc (length l) k) (ap (λ (s : List Symbol). e.symbols x ++ s) (many-each k e n l) ∙ sym (append_assoc (e.symbols x) (each e (take k l)) (check (eqb (length l) k) n)))

  take_none : (n : ℕ) → take {A = A} n [] ≡ []
  take_none zero = refl
  take_none (suc n) = refl

  -- the first k of a list that is the first c of a table
  pub take-cut : (k c n : ℕ) (t : List A) → n ≡ min k (min c (length t)) → take n t ≡ take k (take c t)
  take-cut k c n [] e = rw (take_none n, take_none c, take_none k)
  take-cut k zero n (x ∷ t) e = let z : n ≡ 0 = omega arith in rw (z, take_none k)
  take-cut zero (suc c) n (x ∷ t) e = let z : n ≡ 0 = omega arith in rw z
  take-cut (suc k) (suc c) zero (x ∷ t) e = absurd (omega arith)
  take-cut (suc k) (suc c) (suc n) (x ∷ t) e = ap (λ (l : List A). x ∷ l) (take-cut k c n t (omega arith))
