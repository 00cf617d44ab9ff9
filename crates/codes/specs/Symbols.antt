-- What a writer does, in order: it puts a bit, or it refuses with a number. The first refusal stays (0 is none).
use Rattle.std.specs.Prelude.{ℕ, ◌<◌, Bool, true, false, cond, List, [], ◌∷◌, ◌++◌, map, ◌≡◌, refl, eqb}
use Rattle.std.proofs.Common.{sym, ap, ◌∙◌, arith, eqb-true, eq-eqb, ne_eqb}
use Rattle.std.proofs.lemmas.Bool.{eqb-false}

pub data Symbol : Type 0 where
  bit : ℕ → Symbol
  refuse : ℕ → Symbol

-- the first of two refusals
unfoldable pub first : ℕ → ℕ → ℕ
first a b = cond (eqb a 0) b a

-- the first refusal among the symbols
unfoldable pub refusal_in : List Symbol → ℕ
refusal_in [] = 0
refusal_in (bit b ∷ xs) = refusal_in xs
refusal_in (refuse n ∷ xs) = first n (refusal_in xs)

-- the bits among them
unfoldable pub bits_in : List Symbol → List ℕ
bits_in [] = []
bits_in (bit b ∷ xs) = b ∷ bits_in xs
bits_in (refuse n ∷ xs) = bits_in xs

-- bits alone
abbrev pub putting : List ℕ → List Symbol
putting bs = map bit bs

-- a test of writing that refuses with n where it fails; n = 0 stands for no test
unfoldable pub check : Bool → ℕ → List Symbol
check ok n = cond ok [] (cond (eqb n 0) [] (refuse n ∷ []))

-- bits behind such a test
unfoldable pub checked : Bool → ℕ → List ℕ → List Symbol
checked ok n bs = check ok n ++ putting bs

-- ---- laws of `first`
pub first_assoc : (a b c : ℕ) → first a (first b c) ≡ first (first a b) c
unfolding first
first_assoc a b c = split (eqb a 0) refl
  where
    split : (t : Bool) → eqb a 0 ≡ t → cond t (cond (eqb b 0) c b) a ≡ cond (eqb (cond t b a) 0) c (cond t b a)
    split true e = refl
    split false e = rw e

pub first-left : (b : ℕ) → first 0 b ≡ b
unfolding first
first-left b = refl

pub first-right : (a : ℕ) → first a 0 ≡ a
unfolding first
first-right a = split (eqb a 0) refl
  where
    split : (t : Bool) → eqb a 0 ≡ t → cond t 0 a ≡ a
    split true e = sym (eqb-true a 0 e)
    split false e = refl

pub first-none : (a b : ℕ) → first a b ≡ 0 → (a ≡ 0) × (b ≡ 0)
unfolding first
first-none a b = split (eqb a 0) refl
  where
    split : (t : Bool) → eqb a 0 ≡ t → cond t b a ≡ 0 → (a ≡ 0) × (b ≡ 0)
    split true e h = (eqb-true a 0 e, h)
    split false e h = absurd (eqb-false a 0 e h)

pub first-zero : (a b : ℕ) → a ≡ 0 → b ≡ 0 → first a b ≡ 0
unfolding first
first-zero a b p q = rw (eq-eqb a 0 p) q

-- ---- symbols behind symbols
pub refusal-append : (xs ys : List Symbol) → refusal_in (xs ++ ys) ≡ first (refusal_in xs) (refusal_in ys)
unfolding refusal_in
refusal-append [] ys = sym (first-left (refusal_in ys))
refusal-append (bit b ∷ xs) ys = refusal-append xs ys
refusal-append (refuse n ∷ xs) ys = ap (first n) (refusal-append xs ys) ∙ first_assoc n (refusal_in xs) (refusal_in ys)

pub bits_in_append : (xs ys : List Symbol) → bits_in (xs ++ ys) ≡ bits_in xs ++ bits_in ys
unfolding bits_in
bits_in_append [] ys = refl
bits_in_append (bit b ∷ xs) ys = ap (λ (l : List ℕ). b ∷ l) (bits_in_append xs ys)
bits_in_append (refuse n ∷ xs) ys = bits_in_append xs ys

pub refusal-putting : (bs : List ℕ) → refusal_in (putting bs) ≡ 0
unfolding refusal_in
refusal-putting [] = refl
refusal-putting (b ∷ bs) = refusal-putting bs

pub bits_in_putting : (bs : List ℕ) → bits_in (putting bs) ≡ bs
unfolding bits_in
bits_in_putting [] = refl
bits_in_putting (b ∷ bs) = ap (λ (l : List ℕ). b ∷ l) (bits_in_putting bs)

-- ---- tests
pub check-true : (ok : Bool) (n : ℕ) → ok ≡ true → check ok n ≡ []
unfolding check
check-true ok n e = rw e

pub check-false : (ok : Bool) (n : ℕ) → ok ≡ false → 0 < n → check ok n ≡ refuse n ∷ []
unfolding check
check-false ok n e h = rw (e, ne_eqb n 0 (λ z. absurd (omega arith)))

pub check-none : (ok : Bool) → check ok 0 ≡ []
unfolding check
check-none true = refl
check-none false = refl

refusal-one : (n : ℕ) → refusal_in (refuse n ∷ []) ≡ n
unfolding refusal_in
refusal-one n = first-right n

pub refusal-check : (ok : Bool) (n : ℕ) → refusal_in (check ok n) ≡ cond ok 0 n
unfolding check
refusal-check true n = refusal-putting []
refusal-check false n = split (eqb n 0) refl
  where
    split : (t : Bool) → eqb n 0 ≡ t → refusal_in (cond t [] (refuse n ∷ [])) ≡ n
    split true e = refusal-putting [] ∙ sym (eqb-true n 0 e)
    split false e = refusal-one n

pub bits_in_check : (ok : Bool) (n : ℕ) → bits_in (check ok n) ≡ []
unfolding check bits_in
bits_in_check true n = refl
bits_in_check false n = split (eqb n 0)
  where
    split : (t : Bool) → bits_in (cond t [] (refuse n ∷ [])) ≡ []
    split true = refl
    split false = refl
