-- Numbers and the bits that spell them, high bit first: u(n) of H.266 7.2 as it is written.
use Rattle.std.specs.Prelude.{ℕ, zero, suc, ◌+◌, ◌*◌, ◌/◌, ◌%◌, ◌^◌, ◌<◌, ◌≡◌, refl, List, [], ◌∷◌, ◌++◌, length, replicate}
use Rattle.std.proofs.Common.{sym, ap, ap₂, ◌∙◌, zero-add, suc-add, one-add, arith, shr-shr}
use Rattle.std.proofs.Math.Nat.{mod-one, zero-div}
use Rattle.std.proofs.lemmas.Nat.{mod-pow-add}
use Rattle.std.proofs.Math.Pow.{field, mod-mod-pow}

-- the n low bits of v
unfoldable pub to_bits : ℕ → ℕ → List ℕ
to_bits zero v = []
to_bits (suc n) v = v / 2 ^ n % 2 ∷ to_bits n v

-- the number that a list of bits spells
unfoldable pub number : List ℕ → ℕ
number [] = 0
number (b ∷ bs) = b * 2 ^ length bs + number bs

pub to_bits-length : (n v : ℕ) → length (to_bits n v) ≡ n
unfolding to_bits
to_bits-length zero v = refl
to_bits-length (suc n) v = ap suc (to_bits-length n v)

pub number-to_bits : (n v : ℕ) → number (to_bits n v) ≡ v % 2 ^ n
unfolding to_bits number
number-to_bits zero v = sym (mod-one v)
number-to_bits (suc n) v =
    rw (to_bits-length n v, number-to_bits n v)
    (sym (ap (λ (m : ℕ). v % 2 ^ m) (sym (one-add n)) ∙ mod-pow-add v 1 n))

-- only the n low bits count
pub to_bits-mod : (n v w : ℕ) → v % 2 ^ n ≡ w % 2 ^ n → to_bits n v ≡ to_bits n w
unfolding to_bits
to_bits-mod zero v w e = refl
to_bits-mod (suc n) v w e =
    let f : v % 2 ^ (1 + n) ≡ w % 2 ^ (1 + n) = rw (one-add n) e in
    ap₂ (λ (b : ℕ) (l : List ℕ). b ∷ l)
    (sym (field v 1 n) ∙ ap (λ (x : ℕ). x / 2 ^ n) f ∙ field w 1 n)
    (to_bits-mod n v w (sym (mod-mod-pow v 1 n) ∙ ap (λ (x : ℕ). x % 2 ^ n) f ∙ mod-mod-pow w 1 n))

-- the high m bits, then the low n bits
pub to_bits-append : (m n v : ℕ) → to_bits (m + n) v ≡ to_bits m (v / 2 ^ n) ++ to_bits n v
unfolding to_bits
to_bits-append zero n v = rw zero-add
to_bits-append (suc m) n v =
    let e : v / 2 ^ n / 2 ^ m ≡ v / 2 ^ (n + m) = shr-shr v n m in
    let k : n + m ≡ m + n = omega arith in
    rw (suc-add m n) (ap₂ (λ (b : ℕ) (l : List ℕ). b ∷ l) (sym (ap (λ (x : ℕ). x % 2) (e ∙ ap (λ (x : ℕ). v / 2 ^ x) k))) (to_bits-append m n v))

pub to_bits-zero : (n : ℕ) → to_bits n 0 ≡ replicate n 0
unfolding to_bits
to_bits-zero zero = refl
to_bits-zero (suc n) = ap₂ (λ (b : ℕ) (l : List ℕ). b ∷ l) (ap (λ (x : ℕ). x % 2) (zero-div (2 ^ n))) (to_bits-zero n)

-- a list of bits holds nothing but 0 and 1
abbrev pub Binary : List ℕ → Type 0
Binary [] = Unit {0}
Binary (b ∷ bs) = (b < 2) × Binary bs

pub binary-append : (xs ys : List ℕ) → Binary xs → Binary ys → Binary (xs ++ ys)
binary-append [] ys p q = q
binary-append (x ∷ xs) ys p q = (p.0, binary-append xs ys p.1 q)

pub binary-to_bits : (n v : ℕ) → Binary (to_bits n v)
unfolding to_bits
binary-to_bits zero v = tt
binary-to_bits (suc n) v = (omega arith, binary-to_bits n v)

pub binary-zeros : (k : ℕ) → Binary (replicate k 0)
binary-zeros zero = tt
binary-zeros (suc k) = (omega arith, binary-zeros k)
