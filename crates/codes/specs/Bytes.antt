-- The bits of a byte string. A position counts bits from 0, the high bit of the first byte (H.266 7.2).
use Rattle.std.specs.Prelude.{ℕ, zero, suc, ◌+◌, ◌-◌, ◌*◌, ◌/◌, ◌%◌, ◌^◌, ◌≤◌, ◌<◌, min, ◌≡◌, refl, List, [], ◌∷◌, ◌++◌, Bool, true, false, cond, ltb, length, get_or}
use Rattle.std.proofs.Common.{sym, ap, ap₂, ◌∙◌, add-zero, zero-add, add-suc, suc-add, add_assoc, mul_assoc, mul-one, pow-suc, mod-eq_of_lt, add-one, one-add, arith, lt-ltb, le-ltb}
use Rattle.std.proofs.Math.Pow.{high, low}
use Rattle.codes.specs.Bits.{to_bits, to_bits-mod, number}

-- the number of bits that can be read. The bound, which no byte string reaches, keeps every position below 2^64
abbrev pub bit_count : List ℕ → ℕ
bit_count s = min (length s) (2 ^ 60) * 8

-- bit k, 0 past the end
unfoldable pub bit_at : List ℕ → ℕ → ℕ
bit_at s k = cond (ltb k (bit_count s)) (get_or s (k / 8) 0 / 2 ^ (7 - k % 8) % 2) 0

-- read_bits( n ) of 7.2: the number that the n bits from a position on spell
unfoldable pub bits_at : List ℕ → ℕ → ℕ → ℕ
bits_at s at zero = 0
bits_at s at (suc n) = bits_at s at n * 2 + bit_at s (at + n)

-- the n bits from a position on
unfoldable pub bit_list : List ℕ → ℕ → ℕ → List ℕ
bit_list s at zero = []
bit_list s at (suc n) = bit_at s at ∷ bit_list s (at + 1) n

-- ---- one bit
pub bit_past : (s : List ℕ) (k : ℕ) → bit_count s ≤ k → bit_at s k ≡ 0
unfolding bit_at
bit_past s k h = rw (le-ltb k (bit_count s) h)

pub bit_in : (s : List ℕ) (k : ℕ) → k < bit_count s → bit_at s k ≡ get_or s (k / 8) 0 / 2 ^ (7 - k % 8) % 2
unfolding bit_at
bit_in s k h = rw (lt-ltb k (bit_count s) h)

pub bit-lt : (s : List ℕ) (k : ℕ) → bit_at s k < 2
unfolding bit_at
bit-lt s k = split (ltb k (bit_count s))
  where
    split : (t : Bool) → cond t (get_or s (k / 8) 0 / 2 ^ (7 - k % 8) % 2) 0 < 2
    split true = omega arith
    split false = omega arith

-- ---- runs of bits
pub bits_none : (s : List ℕ) (at : ℕ) → bits_at s at 0 ≡ 0
unfolding bits_at
bits_none s at = refl

pub bits-step : (s : List ℕ) (at n : ℕ) → bits_at s at (n + 1) ≡ bits_at s at n * 2 + bit_at s (at + n)
unfolding bits_at
bits-step s at n = rw add-one

pub bits-one : (s : List ℕ) (at : ℕ) → bits_at s at 1 ≡ bit_at s at
unfolding bits_at
bits-one s at = rw (add-zero at) (omega arith)

pub bits-lt : (s : List ℕ) (at n : ℕ) → bits_at s at n < 2 ^ n
unfolding bits_at
bits-lt s at zero = omega arith
bits-lt s at (suc n) = omega (arith, bits-lt s at n, bit-lt s (at + n), pow-suc 2 n)

pub bits_past : (s : List ℕ) (at n : ℕ) → bit_count s ≤ at → bits_at s at n ≡ 0
unfolding bits_at
bits_past s at zero h = refl
bits_past s at (suc n) h = omega (arith, bits_past s at n h, bit_past s (at + n) (omega arith))

-- m bits, and n more behind them
pub bits-append : (s : List ℕ) (at m n : ℕ) → bits_at s at (m + n) ≡ bits_at s at m * 2 ^ n + bits_at s (at + m) n
unfolding bits_at
bits-append s at m zero = rw (add-zero m, mul-one) (sym (add-zero (bits_at s at m)))
bits-append s at m (suc n) =
    let a = bits_at s at m in
    let b = bits_at s (at + m) n in
    rw (add-suc m n, bits-append s at m n, pow-suc 2 n, ← add_assoc at m n, ← mul_assoc) (omega arith)

pub bits-first : (s : List ℕ) (at n : ℕ) → bits_at s at (suc n) ≡ bit_at s at * 2 ^ n + bits_at s (at + 1) n
bits-first s at n = ap (bits_at s at) (sym (one-add n)) ∙ bits-append s at 1 n ∙ rw (bits-one s at)

-- ---- the same bits as a list
pub bit_list-length : (s : List ℕ) (at n : ℕ) → length (bit_list s at n) ≡ n
unfolding bit_list
bit_list-length s at zero = refl
bit_list-length s at (suc n) = ap suc (bit_list-length s (at + 1) n)

pub bit_list-append : (s : List ℕ) (m at n : ℕ) → bit_list s at (m + n) ≡ bit_list s at m ++ bit_list s (at + m) n
unfolding bit_list
bit_list-append s zero at n = rw (zero-add n, add-zero at)
bit_list-append s (suc m) at n =
    let e : at + suc m ≡ at + 1 + m = omega arith in
    rw (suc-add m n, e) (ap (λ (l : List ℕ). bit_at s at ∷ l) (bit_list-append s m (at + 1) n))

pub bit_list-number : (s : List ℕ) (at n : ℕ) → number (bit_list s at n) ≡ bits_at s at n
unfolding number bit_list
bit_list-number s at zero = sym (bits_none s at)
bit_list-number s at (suc n) = rw (bit_list-length s (at + 1) n, bit_list-number s (at + 1) n) (sym (bits-first s at n))

pub bit_list-to_bits : (s : List ℕ) (at n : ℕ) → bit_list s at n ≡ to_bits n (bits_at s at n)
unfolding bit_list to_bits
bit_list-to_bits s at zero = refl
bit_list-to_bits s at (suc n) =
    let b = bit_at s at in
    let y = bits_at s (at + 1) n in
    let l : y < 2 ^ n = bits-lt s (at + 1) n in
    rw (bits-first s at n)
    (ap₂ (λ (b : ℕ) (l : List ℕ). b ∷ l)
    (sym (ap (λ (x : ℕ). x % 2) (high b n l) ∙ mod-eq_of_lt (bit-lt s at)))
    (bit_list-to_bits s (at + 1) n ∙ to_bits-mod n y (b * 2 ^ n + y) (mod-eq_of_lt l ∙ sym (low b n l))))
