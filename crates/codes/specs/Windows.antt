-- A number of several bits, and the bits inside it: bytes, fields of a byte, windows.
use Rattle.std.specs.Prelude.{ℕ, zero, suc, ◌+◌, ◌-◌, ◌*◌, ◌/◌, ◌%◌, ◌^◌, ◌≤◌, ◌<◌, ◌≡◌, List, length, get_or}
use Rattle.std.proofs.Common.{sym, ap, ap₂, ◌∙◌, div-one, add-one, arith, shr-shr}
use Rattle.std.proofs.Math.Nat.{div-eq_of_lt}
use Rattle.std.proofs.Math.Pow.{high, low}
use Rattle.codes.specs.Bytes.{bit_at, bits_at, bit_in, bits_none, bits-step, bits-lt, bits-append}

-- the high bits of a window
pub bits-high : (s : List ℕ) (at n t : ℕ) → bits_at s at (n + t) / 2 ^ t ≡ bits_at s at n
bits-high s at n t = ap (λ (x : ℕ). x / 2 ^ t) (bits-append s at n t) ∙ high (bits_at s at n) t (bits-lt s (at + n) t)

-- the bits between r in front and t behind
pub bits-between : (s : List ℕ) (at r n t : ℕ) → bits_at s at (r + n + t) / 2 ^ t % 2 ^ n ≡ bits_at s (at + r) n
bits-between s at r n t =
    ap (λ (x : ℕ). x % 2 ^ n) (bits-high s at (r + n) t ∙ bits-append s at r n) ∙ low (bits_at s at r) n (bits-lt s (at + r) n)

-- ---- a byte is its eight bits
bit-of : (s : List ℕ) (i j : ℕ) → j < 8 → i < length s → i < 2 ^ 60 → bit_at s (i * 8 + j) ≡ get_or s i 0 / 2 ^ (7 - j) % 2
bit-of s i j h l m =
    let q : (i * 8 + j) / 8 ≡ i = omega arith in
    let r : (i * 8 + j) % 8 ≡ j = omega arith in
    bit_in s (i * 8 + j) (omega arith) ∙ rw (q, r)

halves : (n : ℕ) → n / 2 * 2 + n % 2 ≡ n
halves n = omega arith

-- its first j bits are what is left of it after 8 − j halvings
first-bits : (s : List ℕ) (i j : ℕ) → j ≤ 8 → i < length s → i < 2 ^ 60 → get_or s i 0 < 256 → bits_at s (i * 8) j ≡ get_or s i 0 / 2 ^ (8 - j)
first-bits s i zero h l m b = bits_none s (i * 8) ∙ sym (div-eq_of_lt b)
first-bits s i (suc j) h l m b =
    let v = get_or s i 0 in
    let k = 7 - j in
    let e : 8 - j ≡ k + 1 = omega arith in
    let d : 8 - suc j ≡ k = omega arith in
    let up : v / 2 ^ (k + 1) ≡ v / 2 ^ k / 2 = sym (shr-shr v k 1) in
    ap (bits_at s (i * 8)) (sym (add-one j)) ∙ bits-step s (i * 8) j
    ∙ ap₂ (λ (x y : ℕ). x * 2 + y) (first-bits s i j (omega arith) l m b ∙ ap (λ (x : ℕ). v / 2 ^ x) e ∙ up) (bit-of s i j (omega arith) l m)
    ∙ halves (v / 2 ^ k) ∙ ap (λ (x : ℕ). v / 2 ^ x) (sym d)

pub byte-bits : (s : List ℕ) (i : ℕ) → i < length s → i < 2 ^ 60 → get_or s i 0 < 256 → bits_at s (i * 8) 8 ≡ get_or s i 0
byte-bits s i l m b = first-bits s i 8 (omega arith) l m b ∙ div-one (get_or s i 0)

-- a field of n bits in byte i, behind r bits and before t more
pub byte-field : (s : List ℕ) (i r n t : ℕ) → r + n + t ≡ 8 → i < length s → i < 2 ^ 60 → get_or s i 0 < 256 → bits_at s (i * 8 + r) n ≡ get_or s i 0 / 2 ^ t % 2 ^ n
byte-field s i r n t e l m b =
    sym (bits-between s (i * 8) r n t) ∙ ap (λ (x : ℕ). x / 2 ^ t % 2 ^ n) (ap (bits_at s (i * 8)) e ∙ byte-bits s i l m b)
