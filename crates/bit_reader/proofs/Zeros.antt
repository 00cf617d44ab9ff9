-- A byte of zeros has no 1 bit, so that a scan from the end passes over it.
use Rattle.std.specs.Prelude.{ℕ, zero, suc, ◌+◌, ◌-◌, ◌*◌, ◌/◌, ◌%◌, ◌^◌, ◌≤◌, ◌<◌, max, List, ◌≡◌, refl, Bool, true, false, cond, ltb, get_or}
use Rattle.std.proofs.Common.{arith}
use Rattle.std.proofs.Math.Nat.{zero-div}
use Rattle.codes.specs.Bytes.{bit_at, bit_count, bit-lt}
use Rattle.bit_reader.specs.Extension.{ones, ones_none, ones-back, extension-none, extension-ends, extension-more}

module _ (s : List ℕ) where
  zero_bit : (p : ℕ) → get_or s (p / 8) 0 ≡ 0 → bit_at s p ≡ 0
  unfolding bit_at
  zero_bit p h = rw (h, zero-div (2 ^ (7 - p % 8))) (split (ltb p (bit_count s)))
    where
      split : (t : Bool) → cond t (0 % 2) 0 ≡ 0
      split true = refl
      split false = refl

  -- the last k bits of byte i, and those from behind it to e
  zero_bits : (i k e : ℕ) → get_or s i 0 ≡ 0 → k ≤ 8 → i * 8 + 8 ≤ e → ones s (i * 8 + 8 - k) (e - (i * 8 + 8 - k)) ≡ ones s (i * 8 + 8) (e - (i * 8 + 8))
  zero_bits i zero e z h l = let q : i * 8 + 8 - 0 ≡ i * 8 + 8 = omega arith in rw q refl
  zero_bits i (suc k) e z h l =
      let p = i * 8 + 8 - k in
      let q : i * 8 + 8 - suc k ≡ p - 1 = omega arith in
      let b : (p - 1) / 8 ≡ i = omega arith in
      rw q (omega (arith, ones-back s p e (omega arith) (omega arith), zero_bit (p - 1) (rw b z), zero_bits i k e z (omega arith) l))

  -- those from at on
  pub over_zeros : (i at e : ℕ) → 0 < i → get_or s (i - 1) 0 ≡ 0 → at / 8 < i → i * 8 ≤ e
      → ones s (max at ((i - 1) * 8)) (e - max at ((i - 1) * 8)) ≡ ones s (max at (i * 8)) (e - max at (i * 8))
  over_zeros i at e h z l m =
      let p : max at ((i - 1) * 8) ≡ (i - 1) * 8 + 8 - ((i - 1) * 8 + 8 - max at ((i - 1) * 8)) = omega arith in
      let q : max at (i * 8) ≡ (i - 1) * 8 + 8 = omega arith in
      rw (p, q) (zero_bits (i - 1) ((i - 1) * 8 + 8 - max at ((i - 1) * 8)) e z (omega arith) (omega arith))

pub ruleset scan = (bit-lt, ones_none, ones-back, over_zeros, extension-none, extension-ends)

pub ruleset more = (extension-more)
