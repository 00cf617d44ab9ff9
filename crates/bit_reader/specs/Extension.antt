-- more_rbsp_data() as the Rust has it, and the bits of pps_extension_data_flag that are taken while it holds. H.266 7.2
-- takes every bit before the last 1; the two differ where the data ends in 0 (docs/DIFFERENCES.md, 11).
use Rattle.std.specs.Prelude.{ℕ, zero, suc, ◌+◌, ◌-◌, ◌≤◌, ◌<◌, ◌≡◌, refl, List, Bool, true, false, not, leb, eqb}
use Rattle.std.proofs.Common.{ap, ◌∙◌, add-zero, zero-add, add-suc, suc-add, add-one, arith, le-leb, leb-true, leb-false, eq-eqb, ne_eqb}
use Rattle.std.proofs.lemmas.Bool.{lt-leb}
use Rattle.codes.specs.Bytes.{bit_at, bit_count}

-- how many of the n bits from a position on are 1
unfoldable pub ones : List ℕ → ℕ → ℕ → ℕ
ones s at zero = 0
ones s at (suc n) = bit_at s at + ones s (at + 1) n

-- at least two 1 bits are left, of which the last is the stop bit
unfoldable pub more_rbsp_data : List ℕ → ℕ → Bool
more_rbsp_data s at = leb 2 (ones s at (bit_count s - at))

-- how many bits are taken, one by one, of the n bits left, while two 1 bits are left
unfoldable pub taken_while_more : List ℕ → ℕ → ℕ → ℕ
taken_while_more s at zero = 0
taken_while_more s at (suc n) = elim (leb 2 (ones s at (suc n))) [ true ↦ suc (taken_while_more s (at + 1) n) | false ↦ 0 ]

unfoldable pub extension_bits : List ℕ → ℕ → ℕ
extension_bits s at = taken_while_more s at (bit_count s - at)

-- ---- laws
-- one bit more in front, where a scan goes back
pub ones-back : (s : List ℕ) (p e : ℕ) → 0 < p → p ≤ e → ones s (p - 1) (e - (p - 1)) ≡ bit_at s (p - 1) + ones s p (e - p)
unfolding ones
ones-back s p e h l =
    let a : e - (p - 1) ≡ suc (e - p) = omega arith in
    let b : p - 1 + 1 ≡ p = omega arith in
    rw (a, b)

pub ones_none : (s : List ℕ) (at n : ℕ) → n ≡ 0 → ones s at n ≡ 0
unfolding ones
ones_none s at n h = rw h

-- fewer from further on
ones-fewer : (s : List ℕ) (d at n : ℕ) → ones s (at + d) n ≤ ones s at (d + n)
unfolding ones
ones-fewer s zero at n = rw (add-zero at, zero-add n) (omega arith)
ones-fewer s (suc d) at n =
    rw (suc-add d n, add-suc at d, ← suc-add at d, ← add-one at) (omega (arith, ones-fewer s d (at + 1) n))

taken_none : (s : List ℕ) (at n : ℕ) → ones s at n < 2 → taken_while_more s at n ≡ 0
unfolding taken_while_more
taken_none s at zero h = refl
taken_none s at (suc n) h = rw (lt-leb 2 (ones s at (suc n)) h, taken_while_more)

taken-one : (s : List ℕ) (at n : ℕ) → 2 ≤ ones s at (suc n) → taken_while_more s at (suc n) ≡ suc (taken_while_more s (at + 1) n)
unfolding taken_while_more
taken-one s at n h = rw (le-leb 2 (ones s at (suc n)) h, taken_while_more)

taken-run : (s : List ℕ) (d at n : ℕ) → 2 ≤ ones s (at + d) (suc n) → ones s (at + d + 1) n < 2 → taken_while_more s at (d + suc n) ≡ suc d
taken-run s zero at n h l =
    ap (taken_while_more s at) (zero-add (suc n)) ∙ taken-one s at n (rw (add-zero at) at h)
    ∙ ap suc (taken_none s (at + 1) n (rw (add-zero at) at l))
taken-run s (suc d) at n h l =
    let i : at + suc d ≡ at + 1 + d = omega arith in
    let more : 2 ≤ ones s at (suc (d + suc n)) = rw (← suc-add d (suc n)) (omega (arith, ones-fewer s (suc d) at (suc n))) in
    ap (taken_while_more s at) (suc-add d (suc n)) ∙ taken-one s at (d + suc n) more
    ∙ ap suc (taken-run s d (at + 1) n (rw i at h) (rw i at l))

taken_le : (s : List ℕ) (at n : ℕ) → taken_while_more s at n ≤ n
unfolding taken_while_more
taken_le s at zero = omega arith
taken_le s at (suc n) = split (leb 2 (ones s at (suc n))) (taken_le s (at + 1) n)
  where
    split : (t : Bool) → taken_while_more s (at + 1) n ≤ n → elim t [ true ↦ suc (taken_while_more s (at + 1) n) | false ↦ 0 ] ≤ suc n
    split true h = omega arith
    split false h = omega arith

-- no further than the end
pub extension_le : (s : List ℕ) (at : ℕ) → extension_bits s at ≤ bit_count s - at
unfolding extension_bits
extension_le s at = taken_le s at (bit_count s - at)

-- fewer than two 1 bits: none is taken
pub extension-none : (s : List ℕ) (at : ℕ) → ones s at (bit_count s - at) < 2 → extension_bits s at ≡ 0
unfolding extension_bits
extension-none s at h = taken_none s at (bit_count s - at) h

taken-ends : (s : List ℕ) (at p e : ℕ) → at < p → p ≤ e → 2 ≤ ones s (p - 1) (e - (p - 1)) → ones s p (e - p) < 2 → taken_while_more s at (e - at) ≡ p - at
taken-ends s at p e a b h l =
    let i : at + (p - 1 - at) ≡ p - 1 = omega arith in
    let j : at + (p - 1 - at) + 1 ≡ p = omega arith in
    let k : e - at ≡ (p - 1 - at) + suc (e - p) = omega arith in
    let n : suc (e - p) ≡ e - (p - 1) = omega arith in
    let m : suc (p - 1 - at) ≡ p - at = omega arith in
    ap (taken_while_more s at) k ∙ taken-run s (p - 1 - at) at (e - p) (rw (i, n) h) (rw j l) ∙ m

-- two 1 bits from p − 1 on, and fewer from p on: the bits up to p are taken
pub extension-ends : (s : List ℕ) (at p : ℕ) → at < p → p ≤ bit_count s → 2 ≤ ones s (p - 1) (bit_count s - (p - 1)) → ones s p (bit_count s - p) < 2
    → extension_bits s at ≡ p - at
unfolding extension_bits
extension-ends s at p a b h l = taken-ends s at p (bit_count s) a b h l

-- a bit is taken just where there is more data
taken-some : (s : List ℕ) (at n : ℕ) → 2 ≤ ones s at n → 1 ≤ taken_while_more s at n
taken-some s at zero h = absurd (omega (arith, ones_none s at 0 refl))
taken-some s at (suc n) h = omega (arith, taken-one s at n h)

pub extension-more : (s : List ℕ) (at : ℕ) → not (eqb (extension_bits s at) 0) ≡ more_rbsp_data s at
unfolding extension_bits more_rbsp_data
extension-more s at = split (leb 2 (ones s at (bit_count s - at))) refl
  where
    n : ℕ
    n = taken_while_more s at (bit_count s - at)

    split : (t : Bool) → leb 2 (ones s at (bit_count s - at)) ≡ t → not (eqb (taken_while_more s at (bit_count s - at)) 0) ≡ t
    split false e = ap not (eq-eqb n 0 (taken_none s at (bit_count s - at) (leb-false 2 _ e)))
    split true e = ap not (ne_eqb n 0 (λ z. absurd (omega (arith, z, taken-some s at (bit_count s - at) (leb-true 2 _ e)))))
