-- The bytes of a stream of bits: the trailing bits behind it, cut into eights, each read as a number; escaped, for a NAL unit.
use Rattle.std.specs.Prelude.{ℕ, zero, suc, ◌+◌, ◌-◌, ◌*◌, ◌/◌, ◌%◌, ◌^◌, ◌≤◌, ◌<◌, Bool, cond, List, [], ◌∷◌, ◌++◌, map, ◌≡◌, refl, length, take, drop}
use Rattle.std.proofs.Common.{mod-eq_of_lt, pow-suc, one-mul, mul-le-mul_right, arith, ap, ◌∙◌, length-append}
use Rattle.std.proofs.lemmas.List.{length-replicate}
use Rattle.codes.specs.Bits.{to_bits, number, number-to_bits, Binary, binary-to_bits}
use Rattle.nal.specs.Escape.{escape}
use Rattle.bit_writer.specs.Writing.{trailing_bits}

-- the number that bits spell; of each only the low bit counts, as in `put_bit`
unfoldable pub spelled : List ℕ → ℕ
spelled bs = number (map (λ b. b % 2) bs)

-- n bytes of eight bits each
unfoldable pub pack : ℕ → List ℕ → List ℕ
pack zero bs = []
pack (suc n) bs = spelled (take 8 bs) ∷ pack n (drop 8 bs)

-- bits with rbsp_trailing_bits() behind them
unfoldable pub aligned : List ℕ → List ℕ
aligned bs = bs ++ trailing_bits (length bs)

-- the bytes of an RBSP whose fields are the bits bs
unfoldable pub packed : List ℕ → List ℕ
packed bs = pack (length (aligned bs) / 8) (aligned bs)

-- what a sink puts for them: the RBSP, or the payload of a NAL unit
unfoldable pub payload : Bool → List ℕ → List ℕ
payload e bs = cond e (escape (packed bs)) (packed bs)

-- ---- spelling
low-length : (bs : List ℕ) → length (map (λ b. b % 2) bs) ≡ length bs
low-length [] = refl
low-length (b ∷ bs) = ap suc (low-length bs)

pub spelled_none : spelled [] ≡ 0
unfolding spelled number
spelled_none = refl

pub spelled-cons : (b : ℕ) (bs : List ℕ) → spelled (b ∷ bs) ≡ b % 2 * 2 ^ length bs + spelled bs
unfolding spelled number
spelled-cons b bs = rw (low-length bs)

pub spelled-binary : (bs : List ℕ) → Binary bs → spelled bs ≡ number bs
unfolding number
spelled-binary [] p = spelled_none
spelled-binary (b ∷ bs) p = spelled-cons b bs ∙ rw (mod-eq_of_lt p.0, spelled-binary bs p.1)

pub spelled-to_bits : (n v : ℕ) → spelled (to_bits n v) ≡ v % 2 ^ n
spelled-to_bits n v = spelled-binary (to_bits n v) (binary-to_bits n v) ∙ number-to_bits n v

pub spelled-lt : (bs : List ℕ) → spelled bs < 2 ^ length bs
spelled-lt [] = omega (arith, spelled_none)
spelled-lt (b ∷ bs) =
    let p = 2 ^ length bs in
    let h : b % 2 * p ≤ 1 * p = mul-le-mul_right p (omega arith) in
    omega (arith, spelled-cons b bs, spelled-lt bs, pow-suc 2 (length bs), h, one-mul p)

-- ---- lengths
pub trailing-length : (n : ℕ) → length (trailing_bits n) ≡ 8 - n % 8
unfolding trailing_bits
trailing-length n = omega (arith, length-replicate {A = ℕ} (7 - n % 8) 0)

pub aligned-length : (bs : List ℕ) → length (aligned bs) ≡ 8 * (length (aligned bs) / 8)
unfolding aligned
aligned-length bs = omega (arith, length-append bs (trailing_bits (length bs)), trailing-length (length bs))

pub pack-length : (n : ℕ) (bs : List ℕ) → length (pack n bs) ≡ n
unfolding pack
pack-length zero bs = refl
pack-length (suc n) bs = ap suc (pack-length n (drop 8 bs))

pub packed-length : (bs : List ℕ) → length (packed bs) ≡ length bs / 8 + 1
unfolding packed aligned
packed-length bs =
    pack-length _ _ ∙ omega (arith, length-append bs (trailing_bits (length bs)), trailing-length (length bs))
