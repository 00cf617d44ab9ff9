-- The round trip: writing the record of an accepted unit gives exactly the bytes that reading took.
use Rattle.std.specs.Prelude.{ℕ, zero, suc, ◌+◌, ◌*◌, ◌/◌, ◌^◌, ◌≤◌, ◌<◌, ◌≡◌, refl, List, ◌++◌, length, get_or, take, drop}
use Rattle.std.proofs.Common.{sym, ap, ◌∙◌, arith, take_at, drop_at, drop-cons}
use Rattle.codes.specs.Bits.{Binary}
use Rattle.codes.specs.Bytes.{bit-lt, bit_list, bit_list-length, bit_list-append, bit_list-number}
use Rattle.codes.specs.Holds.{Holds}
use Rattle.codes.specs.Windows.{byte-bits}
use Rattle.bit_writer.specs.Packed.{spelled, spelled-binary, pack, aligned, packed}
use Rattle.pps_syntax.specs.Rbsp.{ReadSet}
use Rattle.pps_syntax.specs.Written.{set_refusal, set_rbsp}

-- every element of a byte string is below 256
abbrev pub Bytes : List ℕ → Type 0
Bytes s = (i : ℕ) → get_or s i 0 < 256

-- ---- the bits of bytes, packed, are the bytes
binary-bits : (s : List ℕ) (n at : ℕ) → Binary (bit_list s at n)
unfolding bit_list
binary-bits s zero at = tt
binary-bits s (suc n) at = (bit-lt s at, binary-bits s n (at + 1))

pub pack-bits : (s : List ℕ) → Bytes s → (n i : ℕ) → i + n ≤ length s → i + n ≤ 2 ^ 60 → pack n (bit_list s (i * 8) (n * 8)) ≡ take n (drop i s)
unfolding pack
pack-bits s b zero i h l = refl
pack-bits s b (suc n) i h l =
    let e : suc n * 8 ≡ 8 + n * 8 = omega arith in
    let one = bit_list s (i * 8) 8 in
    let rest = bit_list s (i * 8 + 8) (n * 8) in
    let p : i * 8 + 8 ≡ suc i * 8 = omega arith in
    let split : bit_list s (i * 8) (suc n * 8) ≡ one ++ rest = ap (bit_list s (i * 8)) e ∙ bit_list-append s 8 (i * 8) (n * 8) in
    let k : length one ≡ 8 = bit_list-length s (i * 8) 8 in
    let byte : spelled one ≡ get_or s i 0 = spelled-binary one (binary-bits s 8 (i * 8)) ∙ bit_list-number s (i * 8) 8 ∙ byte-bits s i (omega arith) (omega arith) (b i) in
    let more : pack n rest ≡ take n (drop (suc i) s) = ap (λ (x : ℕ). pack n (bit_list s x (n * 8))) p ∙ pack-bits s b n (suc i) (omega arith) (omega arith) in
    rw (split, take_at one rest 8 k, drop_at one rest 8 k, byte, more, drop-cons s i 0 (omega arith))

-- ---- bytes that hold bits and their trailing bits are those bits, packed
pub packed-back : (s bs : List ℕ) (n : ℕ) → Bytes s → Holds s 0 (aligned bs) (n * 8) → packed bs ≡ take n s
unfolding packed
packed-back s bs n b h =
    let l : length (aligned bs) ≡ n * 8 = omega (arith, h.reaches) in
    let q : length (aligned bs) / 8 ≡ n = omega arith in
    let same : aligned bs ≡ bit_list s 0 (n * 8) = sym h.same ∙ ap (bit_list s 0) l in
    rw q (ap (pack n) same ∙ pack-bits s b n 0 (omega (arith, h.inside)) (omega (arith, h.inside)))

-- ---- the round trip
-- the extension bits as the record names them
abbrev pub extension_read : List ℕ → ReadSet → List ℕ
extension_read rbsp a = bit_list rbsp a.extension_first_bit a.extension_count

pub record WrittenBack (rbsp : List ℕ) (a : ReadSet) : Type 0 where
  -- writing it is refused nowhere
  pub accepted : set_refusal a.set (extension_read rbsp a) ≡ 0
  -- and gives exactly the bytes that reading took
  pub bytes : set_rbsp a.set (extension_read rbsp a) ≡ take a.bytes_taken rbsp
