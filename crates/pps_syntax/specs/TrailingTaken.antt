-- rbsp_trailing_bits() that reading accepted (H.266 7.3.2), and the extension bits before it.
use Rattle.std.specs.Prelude.{ℕ, zero, suc, ◌+◌, ◌-◌, ◌*◌, ◌/◌, ◌%◌, ◌≤◌, ◌<◌, ◌≡◌, refl, List, ◌∷◌, Bool, true, false, ltb, leb, eqb, length, replicate}
use Rattle.std.proofs.Common.{ap, ap₂, ◌∙◌, arith, eqb-true, ltb-true, leb-true, leb-false}
use Rattle.std.proofs.lemmas.List.{length-replicate}
use Rattle.std.proofs.lemmas.Bool.{eqb-false}
use Rattle.codes.specs.Bits.{to_bits, to_bits-zero}
use Rattle.codes.specs.Bytes.{bit_count, bit_at, bits_at, bit_list, bit_list-length, bit_list-to_bits, bit-lt}
use Rattle.codes.specs.Holds.{Holds}
use Rattle.bit_reader.specs.declared.Cursor.{Cursor}
use Rattle.bit_reader.specs.Extension.{ones, taken_while_more, extension_bits}
use Rattle.bit_reader.specs.Reading.{cursor_at, trailing_read}
use Rattle.bit_reader.specs.Took.{Going}

-- a 1, then zeros up to the next byte
pub record Trailing (s : List ℕ) (c d : Cursor) : Type 0 where
  pub going : Going s c
  pub ends : d ≡ cursor_at (c.at / 8 * 8 + 8)
  pub bits : Holds s c.at (1 ∷ replicate (7 - c.at % 8) 0) (c.at / 8 * 8 + 8)

zeros : (s : List ℕ) (at n : ℕ) → bits_at s at n ≡ 0 → bit_list s at n ≡ replicate n 0
zeros s at n e = bit_list-to_bits s at n ∙ ap (to_bits n) e ∙ to_bits-zero n

trailing-bits : (s : List ℕ) (at : ℕ) → at < bit_count s → bit_at s at ≡ 1 → bits_at s (at + 1) (7 - at % 8) ≡ 0 → Holds s at (1 ∷ replicate (7 - at % 8) 0) (at / 8 * 8 + 8)
unfolding bit_list
trailing-bits s at l e z =
    let n : length (replicate {A = ℕ} (7 - at % 8) 0) ≡ 7 - at % 8 = length-replicate (7 - at % 8) 0 in
    record {
      reaches = omega arith;
      inside = omega arith;
      same = rw n (ap₂ (λ (b : ℕ) (bs : List ℕ). b ∷ bs) e (zeros s (at + 1) (7 - at % 8) z));
    }

pub trailing-accepted : (s : List ℕ) (c : Cursor) → (trailing_read s c).refused ≡ 0 → Trailing s c (trailing_read s c)
unfolding trailing_read
trailing-accepted s c h = split (eqb c.refused 0) (ltb c.at (bit_count s)) (eqb (bit_at s c.at) 1) (eqb (bits_at s (c.at + 1) (7 - c.at % 8)) 0) refl refl refl refl
  where
    split : (o i b z : Bool) → eqb c.refused 0 ≡ o → ltb c.at (bit_count s) ≡ i → eqb (bit_at s c.at) 1 ≡ b → eqb (bits_at s (c.at + 1) (7 - c.at % 8)) 0 ≡ z
        → Trailing s c (trailing_read s c)
    split false i b z o' i' b' z' = absurd (eqb-false c.refused 0 o' (rw o' at h))
    split true false b z o' i' b' z' = absurd (let q : ◌≡◌ {A = ℕ} 22 0 = rw (o', i') at h in omega arith)
    split true true false z o' i' b' z' = absurd (let q : ◌≡◌ {A = ℕ} 23 0 = rw (o', i', b') at h in omega arith)
    split true true true false o' i' b' z' = absurd (let q : ◌≡◌ {A = ℕ} 23 0 = rw (o', i', b', z') at h in omega arith)
    split true true true true o' i' b' z' =
        record {
          going = record { unrefused = eqb-true c.refused 0 o'; inside = ltb-true c.at (bit_count s) i' };
          ends = rw (o', i', b', z');
          bits = trailing-bits s c.at (ltb-true c.at (bit_count s) i') (eqb-true (bit_at s c.at) 1 b') (eqb-true (bits_at s (c.at + 1) (7 - c.at % 8)) 0 z');
        }

-- a bit is taken just where two 1 bits are left
taken_more : (s : List ℕ) (at n : ℕ) → leb 2 (ones s at (suc n)) ≡ true → taken_while_more s at (suc n) ≡ suc (taken_while_more s (at + 1) n)
unfolding taken_while_more
taken_more s at n e = rw (e, taken_while_more)

taken_none : (s : List ℕ) (at n : ℕ) → leb 2 (ones s at (suc n)) ≡ false → taken_while_more s at (suc n) ≡ 0
unfolding taken_while_more
taken_none s at n e = rw (e, taken_while_more)

none_left : (s : List ℕ) (at n : ℕ) → taken_while_more s at n ≡ 0 → ones s at n < 2
unfolding ones
none_left s at zero h = omega arith
none_left s at (suc n) h = split (leb 2 (ones s at (suc n))) refl
  where
    split : (t : Bool) → leb 2 (ones s at (suc n)) ≡ t → ones s at (suc n) < 2
    split true e = absurd (omega (arith, taken_more s at n e))
    split false e = leb-false 2 (ones s at (suc n)) e

-- the last bit that is taken is a 1: two 1 bits are left at it, and fewer behind it
taken-last : (s : List ℕ) (n at : ℕ) → 0 < taken_while_more s at n → bit_at s (at + taken_while_more s at n - 1) ≡ 1
unfolding ones taken_while_more
taken-last s zero at h = absurd (omega arith)
taken-last s (suc n) at h = split (leb 2 (ones s at (suc n))) refl (eqb (taken_while_more s (at + 1) n) 0) refl (taken-last s n (at + 1))
  where
    split : (t : Bool) → leb 2 (ones s at (suc n)) ≡ t → (z : Bool) → eqb (taken_while_more s (at + 1) n) 0 ≡ z
        → (0 < taken_while_more s (at + 1) n → bit_at s (at + 1 + taken_while_more s (at + 1) n - 1) ≡ 1) → bit_at s (at + taken_while_more s at (suc n) - 1) ≡ 1
    split false e z q ih = absurd (omega (arith, taken_none s at n e))
    split true e true q ih =
        let here : at + taken_while_more s at (suc n) - 1 ≡ at = omega (arith, taken_more s at n e, eqb-true (taken_while_more s (at + 1) n) 0 q) in
        rw here (omega (arith, bit-lt s at, leb-true 2 (ones s at (suc n)) e, none_left s (at + 1) n (eqb-true (taken_while_more s (at + 1) n) 0 q)))
    split true e false q ih =
        let there : at + taken_while_more s at (suc n) - 1 ≡ at + 1 + taken_while_more s (at + 1) n - 1 = omega (arith, taken_more s at n e) in
        rw there (ih (omega (arith, eqb-false (taken_while_more s (at + 1) n) 0 q)))

pub extension-last : (s : List ℕ) (at : ℕ) → 0 < extension_bits s at → bit_at s (at + extension_bits s at - 1) ≡ 1
unfolding extension_bits
extension-last s at h = taken-last s (bit_count s - at) at h

-- bits that are there are held
pub holds-there : (s : List ℕ) (at n : ℕ) → at + n ≤ bit_count s → Holds s at (bit_list s at n) (at + n)
holds-there s at n h =
    let l : length (bit_list s at n) ≡ n = bit_list-length s at n in
    record { reaches = ap (λ (k : ℕ). at + k) l; inside = h; same = ap (bit_list s at) l }
