-- The bytes that reading took, read by themselves, are read as the same set.
use Prim.Native.Nat.{ℕ, zero, suc, ◌+◌, ◌-◌, ◌*◌, ◌/◌, ◌%◌, ◌^◌, ◌≤◌, ◌<◌}
use Rattle.std.specs.Prelude.{◌≡◌, refl, true, ◌&&◌, drop, replicate}
use Rattle.std.proofs.Math.Path.{sym, ap}
use Rattle.std.proofs.Common.{◌∙◌, add-zero, take-append-drop, length-take-le}
use mathlib.Core.List.{List, ◌∷◌}
use Rattle.std.proofs.Math.Bool.{Bool, false, cond}
use native.Mathlib.Omega.{arith}
use Rattle.std.proofs.Math.ListN.{length, get_or, take}
use Rattle.std.proofs.lemmas.List.{length-replicate}
use Rattle.codes.specs.Bits.{number}
use Rattle.codes.specs.Bytes.{bit_count, bit_at, bits_at, bit_list, bit_list-number}
use Rattle.codes.specs.Holds.{Holds}
use Rattle.bit_reader.specs.Extension.{ones, extension_bits, ones-back, extension-none, extension-ends}
use Rattle.bit_reader.specs.Laws.{trailing-made}
use Rattle.bit_reader.specs.Reading.{cursor_at, trailing_read}
use Rattle.pps_round.specs.LentBack.{bit-front, bits-front}
use Rattle.pps_syntax.specs.Pps.{Pps, pps, pps-whole}
use Rattle.pps_syntax.specs.Rbsp.{ReadSet, accepted, extension_for, answered, read_rbsp}
use Rattle.pps_syntax.specs.ReadWhole.{fields_read}
use Rattle.pps_syntax.proofs.ReadWhole.{read_whole}
use Rattle.syntax.specs.Element.{Parsed, parsed}
use Rattle.syntax.specs.Elements.{is_set}
use Rattle.syntax.proofs.Round.{written_then_read}
use Rattle.syntax.specs.Syntax.{parse}

-- ---- zeros
zeros-number : (m : ℕ) → number (replicate m 0) ≡ 0
unfolding number
zeros-number zero = refl
zeros-number (suc m) = omega (arith, zeros-number m)

no_ones : (s : List ℕ) (m at : ℕ) → bit_list s at m ≡ replicate m 0 → ones s at m ≡ 0
unfolding ones bit_list
no_ones s zero at e = refl
no_ones s (suc m) at e =
    let h : bit_at s at ≡ 0 = ap (λ (l : List ℕ). get_or l 0 0) e in
    omega (arith, no_ones s m (at + 1) (ap (drop 1) e))

-- ---- the front of a byte string
module _ (s : List ℕ) (t : ℕ) (l : t ≤ length s) (k : t ≤ 2 ^ 60) where
  front-count : bit_count (take t s) ≡ t * 8
  front-count = omega (arith, length-take-le t s l)

  front-bit : (i : ℕ) → i < t * 8 → bit_at s i ≡ bit_at (take t s) i
  front-bit i h = ap (λ (x : List ℕ). bit_at x i) (sym (take-append-drop t s)) ∙ bit-front (take t s) (drop t s) i (omega (arith, front-count))

  front-bits : (n at : ℕ) → at + n ≤ t * 8 → bit_list s at n ≡ bit_list (take t s) at n
  front-bits n at h = ap (λ (x : List ℕ). bit_list x at n) (sym (take-append-drop t s)) ∙ bits-front (take t s) (drop t s) n at (omega (arith, front-count))

  front-holds : {from to : ℕ} {bs : List ℕ} → to ≤ t * 8 → Holds s from bs to → Holds (take t s) from bs to
  front-holds {from} {to} {bs} h p =
      record { reaches = p.reaches; inside = omega (arith, front-count); same = sym (front-bits (length bs) from (omega (arith, p.reaches))) ∙ p.same }

-- ---- behind the extension bits
module _ (s : List ℕ) (at t : ℕ) (h : Holds s at (1 ∷ replicate (7 - at % 8) 0) (t * 8)) (whole : bit_count s ≡ t * 8) where
  stop_size : at + suc (7 - at % 8) ≡ t * 8
  stop_size = omega (arith, h.reaches, length-replicate {A = ℕ} (7 - at % 8) 0)

  stop_bits : bit_list s at (suc (7 - at % 8)) ≡ 1 ∷ replicate (7 - at % 8) 0
  stop_bits = ap (λ (n : ℕ). bit_list s at (suc n)) (sym (length-replicate {A = ℕ} (7 - at % 8) 0)) ∙ h.same

  stop_one : bit_at s at ≡ 1
  unfolding bit_list
  stop_one = ap (λ (l : List ℕ). get_or l 0 0) stop_bits

  stop_zeros : bit_list s (at + 1) (7 - at % 8) ≡ replicate (7 - at % 8) 0
  unfolding bit_list
  stop_zeros = ap (drop 1) stop_bits

  stop_ones : ones s at (bit_count s - at) ≡ 1
  unfolding ones
  stop_ones =
      let n : bit_count s - at ≡ suc (7 - at % 8) = omega (arith, stop_size) in
      ap (ones s at) n ∙ omega (arith, stop_one, no_ones s (7 - at % 8) (at + 1) stop_zeros)

  stop_read : trailing_read s (record { at = at; refused = 0 }) ≡ cursor_at (t * 8)
  stop_read =
      let z : bits_at s (at + 1) (7 - at % 8) ≡ 0 = sym (bit_list-number s (at + 1) (7 - at % 8)) ∙ ap number stop_zeros ∙ zeros-number (7 - at % 8) in
      let e : at / 8 * 8 + 8 ≡ t * 8 = omega (arith, stop_size) in
      sym (trailing-made s (record { at = at; refused = 0 }) refl (omega (arith, stop_size)) stop_one z) ∙ ap cursor_at e

extension_again : (s : List ℕ) (at n t : ℕ) → Holds s (at + n) (1 ∷ replicate (7 - (at + n) % 8) 0) (t * 8) → bit_count s ≡ t * 8 → (0 < n → bit_at s (at + n - 1) ≡ 1) → extension_bits s at ≡ n
extension_again s at zero t h w last = extension-none s at (let o = stop_ones s (at + 0) t h w in let z = add-zero at in rw z at (omega_le (ones s (at + 0) (bit_count s - (at + 0))) o))
  where
    omega_le : (k : ℕ) → k ≡ 1 → k < 2
    omega_le k e = omega arith
extension_again s at (suc n) t h w last =
    let p = at + suc n in
    let o = stop_ones s p t h w in
    let e : p - at ≡ suc n = omega arith in
    extension-ends s at p (omega arith) (omega (arith, h.reaches, h.inside)) (omega (arith, ones-back s p (bit_count s) (omega arith) (omega (arith, h.reaches, h.inside)), last (omega arith), o)) (omega (arith, o)) ∙ e

-- ---- the set
flag-of : (flag : Bool) (n x : ℕ) → (flag ≡ true → x ≡ n) → (flag ≡ false → n ≡ 0) → cond (flag && true) x 0 ≡ n
flag-of true n x f g = f refl
flag-of false n x f g = sym (g refl)

module _ (rbsp : List ℕ) (a : ReadSet) (e : read_rbsp rbsp ≡ accepted a) where
  pub taken_again : read_rbsp (take a.bytes_taken rbsp) ≡ accepted a
  unfolding read_rbsp extension_for answered
  taken_again =
      let w = read_whole rbsp a e in
      let t = a.bytes_taken in
      let at = (fields_read rbsp).next.at in
      let n = a.extension_count in
      let s = take t rbsp in
      let l : t ≤ length rbsp = omega (arith, w.trailing.inside) in
      let k : t ≤ 2 ^ 60 = omega (arith, w.trailing.inside) in
      let whole = front-count rbsp t l k in
      let stop = front-holds rbsp t l k (omega arith) w.trailing in
      let fields : parse pps s (cursor_at 0) ≡ parsed a.set (cursor_at at) =
      written_then_read pps pps-whole s 0 at a.set w.fields.accepted w.fields.given (front-holds rbsp t l k (omega (arith, w.trailing.reaches)) w.fields.took.bits) in
      let flag : Bool = is_set a.set.back.picture_header.pps_extension_flag in
      let bits : extension_bits s at ≡ n =
      extension_again s at n t stop whole (λ h. sym (front-bit rbsp t l k (at + n - 1) (omega (arith, w.trailing.reaches))) ∙ w.extension-last h) in
      let none : flag ≡ false → n ≡ 0 = λ q. w.extension-count ∙ without rbsp (fields_read rbsp) (ap (λ (r : Pps). is_set r.back.picture_header.pps_extension_flag) (sym w.set_is) ∙ q) in
      let count : cond (flag && true) (extension_bits s at) 0 ≡ n = flag-of flag n (extension_bits s at) (λ q. bits) none in
      let behind = stop_read s (at + n) t stop whole in
      let taken : t * 8 / 8 ≡ t = omega arith in
      rw (fields, count, behind, taken, ← w.extension-first)
    where
      without : (s : List ℕ) (p : Parsed Pps) → is_set p.value.back.picture_header.pps_extension_flag ≡ false → extension_for s p ≡ 0
      without s p q = rw q
