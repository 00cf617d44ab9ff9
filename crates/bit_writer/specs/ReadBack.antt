-- What is written is read: packed bytes hold their bits, so the reader takes each code back as the value that was written, and stands where
-- the code ends, whatever was written before and after it.
use Prim.Native.Nat.{ℕ, zero, suc, ◌+◌, ◌-◌, ◌*◌, ◌/◌, ◌%◌, ◌^◌, ◌≤◌, ◌<◌}
use Rattle.std.proofs.Common.{add-zero, zero-add, zero-mul, mod-eq_of_lt, ap, ap₂, ◌∙◌, drop-cons}
use Rattle.std.proofs.Math.Nat.{zero-mod}
use native.Mathlib.Omega.{arith}
use mathlib.Core.List.{List, [], ◌∷◌, ◌++◌, append_assoc}
use Rattle.std.specs.Prelude.{◌≡◌, refl, ℤ, length, replicate}
use Rattle.std.proofs.Math.Path.{sym, subst}
use Rattle.std.proofs.Math.ListN.{take, drop, get_or, length-take, length-drop, take-append-drop}
use Rattle.std.proofs.Math.Pow.{high, low}
use Rattle.codes.specs.Bits.{to_bits, to_bits-length, to_bits-mod, to_bits-zero, number, Binary, binary-append, binary-to_bits, binary-zeros}
use Rattle.codes.specs.Bytes.{bit_at, bits_at, bits-one}
use Rattle.codes.specs.Windows.{byte-bits}
use Rattle.codes.specs.Holds.{Holds, holds-none, holds-append, holds-left, holds-right, holds-bits, holds-number}
use Rattle.codes.specs.ExpGolomb.{ue_code, ue-binary, code_num, se_code}
use Rattle.bit_reader.specs.Reading.{cursor_at, u_read, ue_within, ue_read, se_read, trailing_read}
use Rattle.bit_reader.specs.ReadBack.{u-reads-back, ue-reads-back-within, ue-reads-back, se-reads-back}
use Rattle.bit_reader.specs.Laws.{trailing-made}
use Rattle.bit_writer.specs.Writing.{trailing_bits}
use Rattle.bit_writer.specs.Packed.{spelled, spelled-binary, spelled-lt, pack, pack-length, aligned, aligned-length, packed, packed-length}

-- ---- bits and the number that they spell
to_bits-number : (bs : List ℕ) → Binary bs → to_bits (length bs) (number bs) ≡ bs
unfolding to_bits number
to_bits-number [] p = refl
to_bits-number (b ∷ bs) p =
    let n = length bs in
    let y = number bs in
    let l : y < 2 ^ n = rw (spelled-binary bs p.1) at (spelled-lt bs) in
    ap₂ (λ (x : ℕ) (xs : List ℕ). x ∷ xs)
    (ap (λ (x : ℕ). x % 2) (high b n l) ∙ mod-eq_of_lt p.0)
    (to_bits-mod n (b * 2 ^ n + y) y (low b n l ∙ sym (mod-eq_of_lt l)) ∙ to_bits-number bs p.1)

binary_parts : (xs ys : List ℕ) → Binary (xs ++ ys) → Binary xs × Binary ys
binary_parts [] ys p = (tt, p)
binary_parts (x ∷ xs) ys p = let q = binary_parts xs ys p.1 in ((p.0, q.0), q.1)

-- ---- packed bytes hold their bits
module _ (s : List ℕ) (small : length s ≤ 2 ^ 60) where
  -- one byte
  byte-holds : (i : ℕ) (bs : List ℕ) → i < length s → get_or s i 0 ≡ spelled bs → length bs ≡ 8 → Binary bs → Holds s (i * 8) bs (i * 8 + 8)
  byte-holds i bs h e l b =
      let v : spelled bs < 2 ^ 8 = rw l at (spelled-lt bs) in
      let n : bits_at s (i * 8) 8 ≡ number bs = byte-bits s i h (omega arith) (omega arith) ∙ e ∙ spelled-binary bs b in
      let t : to_bits 8 (bits_at s (i * 8) 8) ≡ bs = ap (to_bits 8) n ∙ ap (λ (k : ℕ). to_bits k (number bs)) (sym l) ∙ to_bits-number bs b in
      subst (λ (x : List ℕ). Holds s (i * 8) x (i * 8 + 8)) t (holds-bits s (i * 8) 8 (omega arith))

  -- the bytes from place i on
  bytes_hold : (n i : ℕ) (bs : List ℕ) → drop i s ≡ pack n bs → i + n ≡ length s → length bs ≡ 8 * n → Binary bs → Holds s (i * 8) bs (i * 8 + n * 8)
  unfolding pack
  bytes_hold zero i [] e m l b = rw (zero-mul, add-zero) (holds-none (omega arith))
  bytes_hold zero i (x ∷ bs) e m l b = absurd (omega arith)
  bytes_hold (suc n) i bs e m l b =
      let first = take 8 bs in
      let rest = drop 8 bs in
      let whole : first ++ rest ≡ bs = take-append-drop 8 bs in
      let parts = binary_parts first rest (subst Binary (sym whole) b) in
      let c : get_or s i 0 ∷ drop (suc i) s ≡ spelled first ∷ pack n rest = sym (drop-cons s i 0 (omega arith)) ∙ e in
      let h = byte-holds i first (omega arith) (cc) (simp length-take (omega arith)) parts.0 in
      let k = bytes_hold n (suc i) rest (cc) (omega arith) (simp length-drop (omega arith)) parts.1 in
      let p : suc i * 8 ≡ i * 8 + 8 = omega arith in
      let q : i * 8 + 8 + n * 8 ≡ i * 8 + suc n * 8 = omega arith in
      subst (λ (x : List ℕ). Holds s (i * 8) x (i * 8 + suc n * 8)) whole (holds-append h (rw (p, q) at k))

se-binary : (v : ℤ) → Binary (se_code v)
unfolding se_code
se-binary v = ue-binary (code_num v)

binary-trailing : (n : ℕ) → Binary (trailing_bits n)
unfolding trailing_bits
binary-trailing n = (omega arith, binary-zeros (7 - n % 8))

binary-aligned : (bs : List ℕ) → Binary bs → Binary (aligned bs)
unfolding aligned
binary-aligned bs b = binary-append bs (trailing_bits (length bs)) b (binary-trailing (length bs))

-- the fields and the trailing bits
pub packed-holds : (bs : List ℕ) → Binary bs → length bs < 2 ^ 63 → Holds (packed bs) 0 (aligned bs) (length (aligned bs))
unfolding packed
packed-holds bs b h =
    let a = aligned bs in
    let n = length a / 8 in
    let l = pack-length n a in
    let m : length a ≡ 8 * n = aligned-length bs in
    let k : 0 * 8 + n * 8 ≡ length a = omega arith in
    subst (Holds (packed bs) 0 a) k (bytes_hold (packed bs) (omega (arith, packed-length bs)) n 0 a refl (omega (arith, l)) m (binary-aligned bs b))

-- a part in the middle of the fields
pub packed-part : (xs ys zs : List ℕ) → Binary (xs ++ (ys ++ zs)) → length (xs ++ (ys ++ zs)) < 2 ^ 63
    → Holds (packed (xs ++ (ys ++ zs))) (length xs) ys (length xs + length ys)
unfolding aligned
packed-part xs ys zs b h =
    let all = xs ++ (ys ++ zs) in
    let end = trailing_bits (length all) in
    let same : all ++ end ≡ xs ++ (ys ++ (zs ++ end)) = append_assoc xs (ys ++ zs) end ∙ ap (λ (l : List ℕ). xs ++ l) (append_assoc ys zs end) in
    let held = subst (λ (l : List ℕ). Holds (packed all) 0 l (length (all ++ end))) same (packed-holds all b h) in
    rw zero-add at (holds-left ys (zs ++ end) (holds-right xs (ys ++ (zs ++ end)) held))

-- the trailing bits behind them
packed-end : (bs : List ℕ) → Binary bs → length bs < 2 ^ 63 → Holds (packed bs) (length bs) (trailing_bits (length bs)) (length (aligned bs))
unfolding aligned
packed-end bs b h = rw zero-add at (holds-right bs (trailing_bits (length bs)) (packed-holds bs b h))

-- ---- each code comes back
module _ (xs zs : List ℕ) (before : Binary xs) (after : Binary zs) where
  fields : (code : List ℕ) → Binary code → Binary (xs ++ (code ++ zs))
  fields code b = binary-append xs (code ++ zs) before (binary-append code zs b after)

  pub u-written : (n v : ℕ) → v < 2 ^ n → length (xs ++ (to_bits n v ++ zs)) < 2 ^ 63
      → u_read (packed (xs ++ (to_bits n v ++ zs))) (cursor_at (length xs)) n ≡ record { value = v; next = cursor_at (length xs + n) }
  u-written n v h l =
      u-reads-back _ (length xs) (length xs + n) n v h
      (subst (Holds (packed (xs ++ (to_bits n v ++ zs))) (length xs) (to_bits n v)) (ap (λ (k : ℕ). length xs + k) (to_bits-length n v))
      (packed-part xs (to_bits n v) zs (fields (to_bits n v) (binary-to_bits n v)) l))

  -- of any width
  pub ue-written-within : (width v : ℕ) → v + 1 < 2 ^ width → length (xs ++ (ue_code v ++ zs)) < 2 ^ 63
      → ue_within width (packed (xs ++ (ue_code v ++ zs))) (cursor_at (length xs)) ≡ record { value = v; next = cursor_at (length xs + length (ue_code v)) }
  ue-written-within width v h l = ue-reads-back-within width _ _ _ v h (packed-part xs (ue_code v) zs (fields (ue_code v) (ue-binary v)) l)

  pub ue-written : (v : ℕ) → v < 4294967295 → length (xs ++ (ue_code v ++ zs)) < 2 ^ 63
      → ue_read (packed (xs ++ (ue_code v ++ zs))) (cursor_at (length xs)) ≡ record { value = v; next = cursor_at (length xs + length (ue_code v)) }
  ue-written v h l = ue-reads-back _ _ _ v h (packed-part xs (ue_code v) zs (fields (ue_code v) (ue-binary v)) l)

  pub se-written : (v : ℤ) → code_num v < 4294967295 → length (xs ++ (se_code v ++ zs)) < 2 ^ 63
      → se_read (packed (xs ++ (se_code v ++ zs))) (cursor_at (length xs)) ≡ record { value = v; next = cursor_at (length xs + length (se_code v)) }
  se-written v h l = se-reads-back _ _ _ v h (packed-part xs (se_code v) zs (fields (se_code v) (se-binary v)) l)

-- the trailing bits are accepted, and end with the last byte
pub trailing-written : (bs : List ℕ) → Binary bs → length bs < 2 ^ 63 → trailing_read (packed bs) (cursor_at (length bs)) ≡ cursor_at (length (packed bs) * 8)
unfolding trailing_bits to_bits
trailing-written bs b h =
    let s = packed bs in
    let n = length bs in
    let m = 7 - n % 8 in
    let zeros : List ℕ = replicate m 0 in
    let held = packed-end bs b h in
    let stop = holds-left (1 ∷ []) zeros held in
    let rest = subst (λ (l : List ℕ). Holds s (n + 1) l (length (aligned bs))) (sym (to_bits-zero m)) (holds-right (1 ∷ []) zeros held) in
    let one : bit_at s n ≡ 1 = sym (bits-one s n) ∙ (holds-number s n (n + 1) 1 1 stop).0 in
    let none : bits_at s (n + 1) m ≡ 0 = (holds-number s (n + 1) (length (aligned bs)) m 0 rest).0 ∙ zero-mod (2 ^ m) in
    sym (trailing-made s (cursor_at n) refl (omega (arith, stop.inside)) one none) ∙ ap cursor_at (omega (arith, packed-length bs))
