-- An escaped payload can be told from a start code (H.266 7.4.2.1): what three and four bytes may stand in it, and how it may end.
use Prim.Native.Nat.{ℕ, zero, suc, ◌+◌, ◌≤◌, ◌<◌}
use Rattle.std.proofs.Common.{add-one, drop-cons, leb-true, leb-false}
use native.Mathlib.Omega.{arith}
use Rattle.std.specs.Prelude.{Bool, true, false, List, [], ◌∷◌, ◌≡◌, refl, leb, length, get_or, drop}
use Rattle.std.proofs.Math.Seq.{drop-length}
use Rattle.nal.specs.Escape.{zero_run, needs_escape, escape_end, escape_from, escape}
use Rattle.nal.specs.Laws.{zero_run-zero, zero_run-other, needs_escape_yes, needs_escape-no, escape_end-none, escape_end_three, escape_from-end, escape_from_plain, escape_from-escaped}

abbrev pub byte_at : List ℕ → ℕ → ℕ
byte_at bs k = get_or bs k 0

-- At no place k stands 00 00 00, 00 00 01 or 00 00 02; after 00 00 03 comes a byte up to 03, if any; and the last two bytes are not 00 00.
pub record NoStartCode (bs : List ℕ) : Type 0 where
  pub three_bytes : (k : ℕ) → k + 2 < length bs → byte_at bs k ≡ 0 → byte_at bs (k + 1) ≡ 0 → 3 ≤ byte_at bs (k + 2)
  pub four_bytes : (k : ℕ) → k + 3 < length bs → byte_at bs k ≡ 0 → byte_at bs (k + 1) ≡ 0 → byte_at bs (k + 2) ≡ 3 → byte_at bs (k + 3) ≤ 3
  pub last_two : (k : ℕ) → k + 2 ≡ length bs → byte_at bs k ≡ 0 → byte_at bs (k + 1) ≡ 0 → ⊥

-- ---- the same, byte by byte
-- the first byte, if any, is up to 03
up_to_three : List ℕ → Type 0
up_to_three [] = Unit {0}
up_to_three (b ∷ bs) = b ≤ 3

-- what may follow a run of z
Safe : ℕ → List ℕ → Type 0
Safe z [] = z < 2
Safe z (b ∷ bs) = (2 ≤ z → 3 ≤ b) × (2 ≤ z → b ≡ 3 → up_to_three bs) × Safe (zero_run z b) bs

end_safe : (z : ℕ) → Safe z (escape_end z)
unfolding Safe up_to_three
end_safe z = go (leb 2 z) refl
  where
    go : (t : Bool) → leb 2 z ≡ t → Safe z (escape_end z)
    go true e = rw (escape_end_three z (leb-true 2 z e)) (λ h. omega arith, λ h q. tt, rw (zero_run-other z 3 (omega arith)) (omega arith))
    go false e = rw (escape_end-none z (leb-false 2 z e)) (leb-false 2 z e)

escaped_safe : (z : ℕ) (bs : List ℕ) → Safe z (escape_from z bs)
unfolding Safe up_to_three
escaped_safe z [] = rw escape_from-end (end_safe z)
escaped_safe z (b ∷ bs) = go (needs_escape z b) refl (λ k. escaped_safe k bs)
  where
    go : (t : Bool) → needs_escape z b ≡ t → ((k : ℕ) → Safe k (escape_from k bs)) → Safe z (escape_from z (b ∷ bs))
    go true e ih =
        rw (escape_from-escaped z b bs e, zero_run-other z 3 (omega arith))
        (λ h. omega arith, λ h q. (needs_escape_yes z b e).1, (λ h. absurd (omega arith), λ h q. absurd (omega arith), ih (zero_run 0 b)))
    go false e ih =
        rw (escape_from_plain z b bs e)
        (λ h. omega (arith, needs_escape-no z b e h), λ h q. absurd (omega (arith, needs_escape-no z b e h)), ih (zero_run z b))

-- ---- from there to places
onward : (k z : ℕ) (bs : List ℕ) → k ≤ length bs → Safe z bs → (y : ℕ) × Safe y (drop k bs)
unfolding Safe
onward zero z bs h s = (z, s)
onward (suc k) z [] h s = absurd (omega arith)
onward (suc k) z (b ∷ bs) h s = onward k (zero_run z b) bs (omega arith) s.2

head_safe : (z k : ℕ) (bs : List ℕ) → k < length bs → Safe z (drop k bs)
    → (2 ≤ z → 3 ≤ byte_at bs k) × (2 ≤ z → byte_at bs k ≡ 3 → up_to_three (drop (suc k) bs)) × Safe (zero_run z (byte_at bs k)) (drop (suc k) bs)
unfolding Safe
head_safe z k bs h s = rw (drop-cons bs k 0 h) at s

run-two : (z a b : ℕ) → a ≡ 0 → b ≡ 0 → zero_run (zero_run z a) b ≡ 2
run-two z a b e f = rw (e, f) (simp zero_run-zero (omega arith))

module _ (bs : List ℕ) (safe : Safe 0 bs) (k : ℕ) (first : byte_at bs k ≡ 0) (second : byte_at bs (k + 1) ≡ 0) where
  after-zeros : k + 2 ≤ length bs → Safe 2 (drop (k + 2) bs)
  after-zeros h =
      let (y, s) = onward k 0 bs (omega arith) safe in
      let t = (head_safe _ (suc k) bs (omega arith) (head_safe y k bs (omega arith) s).2).2 in
      let q : k + 2 ≡ suc (suc k) = omega arith in
      rw q (rw (run-two y (byte_at bs k) (byte_at bs (suc k)) first (rw add-one at second)) at t)

  third : k + 2 < length bs → 3 ≤ byte_at bs (k + 2)
  third h = (head_safe 2 (k + 2) bs h (after-zeros (omega arith))).0 (omega arith)

  fourth : k + 3 < length bs → byte_at bs (k + 2) ≡ 3 → byte_at bs (k + 3) ≤ 3
  unfolding up_to_three
  fourth h e =
      let u = (head_safe 2 (k + 2) bs (omega arith) (after-zeros (omega arith))).1 (omega arith) e in
      let q : k + 3 ≡ suc (k + 2) = omega arith in
      rw q (rw (drop-cons bs (suc (k + 2)) 0 (omega arith)) at u)

  not_last : k + 2 ≡ length bs → ⊥
  unfolding Safe
  not_last e = let t : 2 < 2 = rw (e, drop-length) at (after-zeros (omega arith)) in omega arith

pub escape-no_start_code : (rbsp : List ℕ) → NoStartCode (escape rbsp)
unfolding escape
escape-no_start_code rbsp =
    let s = escaped_safe 0 rbsp in
    record {
      three_bytes = λ k h e f. third (escape rbsp) s k e f h;
      four_bytes = λ k h e f g. fourth (escape rbsp) s k e f h g;
      last_two = λ k h e f. not_last (escape rbsp) s k e f h;
    }
