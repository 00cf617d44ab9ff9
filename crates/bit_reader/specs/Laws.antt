-- Laws of the readers' definitions: each way that a reader comes to its answer.
use Rattle.std.specs.Prelude.{ℕ, zero, suc, ◌+◌, ◌-◌, ◌*◌, ◌/◌, ◌%◌, ◌^◌, ◌≤◌, ◌<◌, ◌≡◌, refl, List, Bool, true, false, cond, ltb, eqb}
use Rattle.std.proofs.Common.{sym, ap, ◌∙◌, arith, pow-suc, pow_mono, pow_pos}
use Rattle.std.proofs.lemmas.Bool.{eqb-false}
use borrow.Author.Tests.{lt-ltb, le-ltb, eq-eqb, ne_eqb, ltb-true, eqb-true}
use Rattle.codes.specs.Bytes.{bit_count, bit_at, bits_at, bits_none, bits-lt, bits_past}
use Rattle.bit_reader.specs.declared.Cursor.{Cursor}
use Rattle.bit_reader.specs.declared.BitsRead.{BitsRead}
use Rattle.bit_reader.specs.Gives.{Parsed, tested}
use Rattle.bit_reader.specs.Reading.{cursor_at, refusal, unless_refused, onward, u_read, stops, zeros_at, ue_after, ue_within, ue_read, trailing_read, demanded}

-- what holds of both outcomes of a test
by-test : (P : BitsRead → Type 0) (t : Bool) (x y : BitsRead) → (t ≡ true → P x) → (t ≡ false → P y) → P (cond t x y)
by-test P true x y f g = f refl
by-test P false x y f g = g refl

-- ---- refusals stick
pub open_reads : (c : Cursor) (r : BitsRead) → c.refused ≡ 0 → unless_refused c r ≡ r
unfolding unless_refused
open_reads c r h = rw (eq-eqb c.refused 0 h)

pub refused_stays : (c : Cursor) (r : BitsRead) → (c.refused ≡ 0 → ⊥) → unless_refused c r ≡ record { value = 0; next = c }
unfolding unless_refused
refused_stays c r h = rw (ne_eqb c.refused 0 h)

-- a reader that did not refuse had not been refused
pub going_on : (c : Cursor) (r : BitsRead) → (unless_refused c r).next.refused ≡ 0 → c.refused ≡ 0
unfolding unless_refused
going_on c r h = split (eqb c.refused 0) refl h
  where
    split : (t : Bool) → eqb c.refused 0 ≡ t → ◌≡◌ {A = ℕ} (cond t r (record { value = 0; next = c })).next.refused 0 → c.refused ≡ 0
    split true e h = eqb-true c.refused 0 e
    split false e h = h

-- a cursor that is not refused is its place
pub cursor_is : (c : Cursor) → c.refused ≡ 0 → c ≡ cursor_at c.at
cursor_is c h = ap (λ (n : ℕ). record { at = c.at; refused = n }) h

-- ---- the place
pub onward_in : (s : List ℕ) (at n : ℕ) → onward s at n < bit_count s → at + n < bit_count s
unfolding onward
onward_in s at n h = omega arith

pub onward-is : (s : List ℕ) (at n : ℕ) → at + n ≤ bit_count s → onward s at n ≡ at + n
unfolding onward
onward-is s at n h = omega arith

pub onward_past : (s : List ℕ) (at n : ℕ) → bit_count s ≤ at → onward s at n ≡ at
unfolding onward
onward_past s at n h = omega arith

-- ---- u(n)
pub u-made : (s : List ℕ) (c : Cursor) (n v p : ℕ) → c.refused ≡ 0 → v ≡ bits_at s c.at n → p ≡ onward s c.at n
    → record { value = v; next = cursor_at p } ≡ u_read s c n
unfolding u_read
u-made s c n v p h e d = rw (e, d) (sym (open_reads c _ h))

pub u_stays : (s : List ℕ) (c : Cursor) (n : ℕ) → (c.refused ≡ 0 → ⊥) → record { value = 0; next = c } ≡ u_read s c n
unfolding u_read
u_stays s c n h = sym (refused_stays c _ h)

pub u_past : (s : List ℕ) (c : Cursor) (n : ℕ) → c.refused ≡ 0 → bit_count s ≤ c.at → record { value = 0; next = c } ≡ u_read s c n
u_past s c n h l =
    ap (λ (d : Cursor). record { value = 0; next = d }) (cursor_is c h)
    ∙ u-made s c n 0 c.at h (sym (bits_past s c.at n l)) (sym (onward_past s c.at n l))

-- a value of n bits
pub u-below : (s : List ℕ) (c : Cursor) (n : ℕ) → (u_read s c n).value < 2 ^ n
unfolding u_read unless_refused
u-below s c n = by-test (λ r. r.value < 2 ^ n) (eqb c.refused 0) _ _ (λ _. bits-lt s c.at n) (λ _. pow_pos n)

-- ---- runs of zeros
pub zeros-none : (s : List ℕ) (at f : ℕ) → stops s at ≡ true → zeros_at s at f ≡ 0
unfolding zeros_at
zeros-none s at zero h = refl
zeros-none s at (suc f) h = rw (h, zeros_at)

pub zeros-more : (s : List ℕ) (at f : ℕ) → stops s at ≡ false → zeros_at s at (suc f) ≡ suc (zeros_at s (at + 1) f)
unfolding zeros_at
zeros-more s at f h = rw (h, zeros_at)

pub zeros-out : (s : List ℕ) (at f : ℕ) → f ≡ 0 → zeros_at s at f ≡ 0
unfolding zeros_at
zeros-out s at f h = rw h

-- one zero more, where code counts k of f
pub zeros-count : (s : List ℕ) (at k f : ℕ) → stops s (at + k) ≡ false → k < f → zeros_at s (at + k) (f - k) ≡ suc (zeros_at s (at + (k + 1)) (f - (k + 1)))
zeros-count s at k f h l =
    ap (zeros_at s (at + k)) (omega arith) ∙ zeros-more s (at + k) (f - (k + 1)) h
    ∙ ap (λ (p : ℕ). suc (zeros_at s p (f - (k + 1)))) (omega arith)

pub stops_past : (s : List ℕ) (at : ℕ) → bit_count s ≤ at → stops s at ≡ true
unfolding stops
stops_past s at h = rw (le-ltb at (bit_count s) h)

pub stops_in : (s : List ℕ) (at : ℕ) → at < bit_count s → stops s at ≡ eqb (bit_at s at) 1
unfolding stops
stops_in s at h = rw (lt-ltb at (bit_count s) h)

pub stops-one : (s : List ℕ) (at : ℕ) → bit_at s at ≡ 1 → stops s at ≡ true
unfolding stops
stops-one s at h = rw (eq-eqb (bit_at s at) 1 h) (both (ltb at (bit_count s)))
  where
    both : (b : Bool) → cond b true true ≡ true
    both true = refl
    both false = refl

pub stops-not : (s : List ℕ) (at : ℕ) → at < bit_count s → (bit_at s at ≡ 1 → ⊥) → stops s at ≡ false
stops-not s at h n = stops_in s at h ∙ ne_eqb (bit_at s at) 1 n

-- ---- ue(v)
pub ue-made : (s : List ℕ) (c : Cursor) (w z v p : ℕ) → c.refused ≡ 0 → z ≡ zeros_at s c.at w → z < w
    → v ≡ 2 ^ z - 1 + bits_at s (c.at + z + 1) z → p ≡ onward s c.at (z * 2 + 1) → record { value = v; next = cursor_at p } ≡ ue_within w s c
unfolding ue_within ue_after
ue-made s c w z v p h k l e d = rw (e, d) (sym (open_reads c _ h ∙ rw (← k, lt-ltb z w l)))

pub ue-refused : (s : List ℕ) (c : Cursor) (w z : ℕ) → c.refused ≡ 0 → z ≡ zeros_at s c.at w → w ≤ z → record { value = 0; next = refusal c 6 } ≡ ue_within w s c
unfolding ue_within ue_after
ue-refused s c w z h k l = sym (open_reads c _ h ∙ rw (← k, le-ltb z w l))

pub ue_stays : (s : List ℕ) (c : Cursor) (w : ℕ) → (c.refused ≡ 0 → ⊥) → record { value = 0; next = c } ≡ ue_within w s c
unfolding ue_within
ue_stays s c w h = sym (refused_stays c _ h)

-- at the end: 0, and no move
pub ue_past : (s : List ℕ) (c : Cursor) (w : ℕ) → 0 < w → c.refused ≡ 0 → bit_count s ≤ c.at → record { value = 0; next = c } ≡ ue_within w s c
ue_past s c w g h l =
    ap (λ (d : Cursor). record { value = 0; next = d }) (cursor_is c h)
    ∙ ue-made s c w 0 0 c.at h (sym (zeros-none s c.at w (stops_past s c.at l))) g (omega (arith, bits_none s (c.at + 0 + 1))) (sym (onward_past s c.at 1 l))

pub ue-is : (s : List ℕ) (c : Cursor) → ue_read s c ≡ ue_within 32 s c
unfolding ue_read
ue-is s c = refl

-- the value is below 2^w − 1: a code number of w bits
pub ue-below : (w : ℕ) (s : List ℕ) (c : Cursor) → 0 < w → (ue_within w s c).value + 1 < 2 ^ w
unfolding ue_within ue_after unless_refused
ue-below w s c h =
    let z = zeros_at s c.at w in
    let Below : BitsRead → Type 0 = λ r. r.value + 1 < 2 ^ w in
    let one : 1 < 2 ^ w = omega (arith, pow_mono {i = 1} {j = w} h) in
    by-test Below (eqb c.refused 0) _ _
    (λ _. by-test Below (ltb z w) _ _
    (λ e. omega (arith, bits-lt s (c.at + z + 1) z, pow-suc 2 z, pow_mono {i = suc z} {j = w} (ltb-true z w e), pow_pos z))
    (λ _. one))
    (λ _. one)

pub ue-small : (s : List ℕ) (c : Cursor) → (ue_read s c).value < 4294967295
ue-small s c = rw (ue-is s c) (omega (arith, ue-below 32 s c (omega arith)))

-- ---- rbsp_trailing_bits()
module _ (s : List ℕ) (c : Cursor) where
  pub trailing_stays : (c.refused ≡ 0 → ⊥) → c ≡ trailing_read s c
  unfolding trailing_read
  trailing_stays h = rw (ne_eqb c.refused 0 h)

  pub trailing-end : c.refused ≡ 0 → bit_count s ≤ c.at → refusal c 22 ≡ trailing_read s c
  unfolding trailing_read
  trailing-end h l = rw (eq-eqb c.refused 0 h, le-ltb c.at (bit_count s) l)

  pub trailing_stop : c.refused ≡ 0 → c.at < bit_count s → (bit_at s c.at ≡ 1 → ⊥) → refusal c 23 ≡ trailing_read s c
  unfolding trailing_read
  trailing_stop h l n = rw (eq-eqb c.refused 0 h, lt-ltb c.at (bit_count s) l, ne_eqb (bit_at s c.at) 1 n)

  pub trailing_align : c.refused ≡ 0 → c.at < bit_count s → bit_at s c.at ≡ 1 → (bits_at s (c.at + 1) (7 - c.at % 8) ≡ 0 → ⊥)
      → refusal c 23 ≡ trailing_read s c
  unfolding trailing_read
  trailing_align h l e n =
      rw (eq-eqb c.refused 0 h, lt-ltb c.at (bit_count s) l, eq-eqb (bit_at s c.at) 1 e, ne_eqb (bits_at s (c.at + 1) (7 - c.at % 8)) 0 n)

  pub trailing-made : c.refused ≡ 0 → c.at < bit_count s → bit_at s c.at ≡ 1 → bits_at s (c.at + 1) (7 - c.at % 8) ≡ 0
      → cursor_at (c.at / 8 * 8 + 8) ≡ trailing_read s c
  unfolding trailing_read
  trailing-made h l e z =
      rw (eq-eqb c.refused 0 h, lt-ltb c.at (bit_count s) l, eq-eqb (bit_at s c.at) 1 e, eq-eqb (bits_at s (c.at + 1) (7 - c.at % 8)) 0 z)

-- ---- tests
pub demanded-true : (ok : Bool) (n : ℕ) (c : Cursor) → ok ≡ true → demanded ok n c ≡ c
unfolding demanded
demanded-true ok n c e = rw e

pub demanded-refused : (ok : Bool) (n : ℕ) (c : Cursor) → (c.refused ≡ 0 → ⊥) → demanded ok n c ≡ c
unfolding demanded
demanded-refused true n c h = refl
demanded-refused false n c h = rw (ne_eqb c.refused 0 h)

pub demanded-false : (ok : Bool) (n : ℕ) (c : Cursor) → ok ≡ false → c.refused ≡ 0 → demanded ok n c ≡ refusal c n
unfolding demanded
demanded-false ok n c e h = rw (e, eq-eqb c.refused 0 h)

-- a test behind which nothing is refused held, and nothing was refused before it
pub demanded-held : (ok : Bool) (n : ℕ) (c : Cursor) → 0 < n → (demanded ok n c).refused ≡ 0 → (ok ≡ true) × (c.refused ≡ 0)
unfolding demanded
demanded-held true n c l h = (refl, h)
demanded-held false n c l h = absurd (split (eqb c.refused 0) refl h)
  where
    split : (t : Bool) → eqb c.refused 0 ≡ t → ◌≡◌ {A = ℕ} (cond t (refusal c n) c).refused 0 → ⊥
    split true e h = omega arith
    split false e h = eqb-false c.refused 0 e h

-- a value that was tested and not refused passed its test
pub tested-held : {A : Type 0} (ok : A → Bool) (n : ℕ) (read : List ℕ → Cursor → Parsed A) (s : List ℕ) (c : Cursor) → 0 < n → (tested ok n read s c).next.refused ≡ 0
    → ok (tested ok n read s c).value ≡ true
tested-held ok n read s c l h = (demanded-held (ok (read s c).value) n (read s c).next l h).0
