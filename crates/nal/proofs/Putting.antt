-- A loop over bytes that come one after the other: `n` of them so far, `rest` still to come, `whole` in all.
-- `Counting` is the count alone; in `Putting` they are also put at the front of an output.
use Prim.Native.Nat.{ℕ, ◌+◌, ◌≤◌, ◌<◌}
use native.Mathlib.Nat.{zero-add}
use native.Mathlib.Numerals.{add-one}
use native.Mathlib.Omega.{arith}
use mathlib.Core.List.{List, [], ◌∷◌}
use mathlib.Core.Path.{◌≡◌, refl, sym, ap, ◌∙◌}
use lib.ListN.{length, set, length-set}
use lib.Seq.{sets}
use Rattle.tables.specs.Tables.{over, sets_over}
use Rattle.nal.specs.Lengths.{escape-length}

pub record Counting (whole rest : List ℕ) (n : ℕ) : Type 0 where
  pub count : n + length rest ≡ length whole

pub count_start : (whole : List ℕ) → Counting whole whole 0
count_start whole = record { count = zero-add _ }

module _ {whole rest : List ℕ} {n : ℕ} (p : Counting whole rest n) where
  pub count-byte : {b : ℕ} {tail : List ℕ} → rest ≡ b ∷ tail → Counting whole tail (n + 1)
  count-byte e = record { count = omega (arith, ap length e, p.count) }

  pub count-two : {a b : ℕ} {tail : List ℕ} → rest ≡ a ∷ b ∷ tail → Counting whole tail (n + 2)
  count-two e = record { count = omega (arith, ap length e, p.count) }

  pub count-done : rest ≡ [] → n ≡ length whole
  count-done e = omega (arith, ap length e, p.count)

-- for `using`: escaping makes three bytes of two at the most
pub ruleset lengths = (escape-length)

pub record Putting (whole rest out₀ out : List ℕ) (n : ℕ) : Type 0 where
  pub counted : Counting whole rest n
  pub same : length out ≡ length out₀
  pub bytes : sets out n rest ≡ sets out₀ 0 whole

pub put_start : (whole out : List ℕ) → Putting whole whole out out 0
put_start whole out = record { counted = count_start whole; same = refl; bytes = refl }

module _ {whole rest out₀ out : List ℕ} {n : ℕ} (p : Putting whole rest out₀ out n) where
  pub put-none : {tail : List ℕ} → rest ≡ tail → Putting whole tail out₀ out n
  put-none e = rw e at p

  pub put_byte : {b : ℕ} {tail : List ℕ} → rest ≡ b ∷ tail → Putting whole tail out₀ (set out n b) (n + 1)
  put_byte {b} e =
      record {
        counted = count-byte p.counted e;
        same = length-set out n b ∙ p.same;
        bytes = rw (add-one n) (ap (λ (l : List ℕ). sets out n l) (sym e) ∙ p.bytes);
      }

  -- there is room for the next byte
  pub put-room : {b : ℕ} {tail : List ℕ} → rest ≡ b ∷ tail → length whole ≤ length out₀ → n < length out
  put-room e h = omega (arith, ap length e, p.counted.count, p.same)

  pub put-done : rest ≡ [] → length whole ≤ length out₀ → (n ≡ length whole) × (out ≡ over whole out₀)
  put-done e h = (count-done p.counted e, ap (λ (l : List ℕ). sets out n l) (sym e) ∙ p.bytes ∙ sets_over out₀ whole h)

pub put_two : {whole rest out₀ out : List ℕ} {n : ℕ} → Putting whole rest out₀ out n → {a b : ℕ} {tail : List ℕ} → rest ≡ a ∷ b ∷ tail
    → Putting whole tail out₀ (set (set out n a) (n + 1) b) (n + 2)
put_two {n} p e = let q : n + 2 ≡ n + 1 + 1 = omega arith in rw q (put_byte (put_byte p e) refl)
