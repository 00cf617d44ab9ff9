-- What reading took: a read that ends with a bit left took exactly the bits of its value's code.
use Rattle.std.specs.Prelude.{ℕ, zero, suc, ◌+◌, ◌-◌, ◌*◌, ◌^◌, ◌≤◌, ◌<◌, ◌≡◌, refl, List, Bool, true, false, ltb}
use Rattle.std.proofs.Common.{sym, ap, subst, ◌∙◌, add-zero, zero-add, zero-mul, one-mul, pow-suc, arith, pow_pos, eqb-true, ltb-true}
use Rattle.std.proofs.lemmas.Bool.{eqb-false}
use Rattle.codes.specs.Bits.{to_bits}
use Rattle.codes.specs.Bytes.{bit_count, bit_at, bits_at, bit-lt, bits_none, bits-lt, bits-append, bits-first}
use Rattle.codes.specs.Holds.{Holds, holds-bits}
use Rattle.codes.specs.ExpGolomb.{ue_code, ue-code-number, code_num, code-signed, se_code}
use Rattle.bit_reader.specs.declared.Cursor.{Cursor}
use Rattle.bit_reader.specs.Reading.{cursor_at, refusal, onward, u_read, stops, zeros_at, ue_after, ue_within, ue_read, se_read}
use Rattle.bit_reader.specs.Laws.{open_reads, going_on, onward_in, onward-is, zeros-none, zeros-more, stops_in, ue-is, ue-small}

-- reading goes on, with a bit left
pub record Going (s : List ℕ) (c : Cursor) : Type 0 where
  pub unrefused : c.refused ≡ 0
  pub inside : c.at < bit_count s

-- reading went from one cursor to another, over these bits
pub record Took (s : List ℕ) (c : Cursor) (bs : List ℕ) (d : Cursor) : Type 0 where
  pub going : Going s c
  pub bits : Holds s c.at bs d.at

-- ---- u(n)
u-is : (s : List ℕ) (c : Cursor) (n : ℕ) → c.refused ≡ 0 → u_read s c n ≡ record { value = bits_at s c.at n; next = cursor_at (onward s c.at n) }
unfolding u_read
u-is s c n h = open_reads c _ h

u-going : (s : List ℕ) (c : Cursor) (n : ℕ) → (u_read s c n).next.refused ≡ 0 → c.refused ≡ 0
unfolding u_read
u-going s c n h = going_on c _ h

pub u-took : (s : List ℕ) (c : Cursor) (n : ℕ) → Going s (u_read s c n).next → Took s c (to_bits n (u_read s c n).value) (u_read s c n).next × ((u_read s c n).value < 2 ^ n)
u-took s c n f =
    let g = u-going s c n f.unrefused in
    let e = u-is s c n g in
    let i : onward s c.at n < bit_count s = rw e at f.inside in
    let j = onward_in s c.at n i in
    rw e ((
      record {
        going = record { unrefused = g; inside = omega arith };
        bits = subst (λ (p : ℕ). Holds s c.at (to_bits n (bits_at s c.at n)) p) (sym (onward-is s c.at n (omega arith))) (holds-bits s c.at n (omega arith));
      },
      bits-lt s c.at n,
    ))

-- ---- ue(v)
-- a run of zeros that ends inside
run_of : (s : List ℕ) (f at : ℕ) → zeros_at s at f < f → at + zeros_at s at f < bit_count s → (bits_at s at (zeros_at s at f) ≡ 0) × (bit_at s (at + zeros_at s at f) ≡ 1)
run_of s zero at h l = absurd (omega arith)
run_of s (suc f) at h l = split (run_of s f (at + 1)) (stops s at) refl
  where
    split : (zeros_at s (at + 1) f < f → at + 1 + zeros_at s (at + 1) f < bit_count s → (bits_at s (at + 1) (zeros_at s (at + 1) f) ≡ 0) × (bit_at s (at + 1 + zeros_at s (at + 1) f) ≡ 1))
        → (t : Bool) → stops s at ≡ t → (bits_at s at (zeros_at s at (suc f)) ≡ 0) × (bit_at s (at + zeros_at s at (suc f)) ≡ 1)
    split ih true e =
        let z = zeros-none s at (suc f) e in
        rw (z, add-zero at) (bits_none s at, eqb-true _ _ (sym (stops_in s at (omega arith)) ∙ e))
    split ih false e =
        let z = zeros-more s at f e in
        let n = zeros_at s (at + 1) f in
        let r = ih (omega arith) (omega arith) in
        let q : at + suc n ≡ at + 1 + n = omega arith in
        let b : bit_at s at ≡ 0 = omega (arith, bit-lt s at, eqb-false (bit_at s at) 1 (sym (stops_in s at (omega arith)) ∙ e)) in
        rw (z, q, bits-first s at n, b, zero-mul, zero-add) (r.0, r.1)

-- z zeros, a 1 and z more bits are the code of their value
code-there : (s : List ℕ) (at z : ℕ) → bits_at s at z ≡ 0 → bit_at s (at + z) ≡ 1 → at + (z * 2 + 1) ≤ bit_count s
    → Holds s at (ue_code (2 ^ z - 1 + bits_at s (at + z + 1) z)) (at + (z * 2 + 1))
code-there s at z a b l =
    let y = bits_at s (at + z + 1) z in
    let v = 2 ^ z - 1 + y in
    let e : v + 1 ≡ 2 ^ z + y = omega (arith, pow_pos z) in
    let n : bits_at s at (z + suc z) ≡ v + 1 = bits-append s at z (suc z) ∙ rw (a, zero-mul, zero-add, bits-first s (at + z) z, b, one-mul) (sym e) in
    let k : z + suc z ≡ z * 2 + 1 = omega arith in
    let c : ue_code v ≡ to_bits (z + suc z) (bits_at s at (z + suc z)) =
    ue-code-number z v (omega arith) (omega (arith, bits-lt s (at + z + 1) z, pow-suc 2 z)) ∙ ap (to_bits (z + suc z)) (sym n) in
    rw c (subst (λ (p : ℕ). Holds s at (to_bits (z + suc z) (bits_at s at (z + suc z))) (at + p)) k (holds-bits s at (z + suc z) (omega arith)))

within-is : (w : ℕ) (s : List ℕ) (c : Cursor) → c.refused ≡ 0 → ue_within w s c ≡ ue_after w s c (zeros_at s c.at w)
unfolding ue_within
within-is w s c h = open_reads c _ h

within-going : (w : ℕ) (s : List ℕ) (c : Cursor) → (ue_within w s c).next.refused ≡ 0 → c.refused ≡ 0
unfolding ue_within
within-going w s c h = going_on c _ h

pub ue-took-within : (w : ℕ) (s : List ℕ) (c : Cursor) → Going s (ue_within w s c).next → Took s c (ue_code (ue_within w s c).value) (ue_within w s c).next
unfolding ue_after
ue-took-within w s c f = split (ltb z w) refl
  where
    z : ℕ
    z = zeros_at s c.at w

    g : c.refused ≡ 0
    g = within-going w s c f.unrefused

    e : ue_within w s c ≡ ue_after w s c (zeros_at s c.at w)
    e = within-is w s c g

    split : (t : Bool) → ltb (zeros_at s c.at w) w ≡ t → Took s c (ue_code (ue_within w s c).value) (ue_within w s c).next
    split true q =
        let z = zeros_at s c.at w in
        let l : z < w = ltb-true _ _ q in
        let f₁ : Going s (cursor_at (onward s c.at (z * 2 + 1))) = rw (e, q) at f in
        let i = onward_in s c.at (z * 2 + 1) f₁.inside in
        let r = run_of s w c.at l (omega arith) in
        let t : Took s c (ue_code (2 ^ z - 1 + bits_at s (c.at + z + 1) z)) (cursor_at (onward s c.at (z * 2 + 1))) =
        record {
          going = record { unrefused = g; inside = omega arith };
          bits = rw (onward-is s c.at (z * 2 + 1) (omega arith)) (code-there s c.at z r.0 r.1 (omega arith));
        } in
        rw (e, q) t
    split false q =
        let f₁ : Going s (refusal c 6) = rw (e, q) at f in
        absurd (omega (arith, f₁.unrefused))

pub ue-took : (s : List ℕ) (c : Cursor) → Going s (ue_read s c).next → Took s c (ue_code (ue_read s c).value) (ue_read s c).next
ue-took s c f = rw (ue-is s c) (ue-took-within 32 s c (rw (ue-is s c) at f))

-- ---- se(v)
pub se-took : (s : List ℕ) (c : Cursor) → Going s (se_read s c).next → Took s c (se_code (se_read s c).value) (se_read s c).next
unfolding se_read se_code
se-took s c f = rw (code-signed (ue_read s c).value) (ue-took s c f)

pub se-small : (s : List ℕ) (c : Cursor) → code_num (se_read s c).value < 4294967295
unfolding se_read
se-small s c = rw (code-signed (ue_read s c).value) (ue-small s c)
