-- Codes read back: where the bytes hold the code of a value, the reader gives that value and moves by the code's length, whatever follows.
use Rattle.std.specs.Prelude.{ℕ, zero, suc, ◌+◌, ◌*◌, ◌^◌, ◌≤◌, ◌<◌, ◌≡◌, refl, List, true, ℤ}
use Rattle.std.proofs.Common.{sym, ap, subst, ◌∙◌, add-zero, add-suc, suc-add, zero-mul, suc-mul, mod-eq_of_lt, add-one, arith, pow_pos, pow_mono}
use Rattle.codes.specs.Bits.{to_bits}
use Rattle.codes.specs.Bytes.{bit_count, bit_at, bits_at, bit-lt, bits-lt, bits-append, bits-first}
use Rattle.codes.specs.Holds.{Holds, holds-number}
use Rattle.codes.specs.ExpGolomb.{floor_log2, log2_between, log2_below, ue_code, ue-code-number, signed_of, code_num, signed-code, se_code}
use Rattle.bit_reader.specs.declared.BitsRead.{BitsRead}
use Rattle.bit_reader.specs.Reading.{cursor_at, u_read, stops, zeros_at, ue_within, ue_read, se_read}
use Rattle.bit_reader.specs.Laws.{onward-is, u-made, zeros-none, zeros-more, stops-one, stops-not, ue-made, ue-is}

-- ---- u(n)
pub u-reads-back : (s : List ℕ) (at to n v : ℕ) → v < 2 ^ n → Holds s at (to_bits n v) to → u_read s (cursor_at at) n ≡ record { value = v; next = cursor_at to }
u-reads-back s at to n v h t =
    let e = holds-number s at to n v t in
    sym (u-made s (cursor_at at) n v to refl (sym (e.0 ∙ mod-eq_of_lt h)) (sym e.1 ∙ sym (onward-is s at n (omega (arith, e.1, t.inside)))))

-- ---- ue(v)
-- x blocks of p and r more are below p: no block
no_block : (x p r n : ℕ) → x * p + r ≡ n → n < p → (x ≡ 0) × (r ≡ n)
no_block zero p r n e h = omega (arith, zero-mul p)
no_block (suc x) p r n e h = omega (arith, suc-mul x p)

-- at most one block of p and fewer than p more are at least p: one block
one_block : (x p r n : ℕ) → x * p + r ≡ n → p ≤ n → r < p → x < 2 → (x ≡ 1) × (r + p ≡ n)
one_block zero p r n e h l b = omega (arith, zero-mul p)
one_block (suc x) p r n e h l b =
    let z : x ≡ 0 = omega arith in
    omega (arith, suc-mul x p, ap (λ (y : ℕ). y * p) z ∙ zero-mul p)

-- k zeros, and then a stop
pub zeros-run : (s : List ℕ) (k f at : ℕ) → k ≤ f → at + k ≤ bit_count s → bits_at s at k ≡ 0 → stops s (at + k) ≡ true → zeros_at s at f ≡ k
zeros-run s zero f at h l z e = zeros-none s at f (rw (add-zero at) at e)
zeros-run s (suc k) zero at h l z e = omega arith
zeros-run s (suc k) (suc f) at h l z e =
    let parts = no_block (bit_at s at) (2 ^ k) (bits_at s (at + 1) k) 0 (sym (bits-first s at k) ∙ z) (pow_pos k) in
    let there : stops s ((at + 1) + k) ≡ true = rw (add-suc at k, ← suc-add at k, ← add-one at) at e in
    zeros-more s at f (stops-not s at (omega arith) (λ q. omega arith))
    ∙ ap suc (zeros-run s k f (at + 1) (omega arith) (omega arith) parts.1 there)

-- v + 1 in 2k + 1 bits, with 2^k ≤ v + 1 < 2^(k + 1), is read as v
number-reads-back : (w : ℕ) (s : List ℕ) (at k v : ℕ) → k < w → 2 ^ k ≤ v + 1 → v + 1 < 2 ^ suc k → at + (k * 2 + 1) ≤ bit_count s → bits_at s at (k + suc k) ≡ v + 1
    → ue_within w s (cursor_at at) ≡ record { value = v; next = cursor_at (at + (k * 2 + 1)) }
number-reads-back w s at k v b lo hi l e =
    let head = no_block (bits_at s at k) (2 ^ suc k) (bits_at s (at + k) (suc k)) (v + 1) (sym (bits-append s at k (suc k)) ∙ e) hi in
    let tail = one_block (bit_at s (at + k)) (2 ^ k) (bits_at s (at + k + 1) k) (v + 1) (sym (bits-first s (at + k) k) ∙ head.1) lo (bits-lt s (at + k + 1) k) (bit-lt s (at + k)) in
    sym (ue-made s (cursor_at at) w k v (at + (k * 2 + 1)) refl
    (sym (zeros-run s k w at (omega arith) (omega arith) head.0 (stops-one s (at + k) tail.0)))
    b (omega (arith, pow_pos k)) (sym (onward-is s at (k * 2 + 1) l)))

-- of any width: a value whose code number v + 1 has at most w bits
pub ue-reads-back-within : (w : ℕ) (s : List ℕ) (at to v : ℕ) → v + 1 < 2 ^ w → Holds s at (ue_code v) to → ue_within w s (cursor_at at) ≡ record { value = v; next = cursor_at to }
ue-reads-back-within w s at to v h t =
    let k = floor_log2 (v + 1) in
    let b = log2_between (v + 1) (omega arith) in
    let held : Holds s at (to_bits (k + suc k) (v + 1)) to = subst (λ (l : List ℕ). Holds s at l to) (ue-code-number k v b.0 b.1) t in
    let e = holds-number s at to (k + suc k) (v + 1) held in
    let m : v + 1 < 2 ^ (k + suc k) = omega (arith, b.1, pow_mono {i = suc k} {j = k + suc k} (omega arith)) in
    let q : at + (k * 2 + 1) ≡ to = omega (arith, e.1) in
    number-reads-back w s at k v (log2_below (v + 1) w (omega arith) h) b.0 b.1 (omega (arith, q, t.inside)) (e.0 ∙ mod-eq_of_lt m)
    ∙ ap (λ (p : ℕ). record { value = v; next = cursor_at p }) q

pub ue-reads-back : (s : List ℕ) (at to v : ℕ) → v < 4294967295 → Holds s at (ue_code v) to → ue_read s (cursor_at at) ≡ record { value = v; next = cursor_at to }
ue-reads-back s at to v h t = ue-is s (cursor_at at) ∙ ue-reads-back-within 32 s at to v (omega arith) t

-- ---- se(v), through its code number
pub se-reads-back : (s : List ℕ) (at to : ℕ) (v : ℤ) → code_num v < 4294967295 → Holds s at (se_code v) to → se_read s (cursor_at at) ≡ record { value = v; next = cursor_at to }
unfolding se_read se_code
se-reads-back s at to v h t =
    let e = ue-reads-back s at to (code_num v) h t in
    ap (λ (r : BitsRead). record { value = signed_of r.value; next = r.next }) e
    ∙ ap (λ (z : ℤ). record { value = z; next = cursor_at to }) (signed-code v)
