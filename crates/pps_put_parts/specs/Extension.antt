-- The extension bits as they are put.
use Rattle.std.specs.Prelude.{ℕ, zero, suc, ◌+◌, ◌-◌, ◌^◌, ◌≤◌, ◌<◌, ◌≡◌, List, [], ◌∷◌, ◌++◌, true, false, eqb, length, get_or}
use Rattle.std.proofs.Common.{sym, ap, ◌∙◌, add-zero, arith, ne_eqb}
use Rattle.codes.specs.Bytes.{bit_at, bit_past, bit_list, bit_list-length}
use Rattle.codes.specs.Symbols.{putting, check}
use Rattle.bit_writer.specs.Writing.{Writing}
use Rattle.bit_writer.specs.Stop.{play_on}
use Rattle.pps_record.specs.declared.VvcPps.{VvcPps}
use Rattle.pps_syntax.specs.FromRecord.{extension_from}
use Rattle.pps_syntax.specs.Written.{end_in_one, extension_symbols}

-- the last of n + 1 bits
last_bit : (s : List ℕ) (n at : ℕ) → get_or (bit_list s at (suc n)) n 0 ≡ bit_at s (at + n)
unfolding bit_list
last_bit s zero at = ap (bit_at s) (sym (add-zero at))
last_bit s (suc n) at = last_bit s n (at + 1) ∙ ap (bit_at s) (let z : at + 1 + n ≡ at + suc n = omega arith in z)

by_last : (l : List ℕ) (n : ℕ) → length l ≡ suc n → end_in_one l ≡ eqb (get_or l n 0) 1
by_last [] n e = absurd (omega arith)
by_last (b ∷ bs) n e = let k : length bs ≡ n = omega arith in rw k

pub ends-none : (s : List ℕ) (at n : ℕ) → n ≡ 0 → true ≡ end_in_one (bit_list s at n)
unfolding bit_list
ends-none s at n e = rw e

pub ends_by : (s : List ℕ) (at n : ℕ) {b : ℕ} → 0 < n → b ≡ bit_at s (at + (n - 1)) → eqb b 1 ≡ end_in_one (bit_list s at n)
ends_by s at zero l e = absurd (omega arith)
ends_by s at (suc n) l e =
    let k : suc n - 1 ≡ n = omega arith in
    ap (λ (x : ℕ). eqb x 1) (e ∙ ap (λ (m : ℕ). bit_at s (at + m)) k ∙ sym (last_bit s n at)) ∙ sym (by_last (bit_list s at (suc n)) n (bit_list-length s at (suc n)))

-- a bit that no byte string reaches is 0
pub ends-far : (s : List ℕ) (at n : ℕ) → 0 < n → 2 ^ 64 ≤ at + (n - 1) → false ≡ end_in_one (bit_list s at n)
ends-far s at n l h = ends_by s at n {b = 0} l (sym (bit_past s (at + (n - 1)) (omega arith)))

-- ---- with the flag, and without it
pub extension-none : (w : Writing) (flag : ℕ) (r : VvcPps) (s : List ℕ) {x : Writing} → flag ≡ 0 → x ≡ play_on w (check (eqb r.pps_extension_data_bits 0) 26) → x ≡ play_on w (extension_symbols flag (extension_from r s))
unfolding extension_symbols extension_from
extension-none w flag r s e h = h ∙ rw (e, bit_list-length s r.pps_extension_data_first_bit r.pps_extension_data_bits)

pub extension-some : (w : Writing) (flag : ℕ) (r : VvcPps) (s : List ℕ) {x : Writing} → (flag ≡ 0 → ⊥)
    → x ≡ play_on w (check (end_in_one (bit_list s r.pps_extension_data_first_bit r.pps_extension_data_bits)) 28 ++ putting (bit_list s r.pps_extension_data_first_bit r.pps_extension_data_bits))
    → x ≡ play_on w (extension_symbols flag (extension_from r s))
unfolding extension_symbols extension_from
extension-some w flag r s f h = rw (ne_eqb flag 0 (λ z. f z)) h
