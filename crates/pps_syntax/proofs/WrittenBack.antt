-- The round trip: writing the record of an accepted unit gives exactly the bytes that reading took.
use Rattle.std.proofs.lemmas.List.{nil_from_length}
use Rattle.std.specs.Prelude.{ℕ, zero, suc, ◌+◌, ◌-◌, ◌*◌, ◌%◌, ◌≤◌, ◌<◌, ◌≡◌, refl, List, [], ◌∷◌, ◌++◌, Bool, true, false, cond, eqb, length, get_or, replicate}
use Rattle.std.proofs.Common.{sym, ap, ◌∙◌, add-zero, arith, length-append, eq-eqb, ne_eqb}
use Rattle.codes.specs.Bytes.{bit_count, bit_at, bit_list, bit_list-length}
use Rattle.codes.specs.Holds.{Holds, holds-append}
use Rattle.codes.specs.Symbols.{Symbol, refusal_in, bits_in, putting, check, check-true, refusal-append, bits_in_append, refusal-putting, bits_in_putting, first-zero}
use Rattle.bit_writer.specs.Packed.{aligned, payload}
use Rattle.bit_writer.specs.Writing.{trailing_bits}
use Rattle.syntax.specs.Element.{Parsed}
use Rattle.syntax.specs.Elements.{is_set}
use Rattle.syntax.specs.Syntax.{symbols_for}
use Rattle.pps_syntax.specs.Pps.{Pps, pps}
use Rattle.pps_syntax.specs.Rbsp.{ReadSet, accepted, extension_for, read_rbsp}
use Rattle.pps_syntax.specs.ReadWhole.{fields_read}
use Rattle.pps_syntax.proofs.ReadWhole.{read_whole}
use Rattle.pps_syntax.specs.Written.{end_in_one, no_bits, extension_symbols, set_symbols}
use Rattle.pps_syntax.specs.WrittenBack.{Bytes, packed-back, extension_read, WrittenBack}

-- ---- the extension bits
-- what is held starts inside
holds_start : {s : List ℕ} {at to : ℕ} {bs : List ℕ} → Holds s at bs to → at ≤ bit_count s
holds_start h = omega (arith, h.reaches, h.inside)

held-bits : (s : List ℕ) (at n : ℕ) → at + n ≤ bit_count s → Holds s at (bit_list s at n) (at + n)
held-bits s at n h =
    let l = bit_list-length s at n in
    record { reaches = ap (λ (k : ℕ). at + k) l; inside = h; same = ap (bit_list s at) l }

-- the last of n bits
last_bit : (s : List ℕ) (n at : ℕ) → get_or (bit_list s at (suc n)) n 0 ≡ bit_at s (at + n)
unfolding bit_list
last_bit s zero at = ap (bit_at s) (sym (add-zero at))
last_bit s (suc n) at = last_bit s n (at + 1) ∙ ap (bit_at s) (let z : at + 1 + n ≡ at + suc n = omega arith in z)

-- `end_in_one` of a list that is not empty
one_last : (l : List ℕ) (n : ℕ) → length l ≡ suc n → get_or l n 0 ≡ 1 → end_in_one l ≡ true
one_last [] n e h = absurd (omega arith)
one_last (b ∷ bs) n e h = let k : length bs ≡ n = omega arith in rw k (eq-eqb (get_or (b ∷ bs) n 0) 1 h)

ends_in_one : (s : List ℕ) (at n : ℕ) → (0 < n → bit_at s (at + n - 1) ≡ 1) → end_in_one (bit_list s at n) ≡ true
unfolding bit_list
ends_in_one s at zero h = refl
ends_in_one s at (suc n) h =
    one_last (bit_list s at (suc n)) n (bit_list-length s at (suc n)) (last_bit s n at ∙ ap (bit_at s) (let z : at + n ≡ at + suc n - 1 = omega arith in z) ∙ h (omega arith))

-- without the flag there are none
none-without : (s : List ℕ) (p : Parsed Pps) → is_set p.value.back.picture_header.pps_extension_flag ≡ false → extension_for s p ≡ 0
unfolding extension_for
none-without s p e = rw e

record Extension (symbols : List Symbol) (bs : List ℕ) : Type 0 where
  accepted : refusal_in symbols ≡ 0
  bits : bits_in symbols ≡ bs

extension-written : (flag : ℕ) (s : List ℕ) (at n : ℕ) → (0 < n → bit_at s (at + n - 1) ≡ 1) → (is_set flag ≡ false → n ≡ 0) → Extension (extension_symbols flag (bit_list s at n)) (bit_list s at n)
unfolding extension_symbols
extension-written flag s at n last none = split (is_set flag) refl
  where
    bs : List ℕ
    bs = bit_list s at n

    split : (t : Bool) → is_set flag ≡ t → Extension (cond t (check (end_in_one (bit_list s at n)) 28 ++ putting (bit_list s at n)) (check (no_bits (bit_list s at n)) 26)) (bit_list s at n)
    split true e =
        rw (check-true (end_in_one (bit_list s at n)) 28 (ends_in_one s at n last)) (record { accepted = refusal-putting (bit_list s at n); bits = bits_in_putting (bit_list s at n) })
    split false e =
        let z : n ≡ 0 = none e in
        let k : length (bit_list s at n) ≡ 0 = bit_list-length s at n ∙ z in
        let empty : bit_list s at n ≡ [] = nil_from_length (bit_list s at n) k in
        rw (check-true (no_bits (bit_list s at n)) 26 (eq-eqb _ 0 k), empty) (record { accepted = refusal-putting []; bits = bits_in_putting [] })

-- ---- the round trip

first-place : (s : List ℕ) (n at : ℕ) → bit_list s (cond (eqb n 0) 0 at) n ≡ bit_list s at n
unfolding bit_list
first-place s zero at = refl
first-place s (suc n) at = rw (ne_eqb (suc n) 0 (λ e. absurd (omega arith)))

pub written_back : (rbsp : List ℕ) (a : ReadSet) → Bytes rbsp → read_rbsp rbsp ≡ accepted a → WrittenBack rbsp a
unfolding set_symbols payload aligned trailing_bits
written_back rbsp a b e =
    let w = read_whole rbsp a e in
    let at = (fields_read rbsp).next.at in
    let n = a.extension_count in
    let flag = a.set.back.picture_header.pps_extension_flag in
    let ext = bit_list rbsp at n in
    let fields = symbols_for pps a.set in
    let there : extension_read rbsp a ≡ ext = ap (λ (x : ℕ). bit_list rbsp x n) w.extension-first ∙ first-place rbsp n at in
    let none : is_set flag ≡ false → n ≡ 0 = λ q. w.extension-count ∙ none-without rbsp (fields_read rbsp) (ap (λ (r : Pps). is_set r.back.picture_header.pps_extension_flag) (sym w.set_is) ∙ q) in
    let x = extension-written flag rbsp at n w.extension-last none in
    let bits = bits_in fields in
    let reach : 0 + length bits ≡ at = w.fields.took.bits.reaches in
    let all : bits_in (fields ++ extension_symbols flag ext) ≡ bits ++ ext = bits_in_append fields (extension_symbols flag ext) ∙ ap (λ (l : List ℕ). bits ++ l) x.bits in
    let k : length (bits ++ ext) ≡ at + n = omega (arith, length-append bits ext, bit_list-length rbsp at n) in
    let held : Holds rbsp 0 (bits ++ ext) (at + n) = holds-append w.fields.took.bits (held-bits rbsp at n (omega (arith, holds_start w.trailing))) in
    let whole : Holds rbsp 0 ((bits ++ ext) ++ (1 ∷ replicate (7 - length (bits ++ ext) % 8) 0)) (a.bytes_taken * 8) = rw k (holds-append held w.trailing) in
    record {
      accepted = rw there (refusal-append fields (extension_symbols flag ext) ∙ first-zero _ _ w.fields.accepted x.accepted);
      bytes = rw (there, all) (packed-back rbsp (bits ++ ext) a.bytes_taken b whole);
    }
