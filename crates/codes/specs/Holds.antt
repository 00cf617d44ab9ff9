-- That a byte string holds given bits from one position to another: what a reader takes and a writer puts.
use Rattle.std.specs.Prelude.{ℕ, ◌+◌, ◌%◌, ◌^◌, ◌≤◌, ◌≡◌, refl, List, [], ◌++◌, length, take, drop}
use Rattle.std.proofs.Common.{sym, ap, ap₂, ◌∙◌, add-zero, arith, length-append, take_at, drop_at}
use Rattle.codes.specs.Bits.{to_bits, to_bits-length, number, number-to_bits}
use Rattle.codes.specs.Bytes.{bit_count, bits_at, bit_list, bit_list-length, bit_list-append, bit_list-number, bit_list-to_bits}

pub record Holds (s : List ℕ) (from : ℕ) (bs : List ℕ) (to : ℕ) : Type 0 where
  pub reaches : from + length bs ≡ to
  pub inside : to ≤ bit_count s
  pub same : bit_list s from (length bs) ≡ bs

pub holds-none : {s : List ℕ} {at : ℕ} → at ≤ bit_count s → Holds s at [] at
unfolding bit_list
holds-none {s} {at} h = record { reaches = add-zero at; inside = h; same = refl }

-- one run behind another
pub holds-append : {s : List ℕ} {a b c : ℕ} {xs ys : List ℕ} → Holds s a xs b → Holds s b ys c → Holds s a (xs ++ ys) c
holds-append {s} {a} {b} {c} {xs} {ys} p q =
    let l : length (xs ++ ys) ≡ length xs + length ys = length-append xs ys in
    record {
      reaches = omega arith;
      inside = q.inside;
      same = rw (l, bit_list-append s (length xs) a (length ys), p.reaches) (ap₂ (λ (x y : List ℕ). x ++ y) p.same q.same);
    }

-- and taken apart again
module _ {s : List ℕ} {a c : ℕ} (xs ys : List ℕ) (p : Holds s a (xs ++ ys) c) where
  both : bit_list s a (length xs) ++ bit_list s (a + length xs) (length ys) ≡ xs ++ ys
  both = sym (bit_list-append s (length xs) a (length ys)) ∙ rw (length-append xs ys) at p.same

  pub holds-left : Holds s a xs (a + length xs)
  holds-left =
      record {
        reaches = refl;
        inside = omega (arith, length-append xs ys, p.reaches, p.inside);
        same = sym (take_at (bit_list s a (length xs)) _ (length xs) (bit_list-length s a (length xs))) ∙ ap (take (length xs)) both ∙ take_at xs ys (length xs) refl;
      }

  pub holds-right : Holds s (a + length xs) ys c
  holds-right =
      record {
        reaches = omega (arith, length-append xs ys, p.reaches);
        inside = p.inside;
        same = sym (drop_at (bit_list s a (length xs)) _ (length xs) (bit_list-length s a (length xs))) ∙ ap (drop (length xs)) both ∙ drop_at xs ys (length xs) refl;
      }

-- the bits that are there
pub holds-bits : (s : List ℕ) (at n : ℕ) → at + n ≤ bit_count s → Holds s at (to_bits n (bits_at s at n)) (at + n)
holds-bits s at n h =
    let l = to_bits-length n (bits_at s at n) in
    record { reaches = ap (λ (k : ℕ). at + k) l; inside = h; same = ap (bit_list s at) l ∙ bit_list-to_bits s at n }

-- a number that is held
pub holds-number : (s : List ℕ) (at to n v : ℕ) → Holds s at (to_bits n v) to → (bits_at s at n ≡ v % 2 ^ n) × (at + n ≡ to)
holds-number s at to n v t =
    let l = to_bits-length n v in
    (sym (bit_list-number s at n) ∙ ap number (rw l at t.same) ∙ number-to_bits n v, rw l at t.reaches)
