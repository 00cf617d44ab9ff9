-- A stream of symbols is its bits and its first refusal.
use Rattle.std.specs.Prelude.{ℕ, ◌+◌, ◌%◌, ◌≤◌, ◌<◌, Bool, true, false, List, [], ◌∷◌, ◌≡◌, refl, ltb, length}
use Rattle.std.proofs.Common.{arith, sym, ap, ap₂, ◌∙◌, ltb-true, ltb-false}
use Rattle.codes.specs.Symbols.{Symbol, bit, refuse, first, first_assoc, first-right, refusal_in, bits_in}
use Rattle.bit_writer.specs.Writing.{Writing, place, joined, behind_byte, coded, coded_run, put_raw, put_raws, put_byte, put_bit, feed, with_refusal, step, play, trailing_bits}
use Rattle.bit_writer.specs.Chunks.{bit_open, bit-whole, byte_leaves}

-- ---- bits look at no refusal
pub raws_refusal : (bs : List ℕ) (w : Writing) (r : ℕ) → put_raws (with_refusal w r) bs ≡ with_refusal (put_raws w bs) r
unfolding put_raws put_raw
raws_refusal [] w r = refl
raws_refusal (b ∷ bs) w r = raws_refusal bs (put_raw w b) r

byte-refusal : (w : Writing) (r b : ℕ) → put_byte (with_refusal w r) b ≡ with_refusal (put_byte w b) r
unfolding put_byte
byte-refusal w r b = ap (λ (x : Writing). behind_byte x (coded_run w.sink.escape w.sink.zeros b)) (raws_refusal (coded w.sink.escape w.sink.zeros b) w r)

bit-refusal : (w : Writing) (r b : ℕ) → put_bit (with_refusal w r) b ≡ with_refusal (put_bit w b) r
bit-refusal w r b = split (ltb (place w.sink) 7) refl
  where
    split : (t : Bool) → ltb (place w.sink) 7 ≡ t → put_bit (with_refusal w r) b ≡ with_refusal (put_bit w b) r
    split true e =
        let h : place w.sink < 7 = ltb-true _ _ e in
        bit_open (with_refusal w r) b h ∙ ap (λ (x : Writing). with_refusal x r) (sym (bit_open w b h))
    split false e =
        let h : 7 ≤ place w.sink = ltb-false _ _ e in
        bit-whole (with_refusal w r) b h ∙ byte-refusal w r (joined w.sink.cur b) ∙ ap (λ (x : Writing). with_refusal x r) (sym (bit-whole w b h))

pub feed-refusal : (bs : List ℕ) (w : Writing) (r : ℕ) → feed (with_refusal w r) bs ≡ with_refusal (feed w bs) r
unfolding feed
feed-refusal [] w r = refl
feed-refusal (b ∷ bs) w r = ap (λ (x : Writing). feed x bs) (bit-refusal w r b) ∙ feed-refusal bs (put_bit w b) r

-- so they leave it as it is
bit_keeps : (w : Writing) (b : ℕ) → (put_bit w b).sink.refused ≡ w.sink.refused
bit_keeps w b = ap (λ (x : Writing). x.sink.refused) (bit-refusal w w.sink.refused b)

-- ---- the meaning of a stream
pub played : (xs : List Symbol) (w : Writing) → play w xs ≡ with_refusal (feed w (bits_in xs)) (first w.sink.refused (refusal_in xs))
unfolding play step feed bits_in refusal_in
played [] w = sym (ap (with_refusal w) (first-right w.sink.refused))
played (bit b ∷ xs) w =
    played xs (put_bit w b) ∙ ap (λ (r : ℕ). with_refusal (feed (put_bit w b) (bits_in xs)) (first r (refusal_in xs))) (bit_keeps w b)
played (refuse n ∷ xs) w =
    let r = first w.sink.refused n in
    played xs (with_refusal w r)
    ∙ ap₂ (λ (x : Writing) (k : ℕ). with_refusal x k) (feed-refusal (bits_in xs) w r) (sym (first_assoc w.sink.refused n (refusal_in xs)))

-- ---- the place in a byte follows the count of bits
place-step : (w : Writing) (b : ℕ) → place (put_bit w b).sink ≡ (w.sink.have + 1) % 8
place-step w b = split (ltb (place w.sink) 7) refl
  where
    split : (t : Bool) → ltb (place w.sink) 7 ≡ t → place (put_bit w b).sink ≡ (w.sink.have + 1) % 8
    split true e =
        let h : place w.sink < 7 = ltb-true _ _ e in
        ap (λ (x : Writing). place x.sink) (bit_open w b h) ∙ omega arith
    split false e =
        let h : 7 ≤ place w.sink = ltb-false _ _ e in
        let z = (byte_leaves w (joined w.sink.cur b)).1 in
        ap (λ (x : Writing). place x.sink) (bit-whole w b h) ∙ omega (arith, z)

pub place_after : (bs : List ℕ) (w : Writing) → place (feed w bs).sink ≡ (w.sink.have + length bs) % 8
unfolding feed
place_after [] w = omega arith
place_after (b ∷ bs) w = place_after bs (put_bit w b) ∙ omega (arith, place-step w b)

-- the trailing bits ask for no more than that place
pub trailing-place : (m n : ℕ) → m % 8 ≡ n % 8 → trailing_bits m ≡ trailing_bits n
unfolding trailing_bits
trailing-place m n e = rw e
