-- Writing that stops at its first refusal: what a hostile record says behind one has no bound, so nothing of it is put. Where nothing is refused this is the
-- writing that goes on (`on_whole`), and the refusal is always that of the whole stream (`on_refusal`).
use Rattle.std.specs.Prelude.{ℕ, ◌<◌, ◌≡◌, refl, Bool, true, false, cond, eqb}
use Rattle.std.proofs.Math.Path.{sym}
use Rattle.std.proofs.Common.{ap, ◌∙◌, arith, eq-eqb, ne_eqb, eqb-true}
use mathlib.Core.List.{List, [], ◌∷◌, ◌++◌}
use Rattle.std.proofs.lemmas.Bool.{eqb-false}
use Rattle.codes.specs.Coded.{only_if}
use Rattle.codes.specs.Symbols.{Symbol, bit, refuse, first, first-left, first-none, refusal_in, putting, check, checked, check-true, check-false}
use Rattle.bit_writer.specs.Writing.{Writing, with_refusal, step, play, play-none}
use Rattle.bit_writer.specs.Played.{played}

-- the symbols up to the first refusal
unfoldable pub up_to_refusal : List Symbol → List Symbol
up_to_refusal [] = []
up_to_refusal (bit b ∷ xs) = bit b ∷ up_to_refusal xs
up_to_refusal (refuse n ∷ xs) = refuse n ∷ only_if (eqb n 0) (up_to_refusal xs)

-- what a stream of symbols leaves where nothing is put behind a refusal, be it one of the stream or an earlier one
unfoldable pub play_on : Writing → List Symbol → Writing
play_on w [] = w
play_on w (x ∷ xs) = play_on (cond (eqb w.sink.refused 0) (step w x) w) xs

-- ---- one stream behind another
pub on_none : (w : Writing) → play_on w [] ≡ w
unfolding play_on
on_none w = refl

pub on-append : (w : Writing) (xs ys : List Symbol) → play_on w (xs ++ ys) ≡ play_on (play_on w xs) ys
unfolding play_on
on-append w [] ys = refl
on-append w (x ∷ xs) ys = on-append (cond (eqb w.sink.refused 0) (step w x) w) xs ys

pub on_then : (w : Writing) {a b : Writing} (xs ys : List Symbol) → a ≡ play_on w xs → b ≡ play_on a ys → b ≡ play_on w (xs ++ ys)
on_then w xs ys p q = q ∙ ap (λ (x : Writing). play_on x ys) p ∙ sym (on-append w xs ys)

-- ---- behind a refusal
pub on-refused : (w : Writing) (xs : List Symbol) → (w.sink.refused ≡ 0 → ⊥) → play_on w xs ≡ w
unfolding play_on
on-refused w [] h = refl
on-refused w (x ∷ xs) h = rw (ne_eqb w.sink.refused 0 (λ e. h e)) (on-refused w xs h)

-- before one
on_go : (w : Writing) (x : Symbol) (xs : List Symbol) → w.sink.refused ≡ 0 → play_on w (x ∷ xs) ≡ play_on (step w x) xs
unfolding play_on
on_go w x xs h = ap (λ (t : Bool). play_on (cond t (step w x) w) xs) (eq-eqb w.sink.refused 0 h)

play-go : (w : Writing) (x : Symbol) (xs : List Symbol) → play w (x ∷ xs) ≡ play (step w x) xs
unfolding play
play-go w x xs = refl

-- ---- bits and tests
bit_leaves : (w : Writing) (b : ℕ) → (step w (bit b)).sink.refused ≡ w.sink.refused
unfolding play step refusal_in first
bit_leaves w b = ap (λ (x : Writing). x.sink.refused) (played (bit b ∷ []) w) ∙ split (eqb w.sink.refused 0) refl
  where
    split : (t : Bool) → eqb w.sink.refused 0 ≡ t → cond t 0 w.sink.refused ≡ w.sink.refused
    split true e = sym (eqb-true _ _ e)
    split false e = refl

pub on-bits : (w : Writing) (bs : List ℕ) → w.sink.refused ≡ 0 → play_on w (putting bs) ≡ play w (putting bs)
on-bits w [] h = on_none w ∙ sym (play-none w)
on-bits w (b ∷ bs) h = on_go w (bit b) (putting bs) h ∙ on-bits (step w (bit b)) bs (bit_leaves w b ∙ h) ∙ sym (play-go w (bit b) (putting bs))

on-refuse : (w : Writing) (n : ℕ) → play_on w (refuse n ∷ []) ≡ play w (refuse n ∷ [])
unfolding play_on play step first
on-refuse w n = split (eqb w.sink.refused 0) refl
  where
    split : (t : Bool) → eqb w.sink.refused 0 ≡ t → cond t (with_refusal w (cond (eqb w.sink.refused 0) n w.sink.refused)) w ≡ with_refusal w (cond t n w.sink.refused)
    split true e = rw e
    split false e = refl

pub on-check : (w : Writing) (ok : Bool) (n : ℕ) → play_on w (check ok n) ≡ play w (check ok n)
unfolding check
on-check w true n = on_none w ∙ sym (play-none w)
on-check w false n = split (eqb n 0)
  where
    split : (t : Bool) → play_on w (cond t [] (refuse n ∷ [])) ≡ play w (cond t [] (refuse n ∷ []))
    split true = on_none w ∙ sym (play-none w)
    split false = on-refuse w n

-- a test that was made and left no refusal held, and there was none before it
pub passed : (w : Writing) (ok : Bool) (n : ℕ) {a : Writing} → 0 < n → a ≡ play w (check ok n) → a.sink.refused ≡ 0 → (ok ≡ true) × (a ≡ w)
unfolding play step
passed w true n l e h = (refl, e ∙ ap (play w) (check-true true n refl) ∙ play-none w)
passed w false n {a} l e h = absurd (let z = (first-none w.sink.refused n (sym (ap (λ (x : Writing). x.sink.refused) (e ∙ refused)) ∙ h)).1 in omega arith)
  where
    refused : play w (check false n) ≡ with_refusal w (first w.sink.refused n)
    refused = rw (check-false false n refl l)

module _ (w : Writing) (ok : Bool) (n : ℕ) (bs : List ℕ) {a : Writing} (made : a ≡ play w (check ok n)) where
  -- bits behind a test: the test fails ..
  pub stopped : (a.sink.refused ≡ 0 → ⊥) → a ≡ play_on w (checked ok n bs)
  unfolding checked
  stopped h = on_then w (check ok n) (putting bs) (made ∙ sym (on-check w ok n)) (sym (on-refused a (putting bs) h))

  -- .. or they are put
  pub went_on : {v : Writing} → 0 < n → a.sink.refused ≡ 0 → v ≡ play a (checked ok n bs) → v ≡ play_on w (checked ok n bs)
  unfolding checked
  went_on l h e =
      let p = passed w ok n l made h in
      let none : check ok n ≡ [] = check-true ok n p.0 in
      on_then w (check ok n) (putting bs) (made ∙ sym (on-check w ok n)) (e ∙ rw none (sym (on-bits a bs h)))

-- ---- beside the writing that goes on
refuse_leaves : (w : Writing) (n : ℕ) → w.sink.refused ≡ 0 → (step w (refuse n)).sink.refused ≡ n
unfolding step first
refuse_leaves w n h = rw (eq-eqb w.sink.refused 0 h)

pub on-play : (w : Writing) (xs : List Symbol) → w.sink.refused ≡ 0 → play_on w xs ≡ play w (up_to_refusal xs)
unfolding up_to_refusal
on-play w [] h = on_none w ∙ sym (play-none w)
on-play w (bit b ∷ xs) h = on_go w (bit b) xs h ∙ on-play (step w (bit b)) xs (bit_leaves w b ∙ h) ∙ sym (play-go w (bit b) (up_to_refusal xs))
on-play w (refuse n ∷ xs) h = on_go w (refuse n) xs h ∙ split (λ z. on-play (step w (refuse n)) xs z) (eqb n 0) refl ∙ sym (play-go w (refuse n) (only_if (eqb n 0) (up_to_refusal xs)))
  where
    split : ((step w (refuse n)).sink.refused ≡ 0 → play_on (step w (refuse n)) xs ≡ play (step w (refuse n)) (up_to_refusal xs))
        → (t : Bool) → eqb n 0 ≡ t → play_on (step w (refuse n)) xs ≡ play (step w (refuse n)) (only_if t (up_to_refusal xs))
    split ih true e = ih (refuse_leaves w n h ∙ eqb-true n 0 e)
    split ih false e = on-refused (step w (refuse n)) xs (λ z. eqb-false n 0 e (sym (refuse_leaves w n h) ∙ z)) ∙ sym (play-none _)

pub same-refusal : (xs : List Symbol) → refusal_in (up_to_refusal xs) ≡ refusal_in xs
unfolding up_to_refusal refusal_in first
same-refusal [] = refl
same-refusal (bit b ∷ xs) = same-refusal xs
same-refusal (refuse n ∷ xs) = split (same-refusal xs) (eqb n 0) refl
  where
    split : refusal_in (up_to_refusal xs) ≡ refusal_in xs → (t : Bool) → eqb n 0 ≡ t → cond t (refusal_in (only_if t (up_to_refusal xs))) n ≡ cond t (refusal_in xs) n
    split ih true e = ih
    split ih false e = refl

pub unrefused-whole : (xs : List Symbol) → refusal_in xs ≡ 0 → up_to_refusal xs ≡ xs
unfolding up_to_refusal refusal_in
unrefused-whole [] h = refl
unrefused-whole (bit b ∷ xs) h = ap (λ (l : List Symbol). bit b ∷ l) (unrefused-whole xs h)
unrefused-whole (refuse n ∷ xs) h =
    let p = first-none n (refusal_in xs) h in
    rw (eq-eqb n 0 p.0) (ap (λ (l : List Symbol). refuse n ∷ l) (unrefused-whole xs p.1))

-- the writing that stops has the refusal of the whole stream, and where there is none it is the writing that goes on
pub on_refusal : (w : Writing) (xs : List Symbol) → w.sink.refused ≡ 0 → (play_on w xs).sink.refused ≡ refusal_in xs
on_refusal w xs z =
    ap (λ (x : Writing). x.sink.refused) (on-play w xs z ∙ played (up_to_refusal xs) w)
    ∙ ap (λ (k : ℕ). first k (refusal_in (up_to_refusal xs))) z ∙ first-left (refusal_in (up_to_refusal xs)) ∙ same-refusal xs

pub on_whole : (w : Writing) (xs : List Symbol) → w.sink.refused ≡ 0 → refusal_in xs ≡ 0 → play_on w xs ≡ play w xs
on_whole w xs z h = on-play w xs z ∙ ap (play w) (unrefused-whole xs h)
