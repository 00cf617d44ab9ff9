-- Laws on lent tables: a table that is blank, one that is filled from the front, one that bytes are laid over.
use Rattle.std.specs.Prelude.{◌≡◌, List, [], ◌∷◌, ◌++◌, ℕ, zero, suc, ◌+◌, ◌<◌, ◌≤◌, length, set, replicate, get_or}
use Rattle.std.proofs.Math.Path.{refl, ap}
use Rattle.std.proofs.Common.{sym, ◌∙◌, append-nil, zero-add, add-zero, add-suc, suc-add, not-suc-le-zero, le_of_suc-le-suc, add-one, arith, length-append, length-drop, drop_of_length-le}
use Rattle.std.proofs.Math.ListN.{drop, length-replicate, get_or-eq_default}
use Rattle.std.proofs.lemmas.List.Edits.{sets}
use Rattle.std.proofs.Math.Seq.{sets-eq}

module _ {A : Type 0} where
  -- n places that all hold v. Shut, so that a thousand of them are not written out
  unfoldable pub blank : ℕ → A → List A
  blank n v = replicate n v

  -- a table after xs was laid over its front: xs, then what stood behind them
  unfoldable pub over : List A → List A → List A
  over xs t = xs ++ drop (length xs) t

  -- ---- blank
  pub blank-length : (n : ℕ) (v : A) → length (blank n v) ≡ n
  unfolding blank
  blank-length n v = length-replicate n v

  -- ---- a front of n places that hold v, as a loop makes it
  pub blank-begins : (v : A) (t : List A) → t ≡ blank 0 v ++ drop 0 t
  unfolding blank
  blank-begins v t = refl

  grows : (n : ℕ) (v : A) (t : List A) → n < length t → set (replicate n v ++ drop n t) n v ≡ replicate (suc n) v ++ drop (suc n) t
  grows n v [] l = absurd (not-suc-le-zero l)
  grows zero v (x ∷ t) l = refl
  grows (suc n) v (x ∷ t) l = ap (λ (u : List A). v ∷ u) (grows n v t (le_of_suc-le-suc l))

  pub blank-grows : (n : ℕ) (v : A) (t : List A) → n < length t → set (blank n v ++ drop n t) n v ≡ blank (n + 1) v ++ drop (n + 1) t
  unfolding blank
  blank-grows n v t l = rw (add-one n) (grows n v t l)

  pub blank-whole : (n : ℕ) (v : A) (t : List A) → n ≡ length t → blank n v ++ drop n t ≡ blank (length t) v
  blank-whole n v t e =
      let h : length t ≤ n = omega arith in
      rw (drop_of_length-le t h) (append-nil (blank n v) ∙ ap (λ (k : ℕ). blank k v) e)

  -- ---- a place outside
  pub past_table : (t : List A) (v : A) (i : ℕ) → length t ≤ i → v ≡ get_or t i v
  past_table t v i h = sym (get_or-eq_default t v h)

  -- ---- any front
  pub front_length : (p t : List A) (i : ℕ) → length p ≡ i → i ≤ length t → length (p ++ drop i t) ≡ length t
  front_length p t i e h = omega (arith, length-append p (drop i t), length-drop i t)

  pub front-whole : (p t : List A) (i : ℕ) → length t ≤ i → p ++ drop i t ≡ p
  front-whole p t i h = rw (drop_of_length-le t h) (append-nil p)

  -- ---- stores one behind the other
  pub sets_over : (t xs : List A) → length xs ≤ length t → sets t 0 xs ≡ over xs t
  unfolding over
  sets_over t xs h = sets-eq xs t 0 (omega arith) ∙ ap (λ (k : ℕ). xs ++ drop k t) (zero-add (length xs))

  pub sets_append : (xs ys t : List A) (i : ℕ) → sets t i (xs ++ ys) ≡ sets (sets t i xs) (i + length xs) ys
  sets_append [] ys t i = rw add-zero
  sets_append (x ∷ xs) ys t i = rw (add-suc, ← suc-add) (sets_append xs ys (set t i x) (suc i))

  pub over-length : (xs t : List A) → length xs ≤ length t → length (over xs t) ≡ length t
  unfolding over
  over-length xs t h = front_length xs t (length xs) refl h
