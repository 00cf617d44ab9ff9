-- One number of each slice of a plan, in a table of its own.
use Rattle.std.specs.Prelude.{ℕ, zero, suc, ◌+◌, ◌<◌, ◌≤◌, ◌≡◌, refl, List, [], ◌∷◌, ◌++◌, map, length, get_or, set, take, drop}
use Rattle.std.proofs.Common.{ap, ◌∙◌, arith}
use mathlib.Core.List.{append-nil}
use Rattle.std.proofs.lemmas.List.{take_all, drop_all}

module _ {A : Type 0} (f : A → ℕ) where
  -- the first i are there
  abbrev pub Spread : List A → List ℕ → List ℕ → ℕ → Type 0
  Spread s t u i = u ≡ map f (take i s) ++ drop i t

  pub spread-more : (s : List A) (t : List ℕ) (i : ℕ) (d : A) → length t ≡ length s → i < length s → (u : List ℕ) → Spread s t u i → Spread s t (set u i (f (get_or s i d))) (i + 1)
  spread-more [] t i d l h u e = absurd (omega arith)
  spread-more (x ∷ s) [] i d l h u e = absurd (omega arith)
  spread-more (x ∷ s) (n ∷ t) zero d l h u e = rw e
  spread-more (x ∷ s) (n ∷ t) (suc i) d l h u e =
      let k : suc i + 1 ≡ suc (i + 1) = omega arith in
      rw (e, k) (ap (λ (v : List ℕ). f x ∷ v) (spread-more s t i d (omega arith) (omega arith) _ refl))

  pub spread-all : (s : List A) (t u : List ℕ) (i : ℕ) → length t ≡ length s → length s ≤ i → Spread s t u i → u ≡ map f s
  spread-all s t u i l h e = e ∙ rw (take_all i s h, drop_all i t (omega arith)) (append-nil (map f s))
