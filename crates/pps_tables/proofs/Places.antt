-- Where the entries' split heights stand in their table, as `split_heights_of` gives them: a place that is counted on past
-- the table, held within it.
use Rattle.std.specs.Prelude.{zero, suc, ◌-◌, [], ◌∷◌, ℕ, ◌+◌, ◌≤◌, ◌<◌, min, ◌≡◌, refl, List, Bool, true, false, ltb, length, take, drop}
use Rattle.std.proofs.Common.{ap, arith, length-drop, drop_of_length-le, ltb-true, ltb-false}
use Rattle.std.proofs.lemmas.List.{length-take}
use Rattle.std.proofs.Math.Seq.{take-nil}

module _ (l : List ℕ) (c j from : ℕ) (held : from ≡ min (length l) j) where
  pub heights_at : take c (drop from l) ≡ take c (drop j l)
  heights_at = cases (ltb j (length l)) refl
    where
      cases : (b : Bool) → ltb j (length l) ≡ b → take c (drop from l) ≡ take c (drop j l)
      cases true e = let h : j < length l = ltb-true j (length l) e in let a : from ≡ j = omega arith in rw a refl
      cases false e =
          let h : length l ≤ j = ltb-false j (length l) e in
          let k : length l ≤ from = omega arith in
          rw (drop_of_length-le l h, drop_of_length-le l k) refl

  pub place_behind : from + length (take c (drop from l)) ≡ min (length l) (j + c)
  place_behind = omega (arith, length-take c (drop from l), length-drop from l)

-- ---- the part between two places that are held within the table
take-held : (c : ℕ) (l : List ℕ) → take (min (length l) c) l ≡ take c l
take-held c [] = rw (take-nil c, take-nil (min 0 c))
take-held zero (x ∷ l) = let z : min (suc (length l)) 0 ≡ 0 = omega arith in rw z
take-held (suc c) (x ∷ l) = let z : min (suc (length l)) (suc c) ≡ suc (min (length l) c) = omega arith in rw z (ap (λ (r : List ℕ). x ∷ r) (take-held c l))

pub heights-held : (l : List ℕ) (c j from to : ℕ) → from ≡ min (length l) j → to ≡ min (length l) (from + c) → take (to - from) (drop from l) ≡ take c (drop j l)
heights-held l c j from to p q = cases (ltb j (length l)) refl
  where
    cases : (b : Bool) → ltb j (length l) ≡ b → take (to - from) (drop from l) ≡ take c (drop j l)
    cases true e =
        let h : j < length l = ltb-true j (length l) e in
        let a : from ≡ j = omega arith in
        let b : to - from ≡ min (length (drop j l)) c = omega (arith, length-drop j l) in
        rw (b, a) (take-held c (drop j l))
    cases false e =
        let h : length l ≤ j = ltb-false j (length l) e in
        let k : length l ≤ from = omega arith in
        rw (drop_of_length-le l h, drop_of_length-le l k, take-nil {A = ℕ} c, take-nil {A = ℕ} (to - from))
