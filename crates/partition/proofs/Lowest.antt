-- A right cover answer for every layout: the lowest tile in no slice, or else the lowest in several.
use Rattle.std.specs.Prelude.{◌≡◌, Bool, false, ℕ, ◌≤◌, leb, eqb}
use Rattle.std.proofs.Common.{arith, leb-true, leb-false, eqb-true}
use Rattle.std.proofs.lemmas.Bool.{eqb-false}
use Rattle.partition.specs.Cover.{RightTiles}
use Rattle.partition.specs.Lowest.{Found, at, nowhere, lowest, answer, lowest_cover, Lowest, lowest-is}

-- ---- it is right

pub lowest-right : (n : ℕ) (groups : ℕ → ℕ) → RightTiles n groups (lowest_cover n groups)
unfolding lowest_cover answer RightTiles Lowest
lowest-right n c = split (lowest none n) (lowest several n) (lowest-is none n) (lowest-is several n)
  where
    none : ℕ → Bool
    none t = eqb (c t) 0

    several : ℕ → Bool
    several t = leb 2 (c t)

    split : (a b : Found) → Lowest none n a → Lowest several n b → RightTiles n c (answer a b)
    split (at t) b p q = (p.0, eqb-true (c t) 0 p.1)
    split nowhere (at t) p q = ((λ s h. some s (p s h)), q.0, leb-true 2 (c t) q.1)
      where
        some : (s : ℕ) → eqb (c s) 0 ≡ false → 1 ≤ c s
        some s e = omega (arith, eqb-false (c s) 0 e)
    split nowhere nowhere p q = λ t h. omega (arith, eqb-false (c t) 0 (p t h), leb-false 2 (c t) (q t h))
