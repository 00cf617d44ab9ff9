-- Where a coordinate lies on an axis that is cut into sizes (H.266 6.5.1, equations 16 to 18).
use Rattle.std.specs.Prelude.{◌≡◌, refl, List, [], ◌∷◌, Bool, true, false, ℕ, zero, suc, ◌+◌, ◌-◌, ◌≤◌, ◌<◌, ltb, leb, get_or}
use Rattle.std.proofs.Common.{add-zero, add-suc, arith, ltb-false, leb-true, leb-false}
use Rattle.partition.specs.Sizes.{sum}
use Rattle.partition.specs.Axis.{boundary, Holds, column_of, span, boundary_le, begins}

-- ---- boundaries

pub boundary-zero : (ss : List ℕ) → boundary ss 0 ≡ 0
unfolding boundary
boundary-zero [] = refl
boundary-zero (s ∷ ss) = refl

pub boundary-suc : (ss : List ℕ) (c : ℕ) → boundary ss (suc c) ≡ boundary ss c + get_or ss c 0
unfolding boundary
boundary-suc [] c = omega arith
boundary-suc (s ∷ ss) zero = omega (arith, boundary-zero ss)
boundary-suc (s ∷ ss) (suc c) = omega (arith, boundary-suc ss c)

pub boundary_mono : (ss : List ℕ) (c n : ℕ) → boundary ss c ≤ boundary ss (c + n)
boundary_mono ss c zero = rw (add-zero c) (omega arith)
boundary_mono ss c (suc n) = rw (add-suc c n) (omega (arith, boundary-suc ss (c + n), boundary_mono ss c n))

pub span-one : (ss : List ℕ) (c : ℕ) → span ss c 1 ≡ get_or ss c 0
unfolding span
span-one ss c = let e : c + 1 ≡ suc c = omega arith in rw e (omega (arith, boundary-suc ss c))

-- the columns of a span end inside the axis
pub span_le : (ss : List ℕ) (c n : ℕ) → boundary ss c + span ss c n ≤ sum ss
unfolding span
span_le ss c n = omega (arith, boundary_mono ss c n, boundary_le ss (c + n))

-- ---- column c begins at or before x exactly where c is at most x's column

pub begun : (ss : List ℕ) (c x : ℕ) → x < sum ss → c ≤ column_of ss x → boundary ss c ≤ x
unfolding column_of boundary sum
begun [] c x h k = omega arith
begun (s ∷ ss) zero x h k = omega arith
begun (s ∷ ss) (suc c) x h k = split (begun ss c (x - s)) (ltb x s) refl
  where
    split : (x - s < sum ss → c ≤ column_of ss (x - s) → boundary ss c ≤ x - s) → (b : Bool) → ltb x s ≡ b → s + boundary ss c ≤ x
    split ih true e = let z : suc c ≤ 0 = rw e at k in omega arith
    split ih false e =
        let z : suc c ≤ suc (column_of ss (x - s)) = rw e at k in
        let l : s ≤ x = ltb-false x s e in
        omega (arith, ih (omega arith) (omega arith))

-- ---- exactly one column holds x

pub holds_own : (ss : List ℕ) (x : ℕ) → x < sum ss → Holds ss (column_of ss x) x
holds_own ss x h = (begun ss (column_of ss x) x h (omega arith), split (leb (boundary ss (suc (column_of ss x))) x) refl)
  where
    split : (b : Bool) → leb (boundary ss (suc (column_of ss x))) x ≡ b → x < boundary ss (column_of ss x) + get_or ss (column_of ss x) 0
    split true e = omega (arith, begins ss (suc (column_of ss x)) x h (leb-true (boundary ss (suc (column_of ss x))) x e))
    split false e = omega (arith, leb-false (boundary ss (suc (column_of ss x))) x e, boundary-suc ss (column_of ss x))

pub holds-only : (ss : List ℕ) (c x : ℕ) → x < sum ss → Holds ss c x → c ≡ column_of ss x
holds-only ss c x h hold = split (leb (suc c) (column_of ss x)) refl
  where
    split : (t : Bool) → leb (suc c) (column_of ss x) ≡ t → c ≡ column_of ss x
    split true q = omega (arith, boundary-suc ss c, begun ss (suc c) x h (leb-true (suc c) (column_of ss x) q))
    split false q = omega (arith, begins ss c x h hold.0, leb-false (suc c) (column_of ss x) q)

pub holds-inside : (ss : List ℕ) (c x : ℕ) → Holds ss c x → x < sum ss
holds-inside ss c x hold = omega (arith, hold.1, boundary-suc ss c, boundary_le ss (suc c))
