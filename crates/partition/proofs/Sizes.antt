-- Sizes on one axis, in CTBs: explicit ones, the last of them as often as it fits, then a tail. Tile columns and tile rows (H.266 6.5.1, equations 14 and 15)
-- and the slices of one tile (equation 21) all follow this rule.
use Rattle.std.specs.Prelude.{◌≡◌, refl, List, [], ◌∷◌, ◌++◌, ℕ, zero, suc, ◌+◌, ◌-◌, ◌/◌, ◌%◌, ◌≤◌, ◌<◌, min, length, replicate}
use Rattle.std.proofs.Common.{div-add-mod', arith, length-append}
use Rattle.std.proofs.lemmas.List.{length-replicate}
use Rattle.partition.specs.Sizes.{sum, explicit_sizes, uniform_size, tail_size, uniform_sizes, axis_sizes, Fit, Positive, sum-append, sum-replicate, uniform_pos}

-- ---- sums

sum-tail : (r : ℕ) → sum (tail_size r) ≡ r
unfolding sum tail_size
sum-tail zero = refl
sum-tail (suc r) = omega arith

pub sum_uniform : (u remaining : ℕ) → sum (uniform_sizes u remaining) ≡ remaining
unfolding uniform_sizes
sum_uniform u n = omega (arith, sum-append (replicate (n / u) u) (tail_size (n % u)), sum-replicate (n / u) u, sum-tail (n % u), div-add-mod' n u)

-- the sizes sum to the axis
pub sum-sizes : (es : List ℕ) (total : ℕ) → Fit es total → sum (axis_sizes es total) ≡ total
unfolding axis_sizes
sum-sizes es total h =
    let left : ℕ = total - sum (explicit_sizes es) in
    omega (arith, sum-append (explicit_sizes es) (uniform_sizes (uniform_size es) left), sum_uniform (uniform_size es) left)

-- ---- how many

length-explicit : (es : List ℕ) → length (explicit_sizes es) ≡ length es
unfolding explicit_sizes
length-explicit [] = refl
length-explicit (e ∷ es) = omega (arith, length-explicit es)

length-tail : (r : ℕ) → length (tail_size r) ≡ min 1 r
unfolding tail_size
length-tail zero = omega arith
length-tail (suc r) = omega arith

-- the count is known before any size is: the explicit ones, the repeated ones, a tail
pub length-sizes : (es : List ℕ) (total : ℕ)
    → length (axis_sizes es total) ≡ length es + (total - sum (explicit_sizes es)) / uniform_size es + min 1 ((total - sum (explicit_sizes es)) % uniform_size es)
unfolding axis_sizes uniform_sizes
length-sizes es total =
    let u : ℕ = uniform_size es in
    let left : ℕ = total - sum (explicit_sizes es) in
    omega (
      arith,
      length-append (explicit_sizes es) (replicate (left / u) u ++ tail_size (left % u)),
      length-append (replicate (left / u) u) (tail_size (left % u)),
      length-explicit es,
      length-replicate (left / u) u,
      length-tail (left % u),
    )

pub some_size : (es : List ℕ) (total : ℕ) → (length es ≡ 0 → ⊥) → 0 < length (axis_sizes es total)
some_size es total h = omega (arith, length-sizes es total)

-- ---- each at least 1

pos_nil : Positive []
pos_nil i h = omega arith

pos_cons : (s : ℕ) (ss : List ℕ) → 1 ≤ s → Positive ss → Positive (s ∷ ss)
pos_cons s ss h p zero k = h
pos_cons s ss h p (suc i) k = p i (omega arith)

pos_append : (a b : List ℕ) → Positive a → Positive b → Positive (a ++ b)
pos_append [] b p q = q
pos_append (s ∷ ss) b p q = pos_cons s (ss ++ b) (p 0 (omega arith)) (pos_append ss b (λ i h. p (suc i) (omega arith)) q)

pos_explicit : (es : List ℕ) → Positive (explicit_sizes es)
unfolding explicit_sizes
pos_explicit [] = pos_nil
pos_explicit (e ∷ es) = pos_cons (suc e) (explicit_sizes es) (omega arith) (pos_explicit es)

pos_replicate : (n u : ℕ) → 1 ≤ u → Positive (replicate n u)
pos_replicate zero u h = pos_nil
pos_replicate (suc n) u h = pos_cons u (replicate n u) h (pos_replicate n u h)

pos_tail : (r : ℕ) → Positive (tail_size r)
unfolding tail_size
pos_tail zero = pos_nil
pos_tail (suc r) = pos_cons (suc r) [] (omega arith) pos_nil

pub pos_sizes : (es : List ℕ) (total : ℕ) → Positive (axis_sizes es total)
unfolding axis_sizes uniform_sizes
pos_sizes es total =
    let u : ℕ = uniform_size es in
    let left : ℕ = total - sum (explicit_sizes es) in
    pos_append (explicit_sizes es) (replicate (left / u) u ++ tail_size (left % u)) (pos_explicit es)
    (pos_append (replicate (left / u) u) (tail_size (left % u)) (pos_replicate (left / u) u (uniform_pos es)) (pos_tail (left % u)))
