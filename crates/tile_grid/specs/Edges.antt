-- The groups that reach into a column, by their edges: the row in which each begins and the first row below it. How tables of the edges are filled, and how the
-- groups at a tile follow from them.
use Rattle.std.specs.Prelude.{◌≡◌, Bool, true, false, cond, eqb, ltb, length, get_or, set, replicate}
use Rattle.std.proofs.Math.Path.{refl, ap}
use Rattle.std.proofs.Common.{sym, mul-one, add-zero, arith, length-set, get_or-set_same, get_or-set_other, ltb-true, ltb-false, eqb-true, lt-ltb, le-ltb}
use mathlib.Core.List.{List, [], ◌∷◌}
use Prim.Native.Nat.{ℕ, zero, suc, ◌+◌, ◌*◌, ◌≤◌, ◌<◌}
use Rattle.std.proofs.Math.Nat.{mul-add, mul-zero}
use Rattle.std.proofs.lemmas.Bool.{eqb-false}
use Rattle.std.proofs.lemmas.List.{set-get_or}
use Rattle.partition.specs.Groups.{Group, groups_at}
use Rattle.partition.specs.Sums.{among, among_in, among-low, among-high, Place, low, mid, high, place}

-- The row in which a group begins, and the first row below it.
unfoldable pub top_row : Group → ℕ
top_row p = p.tile_y

unfoldable pub past_row : Group → ℕ
past_row p = p.tile_y + p.height

-- A table with n more at a row, where it has that row.
unfoldable pub add_at : List ℕ → ℕ → ℕ → List ℕ
add_at t row n = set t row (get_or t row 0 + n)

-- A table with one more at the edge of each group that reaches into column x.
unfoldable pub marked : (Group → ℕ) → ℕ → List Group → List ℕ → List ℕ
marked edge x [] t = t
marked edge x (p ∷ ps) t = marked edge x ps (add_at t (edge p) (among p.tile_x p.width x))

-- A table of zeros.
abbrev pub AllZero : List ℕ → Type 0
AllZero t = (row : ℕ) → get_or t row 0 ≡ 0

pub zeros-zero : (n : ℕ) → AllZero (replicate n 0)
zeros-zero zero row = refl
zeros-zero (suc n) zero = refl
zeros-zero (suc n) (suc row) = zeros-zero n row

-- ---- what a marked table holds

-- 1 where an edge is at row y; where it is above it.
unfoldable pub is_at : ℕ → ℕ → ℕ
is_at e y = cond (eqb e y) 1 0

unfoldable pub is_above : ℕ → ℕ → ℕ
is_above e y = cond (ltb e y) 1 0

-- Of the groups that reach into column x, those with their edge at row y, and those with it above row y.
unfoldable pub edges_at : (Group → ℕ) → List Group → ℕ → ℕ → ℕ
edges_at edge [] x y = 0
edges_at edge (p ∷ ps) x y = among p.tile_x p.width x * is_at (edge p) y + edges_at edge ps x y

unfoldable pub edges_above : (Group → ℕ) → List Group → ℕ → ℕ → ℕ
edges_above edge [] x y = 0
edges_above edge (p ∷ ps) x y = among p.tile_x p.width x * is_above (edge p) y + edges_above edge ps x y

added_at : (t : List ℕ) (i n y : ℕ) → y < length t → get_or (add_at t i n) y 0 ≡ get_or t y 0 + n * is_at i y
unfolding add_at is_at
added_at t i n y h = split (eqb i y) refl
  where
    split : (b : Bool) → eqb i y ≡ b → get_or (set t i (get_or t i 0 + n)) y 0 ≡ get_or t y 0 + n * cond b 1 0
    split true e = let f : i ≡ y = eqb-true i y e in rw (f, get_or-set_same t y (get_or t y 0 + n) 0 h, mul-one)
    split false e = rw (get_or-set_other t i y (get_or t i 0 + n) 0 (λ f. eqb-false i y e (sym f)), mul-zero, add-zero)

pub added_length : (t : List ℕ) (i n : ℕ) → length (add_at t i n) ≡ length t
unfolding add_at
added_length t i n = length-set t i (get_or t i 0 + n)

pub added-none : (t : List ℕ) (row : ℕ) → t ≡ add_at t row 0
unfolding add_at
added-none t row = rw add-zero (sym (set-get_or t row 0))

pub marked-at : (edge : Group → ℕ) (x : ℕ) (ps : List Group) (t : List ℕ) (y : ℕ) → y < length t → get_or (marked edge x ps t) y 0 ≡ get_or t y 0 + edges_at edge ps x y
unfolding marked edges_at
marked-at edge x [] t y h = sym (add-zero (get_or t y 0))
marked-at edge x (p ∷ ps) t y h =
    let n : ℕ = among p.tile_x p.width x in
    let l : y < length (add_at t (edge p) n) = omega (arith, added_length t (edge p) n) in
    omega (arith, marked-at edge x ps (add_at t (edge p) n) y l, added_at t (edge p) n y h)

-- ---- the groups at a tile

above-next-one : (e y : ℕ) → is_above e (suc y) ≡ is_above e y + is_at e y
unfolding is_above is_at
above-next-one e y = split (ltb e y) (eqb e y) refl refl
  where
    split : (a b : Bool) → ltb e y ≡ a → eqb e y ≡ b → cond (ltb e (suc y)) 1 0 ≡ cond a 1 0 + cond b 1 0
    split true true p q = absurd (omega (arith, ltb-true e y p, eqb-true e y q))
    split true false p q = rw (lt-ltb e (suc y) (omega (arith, ltb-true e y p)))
    split false true p q = rw (lt-ltb e (suc y) (omega (arith, eqb-true e y q)))
    split false false p q = rw (le-ltb e (suc y) (other (eqb-false e y q) (ltb-false e y p)))
      where
        other : (e ≡ y → ⊥) → y ≤ e → suc y ≤ e
        other f g = omega arith

above-none-one : (e : ℕ) → is_above e 0 ≡ 0
unfolding is_above
above-none-one e = rw (le-ltb e 0 (omega arith))

above-one : (e y : ℕ) → is_above e y ≤ 1
unfolding is_above
above-one e y = split (ltb e y)
  where
    split : (b : Bool) → cond b 1 0 ≤ 1
    split true = omega arith
    split false = omega arith

-- begun, and not yet ended
between : (top height y : ℕ) → among top height y + is_above (top + height) (suc y) ≡ is_above top (suc y)
unfolding is_above
between top height y = split (place top height y)
  where
    split : Place top height y → among top height y + cond (ltb (top + height) (suc y)) 1 0 ≡ cond (ltb top (suc y)) 1 0
    split (low h) = rw (among-low top height y h, le-ltb (top + height) (suc y) (omega arith), le-ltb top (suc y) (omega arith))
    split (mid h k) = rw (among_in top height y h k, le-ltb (top + height) (suc y) (omega arith), lt-ltb top (suc y) (omega arith))
    split (high h) = rw (among-high top height y h, lt-ltb (top + height) (suc y) (omega arith), lt-ltb top (suc y) (omega arith))

module _ (edge : Group → ℕ) where
  pub above-none : (ps : List Group) (x : ℕ) → edges_above edge ps x 0 ≡ 0
  unfolding edges_above
  above-none [] x = refl
  above-none (p ∷ ps) x = rw (above-none-one (edge p), mul-zero, above-none ps x)

  pub above-next : (ps : List Group) (x y : ℕ) → edges_above edge ps x (suc y) ≡ edges_above edge ps x y + edges_at edge ps x y
  unfolding edges_above edges_at
  above-next [] x y = refl
  above-next (p ∷ ps) x y =
      let n : ℕ = among p.tile_x p.width x in
      omega (arith, above-next ps x y, ap (λ (m : ℕ). n * m) (above-next-one (edge p) y), mul-add n (is_above (edge p) y) (is_at (edge p) y))

pub among_one : (lo n x : ℕ) → among lo n x ≤ 1
among_one lo n x = split (place lo n x)
  where
    split : Place lo n x → among lo n x ≤ 1
    split (low h) = omega (arith, among-low lo n x h)
    split (mid h k) = omega (arith, among_in lo n x h k)
    split (high h) = omega (arith, among-high lo n x h)

product_one : (a b : ℕ) → a ≤ 1 → b ≤ 1 → a * b ≤ 1
product_one zero b h k = omega arith
product_one (suc zero) b h k = omega arith
product_one (suc (suc a)) b h k = absurd (omega arith)

pub above_most : (edge : Group → ℕ) (ps : List Group) (x y : ℕ) → edges_above edge ps x y ≤ length ps
unfolding edges_above
above_most edge [] x y = omega arith
above_most edge (p ∷ ps) x y =
    omega (arith, above_most edge ps x y, product_one (among p.tile_x p.width x) (is_above (edge p) y) (among_one p.tile_x p.width x) (above-one (edge p) y))

-- The groups at a tile are those of its column that begin no lower than its row, without those that end above it.
pub groups-between : (ps : List Group) (x y : ℕ) → groups_at ps x y + edges_above past_row ps x (suc y) ≡ edges_above top_row ps x (suc y)
unfolding groups_at edges_above top_row past_row
groups-between [] x y = refl
groups-between (p ∷ ps) x y =
    let n : ℕ = among p.tile_x p.width x in
    omega (
      arith,
      groups-between ps x y,
      ap (λ (m : ℕ). n * m) (between p.tile_y p.height y),
      mul-add n (among p.tile_y p.height y) (is_above (p.tile_y + p.height) (suc y)),
    )
