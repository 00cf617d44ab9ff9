-- The cover answer as it grows tile by tile, column after column.
use Rattle.std.specs.Prelude.{◌≡◌, ◌⊎◌, Bool, cond, ℕ, ◌+◌, ◌*◌, ◌/◌, ◌%◌, ◌≤◌, ◌<◌}
use Rattle.std.proofs.Math.Path.{refl}
use Rattle.std.proofs.Common.{sym, ◌∙◌, inl, inr, eq-or-lt_of_le, mod-lt, div-lt_iff_lt-mul, mul_comm}
use Rattle.std.proofs.Math.Bool.{true, false}
use native.Mathlib.Omega.{arith}
use Rattle.std.proofs.Math.Dec.{eqb}
use borrow.Author.Tests.{eqb-true, eqb-false, ne_eqb}
use Rattle.partition.specs.Cover.{Cover, no_plan, whole, gap, double, RightTiles}

-- Each tile of the x columns before column x, and of the y rows of column x above row y.
pub record EachSeen (rows x y : ℕ) (P : ℕ → ℕ → Type 0) : Type 0 where
  pub before : (cx cy : ℕ) → cx < x → cy < rows → P cx cy
  pub above : (cy : ℕ) → cy < y → P x cy

-- An answer that is right of the tiles seen so far, by the number of groups in the column and row of each. Gap goes before double.
unfoldable pub RightSeen : ℕ → ℕ → (ℕ → ℕ → ℕ) → ℕ → ℕ → Cover → Type 0
RightSeen columns rows groups x y no_plan = ⊥
RightSeen columns rows groups x y whole = EachSeen rows x y (λ cx cy. groups cx cy ≡ 1)
RightSeen columns rows groups x y (gap t) = (t < columns * rows) × (groups (t % columns) (t / columns) ≡ 0)
RightSeen columns rows groups x y (double t) = EachSeen rows x y (λ cx cy. 1 ≤ groups cx cy) × (t < columns * rows) × (2 ≤ groups (t % columns) (t / columns))

-- The answer with tile t, which lies in n groups.
unfoldable pub with_tile : Cover → ℕ → ℕ → Cover
with_tile no_plan t n = no_plan
with_tile (gap s) t n = gap s
with_tile (double s) t n = cond (eqb n 0) (gap t) (double s)
with_tile whole t n = cond (eqb n 0) (gap t) (cond (eqb n 1) whole (double t))

-- ---- tiles seen

each_weaker : (rows x y : ℕ) (P Q : ℕ → ℕ → Type 0) → ((cx cy : ℕ) → P cx cy → Q cx cy) → EachSeen rows x y P → EachSeen rows x y Q
each_weaker rows x y P Q f e = record { before = λ cx cy h k. f cx cy (e.before cx cy h k); above = λ cy h. f x cy (e.above cy h) }

each_row : (rows x y : ℕ) (P : ℕ → ℕ → Type 0) → EachSeen rows x y P → P x y → EachSeen rows x (y + 1) P
each_row rows x y P e p = record { before = e.before; above = λ cy h. last cy (eq-or-lt_of_le (next cy h)) }
  where
    next : (cy : ℕ) → cy < y + 1 → cy ≤ y
    next cy h = omega arith

    last : (cy : ℕ) → (cy ≡ y) ⊎ (cy < y) → P x cy
    last cy (inl q) = rw q p
    last cy (inr q) = e.above cy q

each-column : (rows x : ℕ) (P : ℕ → ℕ → Type 0) → EachSeen rows x rows P → EachSeen rows (x + 1) 0 P
each-column rows x P e = record { before = λ cx cy h k. last cx cy (eq-or-lt_of_le (next cx h)) k; above = λ cy h. absurd (none cy h) }
  where
    next : (cx : ℕ) → cx < x + 1 → cx ≤ x
    next cx h = omega arith

    none : (cy : ℕ) → cy < 0 → ⊥
    none cy h = omega arith

    last : (cx cy : ℕ) → (cx ≡ x) ⊎ (cx < x) → cy < rows → P cx cy
    last cx cy (inl q) k = rw q (e.above cy k)
    last cx cy (inr q) k = e.before cx cy q k

module _ (columns rows : ℕ) (groups : ℕ → ℕ → ℕ) where
  pub seen_none : RightSeen columns rows groups 0 0 whole
  unfolding RightSeen
  seen_none = record { before = λ cx cy h k. absurd (none cx h); above = λ cy h. absurd (none cy h) }
    where
      none : (n : ℕ) → n < 0 → ⊥
      none n h = omega arith

  module _ (x y t n : ℕ) (column : t % columns ≡ x) (row : t / columns ≡ y) (inside : t < columns * rows) (counted : n ≡ groups x y) where
    here : groups (t % columns) (t / columns) ≡ n
    here = rw (column, row) (sym counted)

    pub seen_tile : (c : Cover) → RightSeen columns rows groups x y c → RightSeen columns rows groups x (y + 1) (with_tile c t n)
    unfolding RightSeen with_tile
    seen_tile no_plan r = r
    seen_tile (gap s) r = r
    seen_tile (double s) r = split (eqb n 0) refl
      where
        split : (b : Bool) → eqb n 0 ≡ b → RightSeen columns rows groups x (y + 1) (cond b (gap t) (double s))
        split true e = (inside, here ∙ eqb-true n 0 e)
        split false e = (each_row rows x y _ r.0 (some (eqb-false n 0 e)), r.1, r.2)
          where
            some : (n ≡ 0 → ⊥) → 1 ≤ groups x y
            some f = omega arith
    seen_tile whole r = split (eqb n 0) (eqb n 1) refl refl
      where
        split : (a b : Bool) → eqb n 0 ≡ a → eqb n 1 ≡ b → RightSeen columns rows groups x (y + 1) (cond a (gap t) (cond b whole (double t)))
        split true b e f = (inside, here ∙ eqb-true n 0 e)
        split false true e f = each_row rows x y _ r (sym counted ∙ eqb-true n 1 f)
        split false false e f = (each_row rows x y _ (each_weaker rows x y _ _ (λ cx cy p. one (groups cx cy) p) r) (some g h), inside, several g h here)
          where
            g : n ≡ 0 → ⊥
            g = eqb-false n 0 e

            h : n ≡ 1 → ⊥
            h = eqb-false n 1 f

            one : (k : ℕ) → k ≡ 1 → 1 ≤ k
            one k p = omega arith

            some : (n ≡ 0 → ⊥) → (n ≡ 1 → ⊥) → 1 ≤ groups x y
            some u v = omega arith

            several : {k : ℕ} → (n ≡ 0 → ⊥) → (n ≡ 1 → ⊥) → k ≡ n → 2 ≤ k
            several u v w = omega arith

  pub seen_column : (x : ℕ) (c : Cover) → RightSeen columns rows groups x rows c → RightSeen columns rows groups (x + 1) 0 c
  unfolding RightSeen
  seen_column x no_plan r = r
  seen_column x whole r = each-column rows x _ r
  seen_column x (gap t) r = r
  seen_column x (double t) r = (each-column rows x _ r.0, r.1, r.2)

  pub seen_end : (x : ℕ) (c : Cover) → x ≤ columns → columns ≤ x → RightSeen columns rows groups x 0 c → RightSeen columns rows groups columns 0 c
  seen_end x c h k r = let e : x ≡ columns = omega arith in rw e at r

  row_inside : (t : ℕ) → 0 < columns → t < columns * rows → t / columns < rows
  row_inside t p h = (div-lt_iff_lt-mul p).1 (rw mul_comm at h)

  -- all tiles are seen
  pub seen_all : 0 < columns → (c : Cover) → RightSeen columns rows groups columns 0 c → RightTiles (columns * rows) (λ t. groups (t % columns) (t / columns)) c
  unfolding RightSeen RightTiles
  seen_all p no_plan r = r
  seen_all p whole r = λ t h. r.before (t % columns) (t / columns) (mod-lt t p) (row_inside t p h)
  seen_all p (gap t) r = r
  seen_all p (double t) r = ((λ s h. r.0.before (s % columns) (s / columns) (mod-lt s p) (row_inside s p h)), r.1, r.2)

-- ---- the cases of one tile more
pub whole-none : (t n : ℕ) → n ≡ 0 → with_tile whole t n ≡ gap t
unfolding with_tile
whole-none t n e = rw e

pub whole-one : (t n : ℕ) → n ≡ 1 → with_tile whole t n ≡ whole
unfolding with_tile
whole-one t n e = rw e

pub whole-several : (t n : ℕ) → (n ≡ 0 → ⊥) → (n ≡ 1 → ⊥) → with_tile whole t n ≡ double t
unfolding with_tile
whole-several t n f g = rw (ne_eqb n 0 f, ne_eqb n 1 g)

pub double-none : (s t n : ℕ) → n ≡ 0 → with_tile (double s) t n ≡ gap t
unfolding with_tile
double-none s t n e = rw e

pub double-some : (s t n : ℕ) → (n ≡ 0 → ⊥) → with_tile (double s) t n ≡ double s
unfolding with_tile
double-some s t n f = rw (ne_eqb n 0 f)
