-- What the parts of an entry give: how many slices, and the next tile.
use mathlib.Core.Path.{◌≡◌, refl, sym, ap, ◌∙◌}
use mathlib.Core.List.{List, [], ◌∷◌}
use mathlib.Core.Bool.{Bool, true, false, cond, not, ◌&&◌, beq}
use Prim.Native.Nat.{ℕ, suc, ◌+◌, ◌-◌, ◌≤◌}
use native.Mathlib.Omega.{arith}
use lib.Dec.{ltb, leb, eqb}
use borrow.Author.Tests.{ltb-true, ltb-false, leb-false, le-leb, lt-leb, ne_eqb}
use Rattle.std.specs.Prelude.{Result, Err, IfOk}
use lib.IntN.{ℤ}
use Rattle.refusal.specs.declared.Refusal.{Refusal}
use Rattle.refusal.specs.declared.Refusal.TheVariants.{TileIdxDelta}
use Rattle.partition.specs.Entry.{split_coded, split_heights, num_slices_in_tile, last_slice_of, default_advance, tile_after_delta, delta_refused, delta_uncodable, next_tile, move_checks}
use Rattle.partition.specs.Checks.{fine, refused_with, first_bad, number_of}
use Rattle.refusal.specs.Numbers.{refused}
use Rattle.partition.proofs.Sizes.{some_size}
use Rattle.pps_tables.specs.declared.RectSliceEntry.{RectSliceEntry}
use Rattle.slice_loop.specs.declared.TileIdx.{TileIdx}
use Rattle.slice_loop.specs.Answers.{tile_idx_of, next_by_delta}
use Rattle.slice_loop.specs.Laws.{held-tile, held_outside, delta-number, delta-tile}
use Rattle.question_tests.specs.Tables.{entry_with}

-- an entry gives a slice at least
some-slices : (hs : List ℕ) (row : ℕ) → 1 ≤ num_slices_in_tile hs row
unfolding num_slices_in_tile split_heights
some-slices [] row = omega arith
some-slices (h ∷ hs) row = omega (arith, some_size (h ∷ hs) row (λ z. omega arith))

a_slice : (split : Bool) (hs : List ℕ) (row : ℕ) → 1 ≤ cond split (num_slices_in_tile hs row) 1
a_slice true hs row = some-slices hs row
a_slice false hs row = omega arith

-- the index behind an entry of so many slices
pub slices-counted : (N i row : ℕ) (split : Bool) (n : ℕ) (e : RectSliceEntry) (hs : List ℕ) → split ≡ split_coded e.width e.height row → n ≡ cond split (num_slices_in_tile hs row) 1
    → false ≡ ltb N (i + n - 1) → (i + n ≡ suc (last_slice_of i (entry_with e hs) row)) × (last_slice_of i (entry_with e hs) row ≤ N)
unfolding last_slice_of
slices-counted N i row split n e hs s c l =
    let some : 1 ≤ n = omega (arith, c, a_slice split hs row) in
    let few : i + n - 1 ≤ N = ltb-false N (i + n - 1) (sym l) in
    rw (← s, ← c) (omega arith, few)

-- ---- the next tile

-- Held in 32 bits or not, a tile is outside the same grids, and inside it is the same.
module _ (T y : ℕ) (small : T ≤ 4294967295) (x : TileIdx) (e : x ≡ tile_idx_of y) where
  pub outside : false ≡ ltb x.0 T → leb T y ≡ true
  outside h = sym (held_outside T y small) ∙ ap (λ (k : TileIdx). leb T k.0) (sym e) ∙ le-leb T x.0 (ltb-false x.0 T (sym h))

  pub inside : true ≡ ltb x.0 T → leb T y ≡ false
  inside h = sym (held_outside T y small) ∙ ap (λ (k : TileIdx). leb T k.0) (sym e) ∙ lt-leb T x.0 (ltb-true x.0 T (sym h))

  pub inside-same : true ≡ ltb x.0 T → x.0 ≡ y
  inside-same h = ap (λ (k : TileIdx). k.0) e ∙ held-tile y (omega (arith, leb-false T y (inside h)))

delta-none : (T t : ℕ) (d : ℤ) → delta_refused T t d ≡ true → next_by_delta T t d ≡ Err TileIdxDelta
unfolding next_by_delta
delta-none T t d e = rw e

module _ (C T : ℕ) (d : Bool) (t : ℕ) (e : RectSliceEntry) (hs : List ℕ) where
  pub moved-by-delta : T ≤ 4294967295 → d ≡ true → (r : Result TileIdx Refusal) → r ≡ next_by_delta T t e.delta → IfOk r (λ x. x.0 ≡ next_tile C d t (entry_with e hs))
  unfolding next_tile
  moved-by-delta small q r h = rw (h, q) (split (delta_refused T t e.delta) refl)
    where
      split : (b : Bool) → delta_refused T t e.delta ≡ b → IfOk (next_by_delta T t e.delta) (λ x. x.0 ≡ tile_after_delta t e.delta)
      split true z = rw (delta-none T t e.delta z) tt
      split false z = rw (delta-tile T t e.delta small z) refl

  pub moved-by_default : d ≡ false → (x : ℕ) → x ≡ default_advance C t e.width e.height → x ≡ next_tile C d t (entry_with e hs)
  unfolding next_tile
  moved-by_default q x h = rw q h

-- ---- its tests

and_parts : (a b : Bool) → (a && b) ≡ true → (a ≡ true) × (b ≡ true)
and_parts true b e = (refl, e)
and_parts false b e = absurd (let z : ◌≡◌ {A = ℕ} 0 1 = cc in omega arith)

module _ (C T : ℕ) (d more : Bool) (t : ℕ) (e : RectSliceEntry) (hs : List ℕ) (agree : not (beq (not (eqb e.delta_present 0)) (d && more)) ≡ false) where
  abbrev tests : ℕ
  tests = number_of (first_bad (move_checks C T d more t (entry_with e hs)))

  same : (b : Bool) → not (eqb e.delta_present 0) ≡ b → (d && more) ≡ b
  same b q = go b (d && more) (rw q at agree)
    where
      go : (a b : Bool) → not (beq a b) ≡ false → b ≡ a
      go true true z = refl
      go true false z = sym z
      go false true z = z
      go false false z = refl

  module _ (there : e.delta_present ≡ 0 → ⊥) where
    moves : (d ≡ true) × (more ≡ true)
    moves = and_parts d more (same true (rw (ne_eqb e.delta_present 0 there)))

    pub coded-on : d ≡ true
    coded-on = moves.0

    pub delta-tests : false ≡ delta_uncodable e.delta → (r : Result TileIdx Refusal) → r ≡ next_by_delta T t e.delta → refused r ≡ tests
    unfolding move_checks first_bad number_of
    delta-tests u r h = ap refused h ∙ delta-number T t e.delta ∙ rw (moves.0, moves.1, ne_eqb e.delta_present 0 there, ← u) (go (delta_refused T t e.delta))
      where
        go : (b : Bool) → cond b 18 0 ≡ number_of (cond b (refused_with 18) fine)
        go true = refl
        go false = refl

  module _ (gone : e.delta_present ≡ 0) where
    stays-off : (d && more) ≡ false
    stays-off = same false (rw gone)

    default-on : more ≡ true → d ≡ false
    default-on m = go d (rw m at stays-off)
      where
        go : (a : Bool) → (a && true) ≡ false → a ≡ false
        go true z = z
        go false z = refl

    pub leaving-tests : more ≡ true → leb T (default_advance C t e.width e.height) ≡ true → 19 ≡ tests
    unfolding move_checks first_bad number_of
    leaving-tests m l = rw (gone, default-on m, m, l)

    pub inside-tests : more ≡ true → leb T (default_advance C t e.width e.height) ≡ false → 0 ≡ tests
    unfolding move_checks first_bad number_of
    inside-tests m l = rw (gone, default-on m, m, l)

    pub end-tests : more ≡ false → 0 ≡ tests
    unfolding move_checks first_bad number_of
    end-tests m = rw (gone, m) (go d)
      where
        go : (a : Bool) → 0 ≡ number_of (cond (not (beq false (a && false))) (refused_with 26) (cond (not a && false) (refused_with 19) fine))
        go true = refl
        go false = refl

    pub default-next : more ≡ true → (x : ℕ) → x ≡ default_advance C t e.width e.height → x ≡ next_tile C d t (entry_with e hs)
    default-next m x h = moved-by_default C T d t e hs (default-on m) x h
