-- A delta as the code takes it: its size, and the tile plus it in 64 bits.
use mathlib.Core.Path.{◌≡◌, refl, ap, subst, ◌∙◌}
use mathlib.Core.Bool.{Bool, true, false, ◌||◌}
use Prim.Native.Nat.{ℕ, suc, ◌-◌, ◌^◌, ◌≤◌, ◌<◌}
use native.Mathlib.Omega.{arith}
use lib.Dec.{ltb, leb, eqb}
use lib.IntN.{ℤ, pos, negsuc, nat_abs, ◌+ℤ◌}
use mir.Syntax.{w32, w64}
use mir.Val.{SFits, to_z, of_z}
use borrow.Author.Tests.{ltb-false, le-ltb, le-leb, lt-leb, ne_eqb}
use Rattle.partition.specs.Entry.{tile_after_delta, delta_leaves, delta_refused}
use Rattle.std.specs.Prelude.{Ok, Err}
use Rattle.std.specs.Int.{FitsUnsigned}
use Rattle.std.proofs.lemmas.Int.{ints}
use Rattle.refusal.specs.declared.Refusal.TheVariants.{TileIdxDelta}
use Rattle.slice_loop.specs.Answers.{tile_idx_of, next_by_delta}

or-true : (b : Bool) → (b || true) ≡ true
or-true true = refl
or-true false = refl

-- a number of 32 bits in 64
pub widened : (d : ℤ) → SFits w32 d → to_z w64 (of_z w64 (to_z w32 (of_z w32 d))) ≡ d
widened d f = omega (arith, ints)

module _ (tiles t : ℕ) where
  -- t plus a delta in 64 bits is no less than 0
  plus : (d : ℤ) (to : ℕ) → FitsUnsigned w64 (pos t +ℤ d) → to ≡ nat_abs (pos t +ℤ d) → (to ≡ tile_after_delta t d) × (delta_leaves tiles t d ≡ leb tiles to)
  unfolding tile_after_delta delta_leaves
  plus (pos k) to f e = (e, rw e)
  plus (negsuc k) to f e =
      let l : suc k ≤ t = omega (arith, ints, f.0) in
      let z : pos t +ℤ negsuc k ≡ pos (t - suc k) = omega (arith, ints) in
      let q : nat_abs (pos t +ℤ negsuc k) ≡ t - suc k = ap nat_abs z in
      (e ∙ q, rw (le-ltb t (suc k) l, e, q))

  falls : (d : ℤ) → t < 2 ^ 32 → SFits w32 d → (FitsUnsigned w64 (pos t +ℤ d) → ⊥) → delta_leaves tiles t d ≡ true
  unfolding delta_leaves
  falls (pos k) l f h = absurd (h (omega (arith, ints), omega (arith, ints, f.sfits)))
  falls (negsuc k) l f h = split (ltb t (suc k)) refl
    where
      split : (b : Bool) → ltb t (suc k) ≡ b → (b || leb tiles (t - suc k)) ≡ true
      split true e = refl
      split false e = let m : suc k ≤ t = ltb-false t (suc k) e in absurd (h (omega (arith, ints), omega (arith, ints)))

  module _ (d : ℤ) where
    refuses : delta_refused tiles t d ≡ true → Err TileIdxDelta ≡ next_by_delta tiles t d
    unfolding next_by_delta
    refuses e = rw e

    leaving : delta_leaves tiles t d ≡ true → Err TileIdxDelta ≡ next_by_delta tiles t d
    unfolding delta_refused
    leaving e = refuses (rw (e, or-true (leb tiles (nat_abs d)), or-true (eqb (nat_abs d) 0)))

    module _ (n : ℕ) (hn : n ≡ nat_abs d) where
      pub refuses-none : n ≡ 0 → Err TileIdxDelta ≡ next_by_delta tiles t d
      unfolding delta_refused
      refuses-none e = refuses (rw (← hn, e))

      pub refuses-large : tiles ≤ n → Err TileIdxDelta ≡ next_by_delta tiles t d
      unfolding delta_refused
      refuses-large l = refuses (rw (← hn, le-leb tiles n l, or-true (eqb n 0)))

      module _ (to : ℕ) (wide : ℤ) (same : wide ≡ d) (f : FitsUnsigned w64 (pos t +ℤ wide) × (to ≡ nat_abs (pos t +ℤ wide))) where
        is : (to ≡ tile_after_delta t d) × (delta_leaves tiles t d ≡ leb tiles to)
        is = let g : FitsUnsigned w64 (pos t +ℤ d) = subst (λ (z : ℤ). FitsUnsigned w64 (pos t +ℤ z)) same f.0 in plus d to g (f.1 ∙ ap (λ (z : ℤ). nat_abs (pos t +ℤ z)) same)

        pub refuses-past : tiles ≤ to → Err TileIdxDelta ≡ next_by_delta tiles t d
        refuses-past l = leaving (is.1 ∙ le-leb tiles to l)

        pub moves : (n ≡ 0 → ⊥) → n < tiles → to < tiles → Ok (tile_idx_of to) ≡ next_by_delta tiles t d
        unfolding next_by_delta delta_refused
        moves z l m = rw (is.1, ← hn, ne_eqb n 0 z, lt-leb tiles n l, lt-leb tiles to m, is.0)

    pub refuses-below : t < 2 ^ 32 → SFits w32 d → (wide : ℤ) → wide ≡ d → (FitsUnsigned w64 (pos t +ℤ wide) → ⊥) → Err TileIdxDelta ≡ next_by_delta tiles t d
    refuses-below l f wide e h = leaving (falls d l f (subst (λ (z : ℤ). FitsUnsigned w64 (pos t +ℤ z) → ⊥) e h))
