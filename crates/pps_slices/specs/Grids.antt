-- Grids, as far as the slice loop looks at them.
use Rattle.std.specs.Prelude.{ℕ, ◌*◌, ◌≤◌, ◌<◌, min, ◌≡◌, refl, List, Bool, true, false, leb, length, take, replicate}
use Rattle.std.proofs.Common.{sym, ap, ◌∙◌, mul-le-mul_left, mul-le-mul_right, arith, take_all, length-take-le, leb-true, leb-false}
use Rattle.std.proofs.lemmas.List.{length-replicate}
use Rattle.partition.specs.Grid.{Grid, grid_with, columns, max_tiles}
use Rattle.slice_loop.specs.declared.SliceLoopCtx.{SliceLoopCtx}
use Rattle.slice_loop.specs.Loop.{LoopOver}

-- a grid of so many columns, with these row heights
pub record GridHas (column_count : ℕ) (heights : List ℕ) (g : Grid) : Type 0 where
  pub columns_are : columns g ≡ column_count
  pub heights_are : g.row_heights ≡ heights

pub over-made : (ctx : SliceLoopCtx) (rs : List ℕ) (g : Grid) → ctx.num_tile_rows ≡ length rs → GridHas ctx.num_tile_columns rs g → LoopOver ctx rs g
over-made ctx rs g e h = record { columns_are = h.columns_are; rows_are = ap length h.heights_are ∙ sym e; heights_are = h.heights_are }

-- there is one
pub some_grid : SliceLoopCtx → List ℕ → Grid
some_grid ctx rs = grid_with (replicate ctx.num_tile_columns 0) rs

pub some-over : (ctx : SliceLoopCtx) (rs : List ℕ) → ctx.num_tile_rows ≡ length rs → LoopOver ctx rs (some_grid ctx rs)
unfolding some_grid
some-over ctx rs e = over-made ctx rs (some_grid ctx rs) e (record { columns_are = length-replicate ctx.num_tile_columns 0; heights_are = refl })

-- ---- the row heights that are looked at
module _ (k : ℕ) (l : List ℕ) (e : k ≡ min (length l) max_tiles) where
  pub front_length : k ≡ length (take k l)
  front_length = sym (length-take-le k l (omega arith))

  pub front_same : take k l ≡ take max_tiles l
  front_same = cases (leb max_tiles (length l)) refl
    where
      cases : (b : Bool) → leb max_tiles (length l) ≡ b → take k l ≡ take max_tiles l
      cases true q = ap (λ (j : ℕ). take j l) (let z : k ≡ max_tiles = omega (arith, leb-true max_tiles (length l) q) in z)
      cases false q =
          let few : length l ≤ max_tiles = omega (arith, leb-false max_tiles (length l) q) in
          take_all k l (omega arith) ∙ sym (take_all max_tiles l few)

  -- the tiles can be counted in 32 bits
  pub tiles-few : (column_count : ℕ) → column_count < 256 → k * column_count ≤ 4294967295
  tiles-few m h =
      let low : k ≤ max_tiles = omega arith in
      let few : m ≤ 255 = omega arith in
      omega (arith, mul-le-mul_right m low, mul-le-mul_left max_tiles few)
