-- The columns and rows of a grid in the fronts of its tables, and the fronts of lent tables.
use Rattle.std.specs.Prelude.{ℕ, ◌-◌, ◌*◌, ◌≤◌, min, ◌≡◌, refl, List, Bool, true, false, leb, length, take}
use Rattle.std.proofs.Common.{sym, ap, ap₂, ◌∙◌, mul-le-mul_left, arith, take_all, length-take-le, leb-true, leb-false}
use Rattle.std.proofs.Math.Seq.{take-append_seam, take-length}
use Rattle.partition.specs.Grid.{Grid, grid_with, columns, rows, tiles, max_tile_columns, max_tiles}
use Rattle.tile_sizes.specs.Padded.{zeros, table_of}
use Rattle.grid_sizes.specs.declared.GridSizes.{GridSizes}

-- the grid that sizes hold: their used places; of at most 30 columns and 990 rows, as many as the tables have
abbrev pub grid_in : GridSizes → Grid
grid_in s = grid_with (take s.num_tile_columns s.column_widths) (take s.num_tile_rows s.row_heights)

-- ---- the fronts of its tables
pub front-is : (n : ℕ) (ss l : List ℕ) (k : ℕ) → k ≡ length ss → l ≡ table_of n ss → take k l ≡ ss
unfolding table_of
front-is n ss l k e f = rw (f, e) (take-append_seam ss (zeros (n - length ss)))

-- ---- of a lent table
pub take-most : (n : ℕ) (l : List ℕ) → take (min n (length l)) l ≡ take n l
take-most n l = cases (leb n (length l)) refl
  where
    cases : (b : Bool) → leb n (length l) ≡ b → take (min n (length l)) l ≡ take n l
    cases true e = ap (λ (k : ℕ). take k l) (let z : min n (length l) ≡ n = omega (arith, leb-true n (length l) e) in z)
    cases false e =
        let h : length l ≤ n = omega (arith, leb-false n (length l) e) in
        ap (λ (k : ℕ). take k l) (let z : min n (length l) ≡ length l = omega arith in z) ∙ take-length l ∙ sym (take_all n l h)

-- it is as long as it says
pub front_length : (n a : ℕ) (l : List ℕ) → a ≡ min n (length l) → a ≡ length (take a l)
front_length n a l e = sym (length-take-le a l (omega arith))

-- ---- the columns and rows in use
-- The first `columns` and `rows` of the tables that hold a grid are in use.
pub record InUse (s : GridSizes) (columns rows : ℕ) : Type 0 where
  pub few : columns ≤ max_tile_columns
  pub low : rows ≤ max_tiles
  pub columns_are : columns ≡ length (take columns s.column_widths)
  pub rows_are : rows ≡ length (take rows s.row_heights)
  pub tiled : rows * columns ≡ tiles (grid_in s)
  pub grid : grid_with (take columns s.column_widths) (take rows s.row_heights) ≡ grid_in s

-- the counts, held to the tables
pub in_use : (s : GridSizes) (columns rows : ℕ)
    → length s.column_widths ≡ max_tile_columns → length s.row_heights ≡ max_tiles
    → columns ≡ min s.num_tile_columns max_tile_columns → rows ≡ min s.num_tile_rows max_tiles
    → InUse s columns rows
in_use s columns rows l m c r =
    let a : columns ≡ min s.num_tile_columns (length s.column_widths) = c ∙ rw l in
    let b : rows ≡ min s.num_tile_rows (length s.row_heights) = r ∙ rw m in
    let k = front_length _ columns s.column_widths a in
    let i = front_length _ rows s.row_heights b in
    let x = take-most s.num_tile_columns s.column_widths in
    let y = take-most s.num_tile_rows s.row_heights in
    let g : grid_with (take columns s.column_widths) (take rows s.row_heights) ≡ grid_in s = rw (a, b, x, y) in
    record {
      few = omega arith;
      low = omega arith;
      columns_are = k;
      rows_are = i;
      tiled = ap₂ (λ (u v : ℕ). u * v) i k ∙ ap tiles g;
      grid = g;
    }

-- tiles are counted in 32 bits
pub tiles-few : (C R : ℕ) → C ≤ max_tile_columns → R ≤ max_tiles → R * C ≤ 4294967295
tiles-few C R a b = let h : R * C ≤ R * max_tile_columns = mul-le-mul_left R a in omega arith
