-- Tiles and slices: what is demanded of every accepted partitioned picture, sentence by sentence.
use Rattle.std.specs.Prelude.{◌≡◌, ◌↔◌, List, Bool, true, ℕ, ◌+◌, ◌*◌, ◌/◌, ◌%◌, ◌≤◌, ◌<◌, length}
use Rattle.std.proofs.Common.{sym, ◌∙◌, mul-le-mul_right, div-mul-le_self, le_of_eq, arith}
use Rattle.std.proofs.Math.Path.{subst}
use Rattle.std.proofs.Math.Bool.{false}
use Rattle.std.proofs.Math.Nat.{le_trans}
use Rattle.partition.proofs.Sizes.{sum-sizes}
use Rattle.partition.specs.Axis.{boundary}
use Rattle.partition.specs.Grid.{Grid, columns, tiles, pic_width, pic_height, InTile, tile_of, tile_of-lt, tile-block, max_tile_columns, max_tiles}
use Rattle.partition.proofs.Grid.{in_tile_of, tile-only}
use Rattle.partition.specs.Sums.{over_blocks}
use Rattle.partition.specs.Slices.{slices_at, slice_sizes, AllInside, sizes-blocks, sizes-whole}
use Rattle.partition.specs.Groups.{Group, plan, groups_at_tile}
use Rattle.partition.proofs.Groups.{plan-inside, block-groups}
use Rattle.partition.specs.Entry.{first_position, asking}
use Rattle.partition.specs.Walk.{placed, walk}
use Rattle.partition.proofs.Placed.{walk-slices}
use Rattle.partition.proofs.Apart.{default_apart}
use Rattle.partition.specs.Partition.{Partition, in_ctbs, tile_grid, grid_of, slices_coded}
use Rattle.partition.specs.Cover.{Cover, whole, EachBlock, RightCover, Exactly}
use Rattle.partition.proofs.Cover.{right_exactly, tiles-right}
use Rattle.partition.specs.Lowest.{cover_of}
use Rattle.partition.proofs.Lowest.{lowest-right}
use Rattle.partition.specs.Accepted.{Planned, Accepted, without-slices, with_slices}
use Rattle.partition.proofs.Accepted.{accepted-grid, planned-walk, unsliced-uncoded, columns-positive, rows-positive, some-tile, planned-fit}
use Rattle.partition.specs.Demand.{OneTile}

-- ---- the picture and its tiles

-- The columns and rows make up the picture: its width by its height, each divided by 2^(5 + the CTU size field) and rounded up, in CTBs.
pub picture-size : (p : Partition) → Accepted p
    → (pic_width (grid_of p) ≡ in_ctbs p.width p.log2_ctu_size_minus5) × (pic_height (grid_of p) ≡ in_ctbs p.height p.log2_ctu_size_minus5)
unfolding grid_of tile_grid
picture-size p a =
    let f = accepted-grid p a in
    (sum-sizes p.column_widths_minus1 (in_ctbs p.width p.log2_ctu_size_minus5) f.fit-columns, sum-sizes p.row_heights_minus1 (in_ctbs p.height p.log2_ctu_size_minus5) f.fit-rows)

-- "Every block of an accepted partitioned picture lies in exactly one tile"
pub exactly_one-tile : (p : Partition) → Accepted p → EachBlock (grid_of p) (λ x y. OneTile (grid_of p) x y)
exactly_one-tile p a x y hx hy =
    let g : Grid = grid_of p in
    record { tile = tile_of g x y; of-grid = tile_of-lt g x y hx hy; inside = in_tile_of g x y hx hy; only = (λ t i. tile-only g t x y i) }

-- and every tile holds a block
pub some_block : (p : Partition) → (t : ℕ) → t < tiles (grid_of p) → (x : ℕ) × (y : ℕ) × InTile (grid_of p) t x y
some_block p t h =
    let g : Grid = grid_of p in
    (boundary g.column_widths (t % columns g), boundary g.row_heights (t / columns g), tile-block g (columns-positive p) (rows-positive p) t h)

-- at most 30 columns and 990 tiles
pub tile_limits : (p : Partition) → Accepted p → (columns (grid_of p) ≤ max_tile_columns) × (tiles (grid_of p) ≤ max_tiles)
tile_limits p a =
    let f = accepted-grid p a in
    let c : ℕ = columns (grid_of p) in
    (f.few-columns, le_trans (mul-le-mul_right c f.few-rows) (div-mul-le_self max_tiles c))

-- ---- the slices

-- A plan is there exactly where slices are rectangular and the single-slice flag is 0.
pub plan_when_coded : (p : Partition) → Accepted p → ((ps : List Group) × Planned p ps) ↔ (slices_coded p ≡ true)
plan_when_coded p a = ((λ e. (planned-walk p e.0 e.1).0), λ q. found a q)
  where
    found : Accepted p → slices_coded p ≡ true → (ps : List Group) × Planned p ps
    found (with_slices ps e) q = (ps, e)
    found (without-slices e) q = absurd (let z : true ≡ false = sym q ∙ unsliced-uncoded p e in let n : ◌≡◌ {A = ℕ} 0 1 = cc in omega arith)

module _ (p : Partition) (ps : List Group) (e : Planned p ps) where
  -- "the plan reports exactly these slices": each index 0 to N is one, and each lies in the picture
  pub slice-count : length (plan (grid_of p) ps) ≡ p.N + 1
  slice-count = omega (arith, walk-slices (grid_of p) asking p.deltas p.N p.entries first_position ps (omega arith) (planned-walk p ps e).1)

  pub slices-inside : AllInside (pic_width (grid_of p)) (pic_height (grid_of p)) (plan (grid_of p) ps)
  slices-inside = plan-inside (grid_of p) ps (planned-fit p ps e)

  -- "without deltas no block lies in two slices"
  pub no-block_in_two : p.deltas ≡ false → EachBlock (grid_of p) (λ x y. slices_at (plan (grid_of p) ps) x y ≤ 1)
  unfolding groups_at_tile
  no-block_in_two d x y hx hy =
      let g : Grid = grid_of p in
      let w : walk asking g false p.N first_position p.entries ≡ placed ps = subst (λ (b : Bool). walk asking g b p.N first_position p.entries ≡ placed ps) d (planned-walk p ps e).1 in
      le_trans (le_of_eq (block-groups g ps (planned-fit p ps e) x y hx hy))
      (default_apart g p.N p.entries ps (some-tile p (with_slices ps e)) w (tile_of g x y % columns g) (tile_of g x y / columns g))

  -- "the cover check says whole, gap or double exactly when that is so": any right answer does, naming a tile whose blocks are all in none, or all in several
  pub cover_exactly : (c : Cover) → RightCover (grid_of p) (plan (grid_of p) ps) c → Exactly (grid_of p) (plan (grid_of p) ps) c
  cover_exactly c r = right_exactly (grid_of p) (plan (grid_of p) ps) (columns-positive p) (rows-positive p) c r

  -- and there is a right answer
  pub cover-right : RightCover (grid_of p) (plan (grid_of p) ps) (cover_of (grid_of p) ps)
  unfolding cover_of
  cover-right = tiles-right (grid_of p) ps (planned-fit p ps e) (cover_of (grid_of p) ps) (lowest-right (tiles (grid_of p)) (groups_at_tile (grid_of p) ps))

  -- The sizes sum to the picture's blocks, each counted once for each slice that it lies in ..
  pub sizes-sum : slice_sizes (plan (grid_of p) ps) ≡ over_blocks (pic_width (grid_of p)) (pic_height (grid_of p)) (slices_at (plan (grid_of p) ps))
  sizes-sum = sizes-blocks (pic_width (grid_of p)) (pic_height (grid_of p)) (plan (grid_of p) ps) slices-inside

  -- .. and at whole to the number of blocks.
  pub sizes-at-whole : RightCover (grid_of p) (plan (grid_of p) ps) whole → slice_sizes (plan (grid_of p) ps) ≡ pic_width (grid_of p) * pic_height (grid_of p)
  unfolding RightCover
  sizes-at-whole r = sizes-whole (pic_width (grid_of p)) (pic_height (grid_of p)) (plan (grid_of p) ps) slices-inside r
