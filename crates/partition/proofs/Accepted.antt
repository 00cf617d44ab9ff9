-- An accepted partitioned picture, and what its acceptance says of its grid and of its walk.
use Rattle.std.specs.Prelude.{◌≡◌, refl, List, Bool, true, false, cond, ℕ, ◌/◌, ◌<◌, length}
use Rattle.std.proofs.Common.{ap, mul-pos, arith, ltb-false}
use Rattle.std.proofs.lemmas.Bool.{eqb-false}
use Rattle.partition.specs.Sizes.{sum, explicit_sizes, axis_sizes, Positive}
use Rattle.partition.proofs.Sizes.{pos_sizes, some_size}
use Rattle.partition.specs.Grid.{Grid, tiles, max_tile_columns, max_tiles}
use Rattle.partition.specs.Groups.{Group, AllFit}
use Rattle.partition.specs.Checks.{Outcome, fine, refused_with, first_bad, AllPass, passes, pass-left}
use Rattle.partition.specs.Entry.{first_position, asking}
use Rattle.partition.specs.Walk.{Walked, refused, placed}
use Rattle.partition.proofs.Placed.{walk-fits}
use Rattle.partition.specs.Partition.{Partition, in_ctbs, tile_grid, explicit_checks, axis_checks, grid_checks, grid_of, grid_checks_of, slices_coded, partition_checks, Layout, declined, unsliced, sliced, from_walk, unless, layout}
use Rattle.partition.specs.Accepted.{Planned, Accepted, without-slices, with_slices, GridFits, walk_of}

-- ---- the grid

pub grid-fits : (p : Partition) → AllPass (grid_checks_of p) → GridFits p
unfolding grid_checks_of grid_checks explicit_checks axis_checks grid_of tile_grid AllPass
grid-fits p a =
    let w : ℕ = in_ctbs p.width p.log2_ctu_size_minus5 in
    let h : ℕ = in_ctbs p.height p.log2_ctu_size_minus5 in
    let ws : List ℕ = p.column_widths_minus1 in
    let hs : List ℕ = p.row_heights_minus1 in
    record {
      fit-columns = ltb-false w (sum (explicit_sizes ws)) a.1.1.1.1.1.0;
      fit-rows = ltb-false h (sum (explicit_sizes hs)) a.1.1.1.1.1.1.1.0;
      few-columns = ltb-false max_tile_columns (length (axis_sizes ws w)) a.1.1.1.1.1.1.0;
      few-rows = ltb-false (max_tiles / length (axis_sizes ws w)) (length (axis_sizes hs h)) a.1.1.1.1.1.1.1.1.0;
      a-column = some_size ws w (eqb-false (length ws) 0 a.1.0);
      a-row = some_size hs h (eqb-false (length hs) 0 a.1.1.0);
    }

-- ---- the layout

-- to tell layouts apart
abbrev kind : Layout → ℕ
kind (declined n) = 0
kind (unsliced g) = 1
kind (sliced g ps) = 2

-- the checks pass, and the layout is what follows them
record LaidOut (p : Partition) (l : Layout) : Type 0 where
  grid : GridFits p
  is : cond (slices_coded p) (from_walk (grid_of p) (walk_of p)) (unsliced (grid_of p)) ≡ l

laid_out : (p : Partition) (l : Layout) → layout asking p ≡ l → 0 < kind l → LaidOut p l
unfolding layout unless partition_checks
laid_out p l e h = split (first_bad (partition_checks asking p)) refl e
  where
    inner : Layout
    inner = cond (slices_coded p) (from_walk (grid_of p) (walk_of p)) (unsliced (grid_of p))

    split : (o : Outcome) → first_bad (partition_checks asking p) ≡ o → unless o inner ≡ l → LaidOut p l
    split (refused_with n) q z = absurd (omega (arith, ap kind z))
    split fine q z = record { grid = grid-fits p (pass-left (grid_checks_of p) _ (passes (partition_checks asking p) q)); is = z }

sliced-same : (g : Grid) (ps qs : List Group) → sliced g ps ≡ sliced g qs → ps ≡ qs
sliced-same g ps qs e = cc

pub accepted-grid : (p : Partition) → Accepted p → GridFits p
accepted-grid p (without-slices e) = (laid_out p (unsliced (grid_of p)) e (omega arith)).grid
accepted-grid p (with_slices ps e) = (laid_out p (sliced (grid_of p) ps) e (omega arith)).grid

-- a plan is what the walk has placed, and slices are coded
pub planned-walk : (p : Partition) (ps : List Group) → Planned p ps → (slices_coded p ≡ true) × (walk_of p ≡ placed ps)
unfolding from_walk
planned-walk p ps e = split (slices_coded p) (walk_of p) (laid_out p (sliced (grid_of p) ps) e (omega arith)).is
  where
    split : (b : Bool) (w : Walked) → cond b (from_walk (grid_of p) w) (unsliced (grid_of p)) ≡ sliced (grid_of p) ps → (b ≡ true) × (w ≡ placed ps)
    split true (placed qs) z = (refl, ap placed (sliced-same (grid_of p) qs ps z))
    split true (refused n) z = absurd (omega (arith, ap kind z))
    split false w z = absurd (omega (arith, ap kind z))

pub unsliced-uncoded : (p : Partition) → layout asking p ≡ unsliced (grid_of p) → slices_coded p ≡ false
unfolding from_walk
unsliced-uncoded p e = split (slices_coded p) (walk_of p) (laid_out p (unsliced (grid_of p)) e (omega arith)).is
  where
    split : (b : Bool) (w : Walked) → cond b (from_walk (grid_of p) w) (unsliced (grid_of p)) ≡ unsliced (grid_of p) → b ≡ false
    split true (placed qs) z = absurd (omega (arith, ap kind z))
    split true (refused n) z = absurd (omega (arith, ap kind z))
    split false w z = refl

-- ---- consequences

module _ (p : Partition) where
  pub columns-positive : Positive (grid_of p).column_widths
  unfolding grid_of tile_grid
  columns-positive = pos_sizes p.column_widths_minus1 (in_ctbs p.width p.log2_ctu_size_minus5)

  pub rows-positive : Positive (grid_of p).row_heights
  unfolding grid_of tile_grid
  rows-positive = pos_sizes p.row_heights_minus1 (in_ctbs p.height p.log2_ctu_size_minus5)

  pub some-tile : Accepted p → 0 < tiles (grid_of p)
  some-tile a = let f = accepted-grid p a in mul-pos f.a-row f.a-column

  pub planned-fit : (ps : List Group) → Planned p ps → AllFit (grid_of p) ps
  planned-fit ps e = walk-fits (grid_of p) asking p.deltas p.N p.entries first_position ps (λ k. some-tile (with_slices ps e)) (planned-walk p ps e).1
