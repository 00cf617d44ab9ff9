-- What an accepted walk has placed: groups that fit the grid, with a slice for each index 0 to N.
use Rattle.std.proofs.lemmas.Bool.{or_parts}
use Rattle.std.specs.Prelude.{◌≡◌, Bool, cond, ◌&&◌, ltb, leb, ℤ, pos, negsuc}
use Rattle.std.proofs.Math.Path.{refl, ap, sym}
use Rattle.std.proofs.Common.{◌∙◌, subst}
use mathlib.Core.List.{List, [], ◌∷◌, ◌++◌, append-nil}
use Rattle.std.proofs.Math.Bool.{true, false}
use Prim.Native.Nat.{ℕ, suc, ◌+◌, ◌-◌, ◌≤◌, ◌<◌}
use native.Mathlib.Omega.{arith}
use Rattle.std.proofs.Math.Dec.{eqb}
use borrow.Author.Tests.{ltb-false, leb-false, lt-ltb}
use Rattle.std.proofs.Math.ListN.{length, length-append}
use Rattle.partition.specs.Sizes.{sum, explicit_sizes}
use Rattle.partition.proofs.Sizes.{sum-sizes, some_size}
use Rattle.partition.specs.Axis.{boundary, span}
use Rattle.partition.proofs.Axis.{span-one}
use Rattle.partition.specs.Grid.{Grid, columns, rows, tiles}
use Rattle.partition.specs.Groups.{Group, Fits, AllFit, group_slices, plan, stacked-length}
use Rattle.partition.specs.Checks.{AllPass, pass-left, pass-right}
use Rattle.partition.specs.Entry.{Entry, Position, Caller, tile_x, tile_y, tile_row_height, split_coded, split_heights, num_slices_in_tile, last_slice_of, tile_after_delta, delta_leaves, delta_refused, default_advance, next_tile, next_position, size_checks, inherited_checks, split_checks, move_checks, entry_checks}
use Rattle.partition.specs.Walk.{row_height_of, slice_heights_of, entry_group, last_group, placed, checks_at, onward, walk}
use Rattle.partition.specs.Placed.{false-true, step, End, to-bottom-right, used_by-split, end, Passed, tile_x-lt, tile_y-lt, split_flat, next-tile}

-- ---- what the checks of an entry say

-- a delta that is not refused leads to a tile of the grid
pub delta-inside : (tiles t : ℕ) (v : ℤ) → delta_refused tiles t v ≡ false → tile_after_delta t v < tiles
unfolding delta_refused delta_leaves tile_after_delta
delta-inside tiles t (pos n) e = leb-false tiles (t + n) (or_parts (leb tiles n) (leb tiles (t + n)) (or_parts (eqb n 0) _ e).1).1
delta-inside tiles t (negsuc n) e =
    leb-false tiles (t - suc n) (or_parts (ltb t (suc n)) (leb tiles (t - suc n)) (or_parts (leb tiles (suc n)) _ (or_parts (eqb (suc n) 0) _ e).1).1).1

-- where slices are to come, the next tile is one of the grid
moves-inside : (columns tiles : ℕ) (d : Bool) (t : ℕ) (e : Entry) → AllPass (move_checks columns tiles d true t e) → next_tile columns d t e < tiles
unfolding move_checks AllPass next_tile
moves-inside columns tiles true t e a = delta-inside tiles t e.delta (split e.delta_present refl)
  where
    split : (b : Bool) → e.delta_present ≡ b → delta_refused tiles t e.delta ≡ false
    split true q = rw q at a.1.1.0
    split false q = absurd (false-true (sym (rw q at a.0)))
moves-inside columns tiles false t e a = leb-false tiles (default_advance columns t e.width_minus1 e.height_minus1) a.1.1.1.0

pub entry-passed : (who : Caller) (g : Grid) (d : Bool) (N : ℕ) (k : Position) (e : Entry) → AllPass (checks_at who g d N k e) → Passed g d N k e
unfolding entry_checks size_checks split_checks AllPass
entry-passed who g d N k e a =
    let c : ℕ = columns g in
    let t : ℕ = k.tile in
    let row : ℕ = row_height_of g t in
    let last : ℕ = last_slice_of k.slice e row in
    let later = pass-right (inherited_checks who c (rows g) d k e) (split_checks row N k.slice e ++ move_checks c (tiles g) d (ltb last N) t e) a.1.1 in
    let s = pass-left (split_checks row N k.slice e) (move_checks c (tiles g) d (ltb last N) t e) later in
    let m = pass-right (split_checks row N k.slice e) (move_checks c (tiles g) d (ltb last N) t e) later in
    let onto : last < N → AllPass (move_checks c (tiles g) d true t e) = λ h. subst (λ (b : Bool). AllPass (move_checks c (tiles g) d b t e)) (lt-ltb last N h) m in
    record {
      wide = leb-false (c - tile_x c t) e.width_minus1 a.0;
      tall = leb-false (rows g - tile_y c t) e.height_minus1 a.1.0;
      cut = s.1.1.1.0;
      within = ltb-false N last s.1.1.1.1.0;
      agrees = s.0;
      onto = onto;
      moves = (λ h. moves-inside c (tiles g) d t e (onto h));
    }

-- ---- every group fits

pieces : (row : ℕ) (hs : List ℕ) → ltb row (sum (explicit_sizes hs)) ≡ false → sum (split_heights hs row) ≡ row
unfolding split_heights sum
pieces row [] f = omega arith
pieces row (k ∷ ks) f = sum-sizes (k ∷ ks) row (ltb-false row (sum (explicit_sizes (k ∷ ks))) f)

pub some_piece : (row : ℕ) (hs : List ℕ) → 1 ≤ length (split_heights hs row)
unfolding split_heights
some_piece row [] = omega arith
some_piece row (k ∷ ks) = some_size (k ∷ ks) row (λ z. omega arith)

module _ (g : Grid) where
  pub row-span : (t : ℕ) → row_height_of g t ≡ span g.row_heights (tile_y (columns g) t) 1
  unfolding tile_row_height
  row-span t = sym (span-one g.row_heights (tile_y (columns g) t))

  -- the heights of an entry's slices sum to its rows
  heights-sum : (t : ℕ) (e : Entry)
      → (split_coded e.width_minus1 e.height_minus1 (row_height_of g t) && ltb (row_height_of g t) (sum (explicit_sizes e.split_heights_minus1))) ≡ false
      → sum (slice_heights_of g t e) ≡ span g.row_heights (tile_y (columns g) t) (suc e.height_minus1)
  unfolding slice_heights_of sum
  heights-sum t e fit = split (split_coded e.width_minus1 e.height_minus1 row) refl
    where
      row : ℕ
      row = row_height_of g t

      whole : ℕ
      whole = span g.row_heights (tile_y (columns g) t) (suc e.height_minus1)

      one-row : e.height_minus1 ≡ 0 → row ≡ whole
      one-row q = rw q (row-span t)

      split : (b : Bool) → split_coded e.width_minus1 e.height_minus1 row ≡ b → sum (cond (split_coded e.width_minus1 e.height_minus1 row) (split_heights e.split_heights_minus1 row) (whole ∷ [])) ≡ whole
      split true z = rw z (pieces row e.split_heights_minus1 (rw z at fit) ∙ one-row (split_flat g e.width_minus1 e.height_minus1 row z))
      split false z = rw z (omega arith)

  entry-fits : (d : Bool) (N : ℕ) (k : Position) (e : Entry) → k.tile < tiles g → Passed g d N k e → Fits g (entry_group g k.tile e)
  unfolding entry_group
  entry-fits d N k e h a =
      record {
        wide = omega (arith, tile_x-lt g k.tile h, a.wide);
        tall = omega (arith, tile_y-lt g k.tile h, a.tall);
        cut = heights-sum k.tile e a.cut;
      }

  last_fits : (t : ℕ) → t < tiles g → Fits g (last_group g t)
  unfolding last_group sum
  last_fits t h = record { wide = omega (arith, tile_x-lt g t h); tall = omega (arith, tile_y-lt g t h); cut = omega arith }

  pub walk-fits : (who : Caller) (d : Bool) (N : ℕ) (es : List Entry) (k : Position) (ps : List Group) → (k.slice ≤ N → k.tile < tiles g)
      → walk who g d N k es ≡ placed ps → AllFit g ps
  unfolding AllFit
  walk-fits who d N [] k ps h q = finish (end who g d N k ps q)
    where
      finish : End g N k ps → AllFit g ps
      finish (to-bottom-right i p) = rw p (last_fits k.tile (h (omega arith)), tt)
      finish (used_by-split i p) = rw p tt
  walk-fits who d N (e ∷ es) k ps h q =
      let s = step who g d N k e es ps q in
      let a = entry-passed who g d N k e s.pass in
      rw s.is (entry-fits d N k e (h (omega (arith, s.slices-left))) a, walk-fits who d N es (onward g d k e) s.others (λ l. next-tile g d N k e a l) s.goes)

  -- ---- a slice for each index 0 to N

  pub entry-slices : (i t : ℕ) (e : Entry) → suc (last_slice_of i e (row_height_of g t)) ≡ i + length (slice_heights_of g t e)
  unfolding last_slice_of slice_heights_of num_slices_in_tile
  entry-slices i t e = split (split_coded e.width_minus1 e.height_minus1 (row_height_of g t))
    where
      row : ℕ
      row = row_height_of g t

      split : (b : Bool) → suc (i + cond b (length (split_heights e.split_heights_minus1 row)) 1 - 1)
          ≡ i + length (cond b (split_heights e.split_heights_minus1 row) (span g.row_heights (tile_y (columns g) t) (suc e.height_minus1) ∷ []))
      split true = omega (arith, some_piece row e.split_heights_minus1)
      split false = omega arith

  group_length : (p : Group) → length (group_slices g p) ≡ length p.slice_heights
  unfolding group_slices
  group_length p = stacked-length (boundary g.column_widths p.tile_x) (span g.column_widths p.tile_x p.width) (boundary g.row_heights p.tile_y) p.slice_heights

  pub walk-slices : (who : Caller) (d : Bool) (N : ℕ) (es : List Entry) (k : Position) (ps : List Group) → k.slice ≤ suc N
      → walk who g d N k es ≡ placed ps → k.slice + length (plan g ps) ≡ suc N
  unfolding plan entry_group last_group next_position
  walk-slices who d N [] k ps h q = finish (end who g d N k ps q)
    where
      finish : End g N k ps → k.slice + length (plan g ps) ≡ suc N
      finish (to-bottom-right i p) = rw p (omega (arith, ap length (append-nil (group_slices g (last_group g k.tile))), group_length (last_group g k.tile)))
      finish (used_by-split i p) = rw p (omega arith)
  walk-slices who d N (e ∷ es) k ps h q =
      let s = step who g d N k e es ps q in
      let a = entry-passed who g d N k e s.pass in
      rw s.is
      (omega (
        arith,
        entry-slices k.slice k.tile e,
        length-append (group_slices g (entry_group g k.tile e)) (plan g s.others),
        group_length (entry_group g k.tile e),
        walk-slices who d N es (onward g d k e) s.others (omega (arith, a.within)) s.goes,
      ))

  -- ---- no more groups than slices

  some-slice : (t : ℕ) (e : Entry) → 1 ≤ length (slice_heights_of g t e)
  unfolding slice_heights_of
  some-slice t e = split (split_coded e.width_minus1 e.height_minus1 (row_height_of g t))
    where
      split : (b : Bool) → 1 ≤ length (cond b (split_heights e.split_heights_minus1 (row_height_of g t)) (span g.row_heights (tile_y (columns g) t) (suc e.height_minus1) ∷ []))
      split true = some_piece (row_height_of g t) e.split_heights_minus1
      split false = omega arith

  pub walk-groups : (who : Caller) (d : Bool) (N : ℕ) (es : List Entry) (k : Position) (ps : List Group) → k.slice ≤ suc N → walk who g d N k es ≡ placed ps → k.slice + length ps ≤ suc N
  unfolding next_position
  walk-groups who d N [] k ps h q = finish (end who g d N k ps q)
    where
      finish : End g N k ps → k.slice + length ps ≤ suc N
      finish (to-bottom-right i p) = rw p (omega arith)
      finish (used_by-split i p) = rw p (omega arith)
  walk-groups who d N (e ∷ es) k ps h q =
      let s = step who g d N k e es ps q in
      let a = entry-passed who g d N k e s.pass in
      rw s.is
      (omega (arith, entry-slices k.slice k.tile e, some-slice k.tile e, walk-groups who d N es (onward g d k e) s.others (omega (arith, a.within)) s.goes))
