-- One turn of the rectangular slice loop (H.266 7.3.2.5): one description, read and written. The tests stand in the order of the Rust's
-- parse_pps and write_pps; a test of reading alone or of writing alone stands where only one of them makes it.
use Rattle.std.specs.Prelude.{ℕ, ◌+◌, ◌-◌, ◌≡◌, List, [], ◌∷◌, Bool, true, false, not, cond, ◌&&◌, ◌||◌, ltb, leb, ℤ, pos, length}
use Rattle.std.proofs.Math.Path.{refl}
use Rattle.std.proofs.Common.{sym, lit<, eqb-true}
use Rattle.partition.specs.Entry.{Entry, Position, tile_x, tile_y, width_coded, height_coded, inherited_height, split_coded, num_slices_in_tile, default_advance, delta_refused}
use Rattle.partition.specs.Grid.{Grid, columns, rows, tiles}
use Rattle.partition.specs.Sizes.{sum, explicit_sizes}
use Rattle.partition.specs.Walk.{row_height_of, onward}
use Rattle.syntax.specs.Element.{Element}
use Rattle.syntax.specs.Elements.{ue, se, limited, sameℕ, sameℤ, or_else, is_set}
use Rattle.syntax.proofs.Elements.{ue_if, absent, presence}
use Rattle.syntax.specs.Lists.{many, none, many-length, not-true, walk}
use Rattle.syntax.proofs.Round.{structure}
use Rattle.syntax.specs.Syntax.{Syntax, done, on_writing, on_reading, on_both, ◌for◌, ◌>>=◌, ◌&◌, rebuilt, Faithful, Whole}

-- an entry of the record: an optional part is a presence flag and a value
pub record RectSlice : Type 0 where
  pub pps_slice_width_in_tiles_minus1 : ℕ
  pub pps_slice_height_in_tiles_minus1 : ℕ
  pub split_present : ℕ
  pub pps_exp_slice_height_in_ctus_minus1 : List ℕ
  pub delta_present : ℕ
  pub pps_tile_idx_delta_val : ℤ

-- the same as the walk over the tiles takes it
abbrev pub entry_of : RectSlice → Entry
entry_of r =
    record {
      width_minus1 = r.pps_slice_width_in_tiles_minus1;
      height_minus1 = r.pps_slice_height_in_tiles_minus1;
      split_present = is_set r.split_present;
      split_heights_minus1 = r.pps_exp_slice_height_in_ctus_minus1;
      delta_present = is_set r.delta_present;
      delta = r.pps_tile_idx_delta_val;
    }

-- a list that is as long as was coded, or empty where nothing is coded
as_long : (on : Bool) (counted e : Element ℕ) (n c : ℕ) (l : List ℕ) → (or_else on counted (absent sameℕ 0 0)).canonical c ≡ true → (or_else on (many c e n) (none 0)).canonical l ≡ true → length l ≡ c
unfolding or_else
as_long true x e n c l p q = many-length c e n l q
as_long false x e n c [] p q = sym (eqb-true c 0 p)
as_long false x e n c (y ∷ l) p q = absurd (not-true q)

module _ (g : Grid) (deltas : Bool) (N : ℕ) where
  -- the delta to the next slice's tile, or the default advance: 18, 19 where the tile leaves the grid with slices to come
  unfoldable pub slice_move : Position → ℕ → ℕ → ℕ → List ℕ → Syntax RectSlice
  slice_move k width height split heights = do
    let t = k.tile
    let row = row_height_of g t
    let last = k.slice + cond (split_coded width height row) (num_slices_in_tile heights row) 1 - 1
    let more = ltb last N
    present ← presence (deltas && more) 26 for (λ r. r.delta_present)
    delta ← or_else (deltas && more) se (absent sameℤ (pos 0) 0) for (λ r. r.pps_tile_idx_delta_val)
    on_both (not (deltas && more) || not (delta_refused (tiles g) t delta)) 18 (lit< tt)
        (on_both (not (not deltas && more) || ltb (default_advance (columns g) t width height) (tiles g)) 19 (lit< tt)
        (done (record {
          pps_slice_width_in_tiles_minus1 = width;
          pps_slice_height_in_tiles_minus1 = height;
          split_present = split;
          pps_exp_slice_height_in_ctus_minus1 = heights;
          delta_present = present;
          pps_tile_idx_delta_val = delta;
        })))

  -- pps_num_exp_slices_in_tile[ i ] and the heights, in a tile of several CTB rows: 16, 17
  unfoldable pub slice_split : Position → ℕ → ℕ → Syntax RectSlice
  slice_split k width height = do
    let row = row_height_of g k.tile
    let split = split_coded width height row
    present ← presence split 26 for (λ r. r.split_present)
    count ← or_else split (limited ue (λ v. ltb v row) 16 (lit< tt)) (absent sameℕ 0 0) for (λ r. length r.pps_exp_slice_height_in_ctus_minus1)
    -- earlier than the Rust (docs/DIFFERENCES.md)
    on_reading (not split || leb count (N - k.slice + 1)) 17 (lit< tt) do
      heights ← or_else split (many count (limited ue (λ v. ltb v row) 16 (lit< tt)) 26) (none 0) for (λ r. r.pps_exp_slice_height_in_ctus_minus1)
      on_both (not split || leb (sum (explicit_sizes heights)) row) 16 (lit< tt)
          (on_both (leb (k.slice + cond split (num_slices_in_tile heights row) 1 - 1) N) 17 (lit< tt)
          (slice_move k width height present heights))

  -- pps_slice_height_in_tiles_minus1[ i ], coded or inherited; writing takes any uncoded height that is inside the grid
  unfoldable pub slice_height : Position → ℕ → Syntax RectSlice
  slice_height k width = do
    let t = k.tile
    height ← or_else (height_coded (columns g) (rows g) deltas t) ue (absent sameℕ (inherited_height (columns g) (rows g) t k.preceding_height_minus1) 0)
        for (λ r. r.pps_slice_height_in_tiles_minus1)
    on_reading (ltb height (rows g - tile_y (columns g) t)) 15 (lit< tt) (slice_split k width height)

  -- Writing tests width and height before it puts either
  unfoldable pub rect_slice : Position → Syntax RectSlice
  rect_slice k =
      on_writing (λ r. ltb r.pps_slice_width_in_tiles_minus1 (columns g - tile_x (columns g) k.tile)) 15
      (on_writing (λ r. ltb r.pps_slice_height_in_tiles_minus1 (rows g - tile_y (columns g) k.tile)) 15 do
        width ← ue_if (width_coded (columns g) k.tile) for (λ r. r.pps_slice_width_in_tiles_minus1)
        on_reading (ltb width (columns g - tile_x (columns g) k.tile)) 15 (lit< tt) (slice_height k width))

  pub rect_slice_faithful : (k : Position) → Faithful (rect_slice k) (λ _. Unit {0})
  unfolding rect_slice slice_height slice_split slice_move Faithful ◌>>=◌
  rect_slice_faithful k =
      λ w _ tw h _ th p _ c qc tc hs q t₁ t₂ d _ v _ t₃ t₄.
      tt & tw & th & refl & refl & refl & as_long (split_coded w h (row_height_of g k.tile)) _ _ 26 c hs qc q & refl & t₁ & t₂ & refl & refl & t₃ & t₄

  pub rect_slice-whole : (k : Position) → Whole (rect_slice k)
  unfolding rect_slice slice_height slice_split slice_move rebuilt ◌>>=◌
  rect_slice-whole k r = refl

  abbrev pub rect_slice_element : Position → Element RectSlice
  rect_slice_element k = structure (rect_slice k) (rect_slice_faithful k) (rect_slice-whole k)

  -- The loop: while the slice index is below N. Writing refuses too many or too few entries with 26
  unfoldable pub rect_slices : Position → Element (List RectSlice)
  rect_slices k = walk N (λ p. ltb p.slice N) rect_slice_element (λ p r. onward g deltas p (entry_of r)) 26 k
