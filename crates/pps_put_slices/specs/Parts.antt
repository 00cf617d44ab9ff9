-- The parts of an entry of the slice loop (H.266 7.3.2.5) as writing puts them, over plain numbers, and the description's steps over them.
use Rattle.std.specs.Prelude.{ℕ, ◌+◌, ◌-◌, ◌≡◌, List, [], ◌∷◌, ◌++◌, Bool, true, false, cond, ◌&&◌, ◌||◌, leb, ℤ, pos, length}
use Rattle.std.proofs.Math.Path.{refl, ap}
use Rattle.std.proofs.Common.{sym, ◌∙◌, lit<}
use Rattle.std.proofs.Math.Bool.{not}
use Rattle.std.specs.Bool.{beq}
use Rattle.std.proofs.Math.Dec.{ltb}
use Rattle.codes.specs.Coded.{ue_symbols, se_symbols, only_if}
use Rattle.codes.specs.Symbols.{Symbol, check, check-true, check-none}
use Rattle.bit_writer.specs.Writing.{Writing}
use Rattle.partition.specs.Entry.{Position, tile_x, tile_y, width_coded, height_coded, inherited_height, split_coded, num_slices_in_tile, default_advance, delta_refused}
use Rattle.partition.specs.Grid.{Grid, columns, rows, tiles}
use Rattle.partition.specs.Sizes.{sum, explicit_sizes}
use Rattle.partition.specs.Walk.{row_height_of}
use Rattle.syntax.specs.Elements.{ue, se, limited, sameℕ, sameℤ, or_else, is_set}
use Rattle.syntax.proofs.Elements.{ue_if, absent, presence}
use Rattle.syntax.specs.Lists.{many, none}
use Rattle.syntax.specs.Syntax.{symbols_for, ◌for◌}
use Rattle.pps_syntax.specs.SliceSyntax.{RectSlice, rect_slice, slice_height, slice_split, slice_move}
use Rattle.bit_writer.specs.Stop.{play_on, on_none, on-append}
use Rattle.syntax.specs.StopSteps.{stops-done, stops, stops-test, stops-both, stops_past}
use Rattle.syntax.proofs.StopSteps.{stops-or}
use Rattle.pps_put_slices.specs.Sizes.{size_symbols, sizes_symbols, many-sizes}

-- width and height: both are tested before either is put
unfoldable pub size_in_tiles : ℕ → ℕ → Bool → ℕ → ℕ → ℕ → List Symbol
size_in_tiles columns rows deltas t width height =
    check (ltb width (columns - tile_x columns t)) 15
    ++ (check (ltb height (rows - tile_y columns t)) 15
    ++ (only_if (width_coded columns t) (ue_symbols width)
    ++ only_if (height_coded columns rows deltas t) (ue_symbols height)))

-- the explicit slice heights and their number
unfoldable pub heights_symbols : ℕ → List ℕ → List Symbol
heights_symbols row heights = size_symbols row 16 (length heights) ++ (sizes_symbols row 16 heights ++ check (leb (sum (explicit_sizes heights)) row) 16)

-- how many slices an entry gives
abbrev pub slices_in : Bool → ℕ → List ℕ → ℕ
slices_in split row heights = cond split (num_slices_in_tile heights row) 1

-- the index of its last slice
abbrev pub last_in : ℕ → Bool → ℕ → List ℕ → ℕ
last_in i split row heights = i + slices_in split row heights - 1

unfoldable pub split_symbols : Bool → ℕ → ℕ → ℕ → ℕ → List ℕ → List Symbol
split_symbols split row N i present heights =
    check (beq (is_set present) split) 26
    ++ (only_if split (heights_symbols row heights)
    ++ check (leb (last_in i split row heights) N) 17)

-- the delta, or the default advance; `more`: slices are still to come
unfoldable pub move_symbols : ℕ → ℕ → Bool → Bool → ℕ → ℕ → ℕ → ℕ → ℤ → List Symbol
move_symbols columns tiles deltas more t width height present delta =
    check (beq (is_set present) (deltas && more)) 26
    ++ (only_if (deltas && more) (se_symbols delta ++ check (not (delta_refused tiles t delta)) 18)
    ++ only_if (not deltas && more) (check (ltb (default_advance columns t width height) tiles) 19))

-- ---- part by part
heights_parts : (on : Bool) (row : ℕ) (hs : List ℕ) (w : Writing)
    → play_on w (only_if on (heights_symbols row hs))
    ≡ play_on (play_on (play_on w (only_if on (size_symbols row 16 (length hs)))) (only_if on (sizes_symbols row 16 hs))) (check (not on || leb (sum (explicit_sizes hs)) row) 16)
unfolding heights_symbols
heights_parts true row hs w =
    let a = size_symbols row 16 (length hs) in
    let b = sizes_symbols row 16 hs in
    let c = check (leb (sum (explicit_sizes hs)) row) 16 in
    on-append w a (b ++ c) ∙ on-append (play_on w a) b c
heights_parts false row hs w = sym (ap (play_on (play_on (play_on w []) [])) (check-true true 16 refl) ∙ on_none (play_on (play_on w []) []) ∙ on_none (play_on w []))

moves_parts : (by on : Bool) (delta : ℤ) (ok inside : Bool) (w : Writing)
    → play_on w (only_if by (se_symbols delta ++ check ok 18) ++ only_if on (check inside 19))
    ≡ play_on (play_on (play_on w (only_if by (se_symbols delta))) (check (not by || ok) 18)) (check (not on || inside) 19)
moves_parts by on delta ok inside w = on-append w (only_if by (se_symbols delta ++ check ok 18)) (only_if on (check inside 19)) ∙ second on ∙ ap (λ (x : Writing). play_on x (check (not on || inside) 19)) (first by)
  where
    first : (b : Bool) → play_on w (only_if b (se_symbols delta ++ check ok 18)) ≡ play_on (play_on w (only_if b (se_symbols delta))) (check (not b || ok) 18)
    first true = on-append w (se_symbols delta) (check ok 18)
    first false = sym (ap (play_on (play_on w [])) (check-true true 18 refl) ∙ on_none (play_on w []))

    second : (b : Bool) → play_on (play_on w (only_if by (se_symbols delta ++ check ok 18))) (only_if b (check inside 19)) ≡ play_on (play_on w (only_if by (se_symbols delta ++ check ok 18))) (check (not b || inside) 19)
    second true = refl
    second false = sym (ap (play_on (play_on w (only_if by (se_symbols delta ++ check ok 18)))) (check-true true 19 refl))

-- the explicit heights of the description, as many as there are
list-symbols : (on : Bool) (row : ℕ) (hs : List ℕ) (w : Writing) → play_on w (only_if on (sizes_symbols row 16 hs))
    ≡ play_on w ((or_else on (many (length hs) (limited ue (λ v. ltb v row) 16 (lit< tt)) 26) (none 0)).symbols hs)
unfolding or_else
list-symbols true row hs w = ap (play_on w) (sym (many-sizes row 16 26 (lit< tt) hs))
list-symbols false row [] w = refl
list-symbols false row (h ∷ hs) w = ap (play_on w) (sym (check-none false))

module _ (g : Grid) (deltas : Bool) (N : ℕ) (k : Position) (r : RectSlice) (w : Writing) where
  abbrev width : ℕ
  width = r.pps_slice_width_in_tiles_minus1

  abbrev height : ℕ
  height = r.pps_slice_height_in_tiles_minus1

  abbrev heights : List ℕ
  heights = r.pps_exp_slice_height_in_ctus_minus1

  abbrev row : ℕ
  row = row_height_of g k.tile

  abbrev split : Bool
  split = split_coded width height row

  abbrev more : Bool
  more = ltb (last_in k.slice split row heights) N

  -- ---- symbol lists and the description's steps
  pub size_step : play_on (play_on w (size_in_tiles (columns g) (rows g) deltas k.tile width height)) (symbols_for (slice_split g deltas N k width height) r)
      ≡ play_on w (symbols_for (rect_slice g deltas N k) r)
  unfolding rect_slice slice_height size_in_tiles
  size_step =
      let a = check (ltb width (columns g - tile_x (columns g) k.tile)) 15 in
      let b = check (ltb height (rows g - tile_y (columns g) k.tile)) 15 in
      let wide = only_if (width_coded (columns g) k.tile) (ue_symbols width) in
      let tall = only_if (height_coded (columns g) (rows g) deltas k.tile) (ue_symbols height) in
      ap (λ (x : Writing). play_on x (symbols_for (slice_split g deltas N k width height) r))
      (on-append w a (b ++ (wide ++ tall)) ∙ on-append (play_on w a) b (wide ++ tall) ∙ on-append (play_on (play_on w a) b) wide tall)
      ∙ stops_past _ 15 (lit< tt) _ r _
      ∙ stops (or_else (height_coded (columns g) (rows g) deltas k.tile) ue (absent sameℕ (inherited_height (columns g) (rows g) k.tile k.preceding_height_minus1) 0) for _) _ r _
      (stops-or _ ue sameℕ _ height _ refl)
      ∙ stops_past _ 15 (lit< tt) _ r _
      ∙ stops (ue_if (width_coded (columns g) k.tile) for _) _ r _ (stops-or _ ue sameℕ 0 width _ refl)
      ∙ stops-test _ 15 _ r _ refl
      ∙ stops-test _ 15 _ r _ refl

  pub split_step : play_on (play_on w (split_symbols split row N k.slice r.split_present heights)) (symbols_for (slice_move g deltas N k width height r.split_present heights) r)
      ≡ play_on w (symbols_for (slice_split g deltas N k width height) r)
  unfolding slice_split split_symbols
  split_step =
      let a = check (beq (is_set r.split_present) split) 26 in
      let b = only_if split (heights_symbols row heights) in
      let c = check (leb (last_in k.slice split row heights) N) 17 in
      ap (λ (x : Writing). play_on x (symbols_for (slice_move g deltas N k width height r.split_present heights) r))
      (on-append w a (b ++ c) ∙ on-append (play_on w a) b c ∙ ap (λ (x : Writing). play_on x c) (heights_parts split row heights (play_on w a)))
      ∙ stops-both _ 17 (lit< tt) _ r _ refl
      ∙ stops-both _ 16 (lit< tt) _ r _ refl
      ∙ stops (or_else split (many (length heights) (limited ue (λ v. ltb v row) 16 (lit< tt)) 26) (none 0) for _) _ r _ (list-symbols split row heights _)
      ∙ stops_past _ 17 (lit< tt) _ r _
      ∙ stops (or_else split (limited ue (λ v. ltb v row) 16 (lit< tt)) (absent sameℕ 0 0) for _) _ r _ (stops-or split (limited ue (λ v. ltb v row) 16 (lit< tt)) sameℕ 0 (length heights) _ refl)
      ∙ stops (presence split 26 for _) _ r _ refl

  pub move_step : play_on w (move_symbols (columns g) (tiles g) deltas more k.tile width height r.delta_present r.pps_tile_idx_delta_val)
      ≡ play_on w (symbols_for (slice_move g deltas N k width height r.split_present heights) r)
  unfolding slice_move move_symbols
  move_step =
      let a = check (beq (is_set r.delta_present) (deltas && more)) 26 in
      let ok = not (delta_refused (tiles g) k.tile r.pps_tile_idx_delta_val) in
      let inside = ltb (default_advance (columns g) k.tile width height) (tiles g) in
      let b = only_if (deltas && more) (se_symbols r.pps_tile_idx_delta_val ++ check ok 18) in
      let c = only_if (not deltas && more) (check inside 19) in
      on-append w a (b ++ c)
      ∙ moves_parts (deltas && more) (not deltas && more) r.pps_tile_idx_delta_val ok inside (play_on w a)
      ∙ stops-done _ r _
      ∙ stops-both _ 19 (lit< tt) _ r _ refl
      ∙ stops-both _ 18 (lit< tt) _ r _ refl
      ∙ stops (or_else (deltas && more) se (absent sameℤ (pos 0) 0) for _) _ r _ (stops-or (deltas && more) se sameℤ (pos 0) r.pps_tile_idx_delta_val _ refl)
      ∙ stops (presence (deltas && more) 26 for _) _ r _ refl
