-- The parts of an entry of the slice loop (H.266 7.3.2.5) as they are read one behind the other, over plain numbers:
-- the columns and rows of the grid, the tile, its row's height; and what is kept of them.
use Rattle.std.specs.Prelude.{ℕ, ◌+◌, ◌-◌, List, [], Bool, true, false, not, cond, ◌&&◌, ◌||◌, ltb, leb, ℤ, pos, Some, None, length}
use Rattle.std.proofs.Common.{lit<}
use Rattle.bit_reader.specs.declared.Cursor.{Cursor}
use Rattle.bit_reader.specs.Gives.{Parsed, tested}
use Rattle.partition.specs.Entry.{tile_x, tile_y, width_coded, height_coded, inherited_height, num_slices_in_tile, tile_after_delta, default_advance, delta_refused}
use Rattle.partition.specs.Sizes.{sum, explicit_sizes}
use Rattle.syntax.specs.Elements.{ue, se, limited, sameℕ, sameℤ, or_else}
use Rattle.syntax.proofs.Elements.{absent}
use Rattle.syntax.specs.Lists.{many}
use Rattle.syntax.specs.Syntax.{Syntax, done, on_reading, ◌for◌, ◌>>=◌}
use Rattle.pps_slices.specs.declared.parts.SplitRead.{SplitRead}
use Rattle.pps_slices.specs.declared.parts.MoveRead.{MoveRead}

-- a width or height in tiles, minus 1: coded or inferred, 15 where it is not below what is left of the grid
abbrev pub size_part : Bool → ℕ → ℕ → List ℕ → Cursor → Parsed ℕ
size_part coded inferred left = tested (λ v. ltb v left) 15 (or_else coded ue (absent sameℕ inferred 0)).read

-- pps_slice_width_in_tiles_minus1
abbrev pub width_part : ℕ → ℕ → List ℕ → Cursor → Parsed ℕ
width_part columns t = size_part (width_coded columns t) 0 (columns - tile_x columns t)

-- pps_slice_height_in_tiles_minus1
abbrev pub height_part : ℕ → ℕ → Bool → ℕ → ℕ → List ℕ → Cursor → Parsed ℕ
height_part columns rows deltas t preceding = size_part (height_coded columns rows deltas t) (inherited_height columns rows t preceding) (rows - tile_y columns t)

-- the slice index of the last slice of a tile with these explicit slice heights
unfoldable pub last_of : ℕ → ℕ → List ℕ → ℕ
last_of i row heights = i + num_slices_in_tile heights row - 1

-- The explicit slice heights of a tile that is split, i being the index of its first slice: 16 where their count, one
-- of them or their sum passes the row, 17 where the slices pass N.
unfoldable pub explicit_heights : ℕ → ℕ → ℕ → Syntax (List ℕ)
explicit_heights row N i = do
  count ← limited ue (λ v. ltb v row) 16 (lit< tt) for (λ hs. length hs)
  on_reading (leb count (N - i + 1)) 17 (lit< tt) do
    heights ← many count (limited ue (λ v. ltb v row) 16 (lit< tt)) 26 for (λ hs. hs)
    on_reading (leb (sum (explicit_sizes heights)) row) 16 (lit< tt)
        (on_reading (leb (last_of i row heights) N) 17 (lit< tt) (done heights))

-- none, where it is not split
unfoldable pub split_part : Bool → ℕ → ℕ → ℕ → Syntax (List ℕ)
split_part true row N i = explicit_heights row N i
split_part false row N i = done []

-- how many there are, and the tile's last slice
abbrev pub split_kept : Bool → ℕ → ℕ → List ℕ → SplitRead
split_kept split row i heights = record { count = cond split (Some (length heights)) None; last = record { 0 = last_of i row heights } }

-- pps_tile_idx_delta_val, where it is coded: 18 where 7.4.3.5 forbids it; 19 where the walk without deltas leaves the
-- grid with slices to come
unfoldable pub delta_part : ℕ → ℕ → Bool → Bool → ℕ → ℕ → ℕ → Syntax ℤ
delta_part columns tiles deltas more t width height = do
  delta ← or_else (deltas && more) se (absent sameℤ (pos 0) 0) for (λ d. d)
  on_reading (not (deltas && more) || not (delta_refused tiles t delta)) 18 (lit< tt)
      (on_reading (not (not deltas && more) || ltb (default_advance columns t width height) tiles) 19 (lit< tt) (done delta))

-- the delta, and the tile of the next slice: the same, where none is to come
abbrev pub move_kept : ℕ → Bool → Bool → ℕ → ℕ → ℕ → ℤ → MoveRead
move_kept columns deltas more t width height delta =
    record {
      delta = cond (deltas && more) (Some delta) None;
      tile = record { 0 = cond more (cond deltas (tile_after_delta t delta) (default_advance columns t width height)) t };
    }
