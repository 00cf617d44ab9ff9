-- What reading an entry of the slice loop gives.
use Rattle.std.specs.Prelude.{ℕ, ◌+◌, ◌≤◌, ◌<◌, ◌≡◌, List, [], ◌∷◌, Bool, Result, Ok, Err, pos, length}
use Rattle.std.specs.Option.{is_some, unwrap_or}
use Rattle.refusal.specs.declared.Refusal.{Refusal}
use Rattle.bit_reader.specs.declared.BitReader.{BitReader}
use Rattle.bit_reader.specs.Gives.{Gives, value_read}
use Rattle.partition.specs.Entry.{Position}
use Rattle.partition.specs.Grid.{Grid}
use Rattle.partition.specs.Walk.{onward}
use Rattle.slice_loop.specs.Loop.{Follows}
use Rattle.syntax.specs.Elements.{one_if}
use Rattle.syntax.specs.Syntax.{parse}
use Rattle.pps_syntax.specs.SliceSyntax.{RectSlice, entry_of, rect_slice}
use Rattle.pps_syntax.specs.SliceTables.{bits_of_delta}
use Rattle.pps_slices.specs.declared.entry.RectSliceRead.{RectSliceRead}

-- an entry that was read, with its explicit slice heights
abbrev pub slice_of : RectSliceRead → List ℕ → RectSlice
slice_of r heights =
    record {
      pps_slice_width_in_tiles_minus1 = r.width;
      pps_slice_height_in_tiles_minus1 = r.height;
      split_present = one_if (is_some r.split_count);
      pps_exp_slice_height_in_ctus_minus1 = heights;
      delta_present = one_if (is_some r.delta);
      pps_tile_idx_delta_val = unwrap_or r.delta (pos 0);
    }

-- the row that holds it
abbrev pub read_row : RectSliceRead → List ℕ
read_row r =
    r.width ∷ r.height ∷ one_if (is_some r.split_count) ∷ unwrap_or r.split_count 0 ∷ one_if (is_some r.delta) ∷ bits_of_delta (unwrap_or r.delta (pos 0)) ∷ []

module _ (g : Grid) (deltas : Bool) (N : ℕ) (k : Position) where
  -- the explicit slice heights that are read, also where the entry is refused
  abbrev pub heights_read : BitReader → List ℕ
  heights_read p = (value_read (parse (rect_slice g deltas N k)) p).pps_exp_slice_height_in_ctus_minus1

  module _ (p q : BitReader) where
    pub record EntryHeld (r : RectSliceRead) : Type 0 where
      pub gives : Gives (parse (rect_slice g deltas N k)) p q (Ok (slice_of r (heights_read p)))
      pub count : unwrap_or r.split_count 0 ≡ length (heights_read p)
      -- a slice for each explicit height, and one at least
      pub moves : (k.slice + length (heights_read p) ≤ (onward g deltas k (entry_of (slice_of r (heights_read p)))).slice)
          × (k.slice < (onward g deltas k (entry_of (slice_of r (heights_read p)))).slice)
      pub precedes : r.next.preceding_height ≡ r.height
      pub follows : Follows N r.next.slice.0 r.next.tile.0 (onward g deltas k (entry_of (slice_of r (heights_read p))))

    -- the entry is held, and what is next; or its refusal
    abbrev pub EntryRead : Result RectSliceRead Refusal → Type 0
    EntryRead (Ok r) = EntryHeld r
    EntryRead (Err e) = Gives (parse (rect_slice g deltas N k)) p q (Err e)
