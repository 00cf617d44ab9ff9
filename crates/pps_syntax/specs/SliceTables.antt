-- The slice entries in the tables that a caller lends: a row of six numbers for each entry, entry i in row i, and the split heights of all entries one behind the other.
use Rattle.std.specs.Prelude.{ℕ, zero, suc, ◌+◌, ◌-◌, ◌<◌, ◌^◌, ◌≡◌, cond, List, [], ◌∷◌, ◌++◌, map, ltb, ℤ, pos, negsuc, length, get_or, take, drop}
use Rattle.std.proofs.Common.{arith, lt-ltb, le-ltb, SFits}
use Rattle.std.proofs.lemmas.List.Edits.{sets}
use Rattle.std.specs.Int.{w32}
use Rattle.syntax.specs.Elements.{is_set}
use Rattle.pps_syntax.specs.SliceSyntax.{RectSlice}

pub record SliceTables : Type 0 where
  pub entries : List (List ℕ)
  pub split_heights : List ℕ

abbrev pub slice_tables : List (List ℕ) → List ℕ → SliceTables
slice_tables es sh = record { entries = es; split_heights = sh }

-- ---- a delta as its 32 bits (two's complement), and back
unfoldable pub bits_of_delta : ℤ → ℕ
bits_of_delta (pos n) = n
bits_of_delta (negsuc n) = 4294967295 - n

unfoldable pub delta_of_bits : ℕ → ℤ
delta_of_bits b = cond (ltb b 2147483648) (pos b) (negsuc (4294967295 - b))

pub delta-back : (z : ℤ) → SFits w32 z → delta_of_bits (bits_of_delta z) ≡ z
unfolding bits_of_delta delta_of_bits
delta-back (pos n) f = let s : n < 2 ^ 31 = f.sfits in rw (lt-ltb n 2147483648 s)
delta-back (negsuc n) f =
    let s : n < 2 ^ 31 = f.sfits in
    let e : 4294967295 - (4294967295 - n) ≡ n = omega arith in
    rw (le-ltb (4294967295 - n) 2147483648 (omega arith), e)

-- ---- an entry as a row: width, height, split present, split count, delta present, the delta's bits
unfoldable pub row_of : RectSlice → List ℕ
row_of r =
    r.pps_slice_width_in_tiles_minus1 ∷ r.pps_slice_height_in_tiles_minus1 ∷ r.split_present ∷ length r.pps_exp_slice_height_in_ctus_minus1 ∷ r.delta_present
    ∷ bits_of_delta r.pps_tile_idx_delta_val ∷ []

-- the split heights of all entries, in order
unfoldable pub all_split_heights : List RectSlice → List ℕ
all_split_heights [] = []
all_split_heights (r ∷ rs) = r.pps_exp_slice_height_in_ctus_minus1 ++ all_split_heights rs

-- the tables after the entries were put from row i on, their split heights from place j on. A store outside a table does nothing
unfoldable pub put_slices : SliceTables → ℕ → ℕ → List RectSlice → SliceTables
put_slices t i j rs = record { entries = sets t.entries i (map row_of rs); split_heights = sets t.split_heights j (all_split_heights rs) }

-- row i, none outside, and so 0 at each of its places
abbrev pub row_at : SliceTables → ℕ → List ℕ
row_at t i = get_or t.entries i []

-- what stands in a row, at its places
abbrev pub width_in : List ℕ → ℕ
width_in row = get_or row 0 0

abbrev pub height_in : List ℕ → ℕ
height_in row = get_or row 1 0

abbrev pub split_present_in : List ℕ → ℕ
split_present_in row = get_or row 2 0

abbrev pub split_count_in : List ℕ → ℕ
split_count_in row = get_or row 3 0

abbrev pub delta_present_in : List ℕ → ℕ
delta_present_in row = get_or row 4 0

abbrev pub delta_bits_in : List ℕ → ℕ
delta_bits_in row = get_or row 5 0

-- how many split heights entry i has: none where its split part is absent
unfoldable pub split_count : SliceTables → ℕ → ℕ
split_count t i = cond (is_set (split_present_in (row_at t i))) (split_count_in (row_at t i)) 0

-- entry i of the tables, its split heights starting at place j
unfoldable pub slice_at : SliceTables → ℕ → ℕ → RectSlice
slice_at t i j =
    record {
      pps_slice_width_in_tiles_minus1 = width_in (row_at t i);
      pps_slice_height_in_tiles_minus1 = height_in (row_at t i);
      split_present = split_present_in (row_at t i);
      pps_exp_slice_height_in_ctus_minus1 = take (split_count t i) (drop j t.split_heights);
      delta_present = delta_present_in (row_at t i);
      pps_tile_idx_delta_val = delta_of_bits (delta_bits_in (row_at t i));
    }

-- n entries from entry i on
unfoldable pub slices_from : SliceTables → ℕ → ℕ → ℕ → List RectSlice
slices_from t i j zero = []
slices_from t i j (suc n) = slice_at t i j ∷ slices_from t (i + 1) (j + split_count t i) n

-- the split heights that n entries from entry i on take in all
unfoldable pub split_total : SliceTables → ℕ → ℕ → ℕ
split_total t i zero = 0
split_total t i (suc n) = split_count t i + split_total t (i + 1) n
