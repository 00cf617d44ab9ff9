-- A row of the table of slice entries, by its parts.
use Rattle.std.specs.Prelude.{ℕ, ◌≡◌, ◌≤◌, List, [], ◌∷◌, ℤ, pos, length, get_or}
use Rattle.std.proofs.Math.ListN.{get_or-eq_default}
use Rattle.pps_tables.specs.declared.RectSliceEntry.{RectSliceEntry}
use Rattle.pps_syntax.specs.SliceTables.{delta_of_bits}

-- a row of zeros
abbrev pub no_entry : List ℕ
no_entry = 0 ∷ 0 ∷ 0 ∷ 0 ∷ 0 ∷ 0 ∷ []

unfoldable pub entry_of : List ℕ → RectSliceEntry
entry_of row =
    record {
      width = get_or row 0 0;
      height = get_or row 1 0;
      split_present = get_or row 2 0;
      split_count = get_or row 3 0;
      delta_present = get_or row 4 0;
      delta = delta_of_bits (get_or row 5 0);
    }

-- ---- how code comes to it
pub entry-made : (row : List ℕ) (d : ℤ) → d ≡ delta_of_bits (get_or row 5 0)
    → record { width = get_or row 0 0; height = get_or row 1 0; split_present = get_or row 2 0; split_count = get_or row 3 0; delta_present = get_or row 4 0; delta = d } ≡ entry_of row
unfolding entry_of
entry-made row d e = rw e

-- past the table's end an entry is all zeros
pub entry-none : (t : List (List ℕ)) (i : ℕ) → length t ≤ i
    → record { width = 0; height = 0; split_present = 0; split_count = 0; delta_present = 0; delta = pos 0 } ≡ entry_of (get_or t i [])
unfolding entry_of delta_of_bits
entry-none t i h = rw (get_or-eq_default t [] h)
