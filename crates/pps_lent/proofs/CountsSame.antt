-- The counts of a record are held against nothing but the rows of the table of slice entries.
use Rattle.std.specs.Prelude.{ℕ, zero, suc, ◌+◌, ◌≡◌, refl, List, []}
use Rattle.pps_record.specs.declared.VvcPps.{VvcPps}
use Rattle.pps_syntax.specs.FromRecord.{Lent, lent, counts_fit}
use Rattle.pps_syntax.specs.SliceTables.{SliceTables, slice_tables, split_count, split_total}

-- the table that says how many split heights an entry has
abbrev pub split_tables : List (List ℕ) → SliceTables
split_tables es = slice_tables es []

-- the tables that the counts of a record are held against
abbrev pub split_lent : List (List ℕ) → Lent
split_lent es = lent [] [] [] (split_tables es)

pub same_count : (t : SliceTables) (i : ℕ) → split_count (split_tables t.entries) i ≡ split_count t i
unfolding split_count
same_count t i = refl

same_total : (t : SliceTables) (i n : ℕ) → split_total (split_tables t.entries) i n ≡ split_total t i n
unfolding split_total
same_total t i zero = refl
same_total t i (suc n) = rw (same_count t i, same_total t (i + 1) n)

pub counts_same : (r : VvcPps) (t : Lent) → counts_fit r (split_lent t.slices.entries) ≡ counts_fit r t
unfolding counts_fit
counts_same r t = rw (same_total t.slices 0 r.partition.num_rect_slices)
