-- The tables lent to be read, as a function finds them: definitions over the `&` parameters themselves, for contracts (Mutable: `&mut`).
use Rattle.std.specs.Prelude.{ℕ, List}
use Rattle.std.specs.Borrow.{Bor}
use denote.Triple.Both.{Both}
use Rattle.pps_syntax.specs.FromRecord.{Lent, lent}
use Rattle.pps_syntax.specs.SliceTables.{SliceTables, slice_tables}

-- a lent slice of numbers, and a lent slice of rows
abbrev pub Numbers : Type 0
Numbers = Both (Bor (List ℕ)) (Bor (List ℕ))

abbrev pub Rows : Type 0
Rows = Both (Bor (List (List ℕ))) (Bor (List (List ℕ)))

abbrev pub slices_before : Rows → Numbers → SliceTables
slices_before entries split_heights = slice_tables entries.entry.now split_heights.entry.now

abbrev pub slices_after : Rows → Numbers → SliceTables
slices_after entries split_heights = slice_tables entries.exit.now split_heights.exit.now

-- all of them, in the order in which they are lent
abbrev pub before : Numbers → Numbers → Numbers → Rows → Numbers → Lent
before ids columns rows entries split_heights = lent ids.entry.now columns.entry.now rows.entry.now (slices_before entries split_heights)

abbrev pub after : Numbers → Numbers → Numbers → Rows → Numbers → Lent
after ids columns rows entries split_heights = lent ids.exit.now columns.exit.now rows.exit.now (slices_after entries split_heights)
