-- One entry of the slice loop: writing it by the description refuses with the number of the first check that fails, in the order of the one list of checks.
use Prim.Native.Nat.{ℕ, ◌≤◌}
use Rattle.partition.specs.Grid.{Grid, columns, rows}
use Rattle.partition.specs.Walk.{row_height_of}

-- a grid whose numbers all have a code of 32 bits
pub record Codable (g : Grid) : Type 0 where
  pub few-columns : columns g ≤ 4294967295
  pub few-rows : rows g ≤ 4294967295
  pub low_rows : (t : ℕ) → row_height_of g t ≤ 4294967295
