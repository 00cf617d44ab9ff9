-- The slice loop over the tables: where it stands, what a step gives, and what is left.
use Rattle.std.specs.Prelude.{ℕ, ◌≤◌, ◌≡◌, List, [], ◌∷◌, length, Bool, cond, ◌&&◌, leb, ltb, Result, IfOk}
use Rattle.refusal.specs.declared.Refusal.{Refusal}
use Rattle.refusal.specs.Numbers.{refused}
use Rattle.std.specs.Result.{result_unwrap_or}
use Rattle.partition.specs.Checks.{Check, refuse, first_bad, number_of}
use Rattle.partition.specs.Sizes.{sum, explicit_sizes}
use Rattle.partition.specs.Entry.{Entry, Position, asking, default_advance, some_at_least, entry_checks, next_position}
use Rattle.partition.specs.Grid.{Grid, grid_with}
use Rattle.pps_tables.specs.declared.RectSliceEntry.{RectSliceEntry}
use Rattle.pps_tables.specs.Parameters.{Numbers}
use Rattle.slice_loop.specs.declared.TileIdx.{TileIdx}
use Rattle.slice_loop.specs.Answers.{tile_idx_of, next_by_delta}
use Rattle.slice_loop.specs.declared.LoopPosition.{LoopPosition}

-- the columns and rows lent to a function
abbrev pub grid_before : Numbers → Numbers → Grid
grid_before columns rows = grid_with columns.entry.now rows.entry.now

-- The next slice's tile, as far as it is one.
unfoldable pub moved_to : ℕ → ℕ → Bool → ℕ → RectSliceEntry → TileIdx
moved_to columns tiles deltas t e = cond deltas (result_unwrap_or (next_by_delta tiles t e.delta) (record { 0 = 0 })) (tile_idx_of (default_advance columns t e.width e.height))

-- The checks of 16 among `split_checks`.
abbrev pub heights_checks : Bool → ℕ → List ℕ → List Check
heights_checks split row_height hs =
    refuse 16 (split && leb row_height (length hs))
    ∷ refuse 16 (split && some_at_least row_height hs)
    ∷ refuse 16 (split && ltb row_height (sum (explicit_sizes hs)))
    ∷ []

-- A step over an entry: its refusal, or where the next one stands; the tile counts while there are slices to come.
pub record Stepped (columns rows row_height : ℕ) (deltas : Bool) (N : ℕ) (k : Position) (e : Entry) (r : Result LoopPosition Refusal) : Type 0 where
  pub number : refused r ≡ number_of (first_bad (entry_checks asking columns rows row_height deltas N k e))
  pub next : IfOk r (λ s.
      (s.slice.0 ≡ (next_position columns deltas row_height k e).slice)
      × (s.slice.0 ≤ N → s.tile.0 ≡ (next_position columns deltas row_height k e).tile)
      × (s.preceding_height ≡ e.height_minus1))
