-- The next tile, by the definitions of `partition`.
use Rattle.std.specs.Prelude.{cond, ℕ, min, ℤ, Result, Ok, Err}
use Rattle.refusal.specs.declared.Refusal.{Refusal}
use Rattle.refusal.specs.declared.Refusal.TheVariants.{TileIdxDelta}
use Rattle.partition.specs.Entry.{tile_after_delta, delta_refused}
use Rattle.slice_loop.specs.declared.TileIdx.{TileIdx}

-- A tile index held in 32 bits: one that is beyond, which is that of no tile, stays at the highest.
unfoldable pub tile_idx_of : ℕ → TileIdx
tile_idx_of t = record { 0 = min 4294967295 t }

-- The tile after the delta, or 18.
unfoldable pub next_by_delta : ℕ → ℕ → ℤ → Result TileIdx Refusal
next_by_delta tiles t d = cond (delta_refused tiles t d) (Err TileIdxDelta) (Ok (tile_idx_of (tile_after_delta t d)))
