-- Laws on the next tile by a delta, for callers.
use Rattle.std.specs.Prelude.{◌≡◌, Bool, ℕ, ℤ, is_ok, Ok, Err}
use Rattle.std.proofs.Math.Path.{refl}
use Rattle.std.proofs.Math.Bool.{true, false, cond, not}
use Rattle.refusal.specs.declared.Refusal.TheVariants.{TileIdxDelta}
use Rattle.partition.specs.Entry.{tile_after_delta, delta_refused}
use Rattle.slice_loop.specs.Answers.{tile_idx_of, next_by_delta}

pub delta-ok : (tiles t : ℕ) (d : ℤ) → is_ok (next_by_delta tiles t d) ≡ not (delta_refused tiles t d)
unfolding next_by_delta
delta-ok tiles t d = go (delta_refused tiles t d)
  where
    go : (b : Bool) → is_ok (cond b (Err TileIdxDelta) (Ok (tile_idx_of (tile_after_delta t d)))) ≡ not b
    go true = refl
    go false = refl
