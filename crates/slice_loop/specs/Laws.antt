-- Laws on the next tile, for callers.
use Rattle.std.specs.Prelude.{◌≡◌, Bool, ℕ, ◌≤◌, min, leb, ℤ, Ok, Err}
use Rattle.std.proofs.Math.Path.{refl, ap}
use Rattle.std.proofs.Math.Bool.{true, false, cond}
use Rattle.std.proofs.Common.{arith, leb-true, leb-false, le-leb}
use Rattle.std.proofs.lemmas.Bool.{lt-leb}
use Rattle.refusal.specs.declared.Refusal.TheVariants.{TileIdxDelta}
use Rattle.refusal.specs.Numbers.{number, refused}
use Rattle.partition.specs.Entry.{tile_after_delta, delta_refused}
use Rattle.partition.proofs.Placed.{delta-inside}
use Rattle.slice_loop.specs.Answers.{tile_idx_of, next_by_delta}

pub held-tile : (t : ℕ) → t ≤ 4294967295 → (tile_idx_of t).0 ≡ t
unfolding tile_idx_of
held-tile t h = omega arith

-- held or not, a tile index is outside the same grids
pub held_outside : (tiles t : ℕ) → tiles ≤ 4294967295 → leb tiles (tile_idx_of t).0 ≡ leb tiles t
unfolding tile_idx_of
held_outside tiles t h = split (leb tiles t) refl
  where
    split : (b : Bool) → leb tiles t ≡ b → leb tiles (min 4294967295 t) ≡ b
    split true e = le-leb tiles (min 4294967295 t) (omega (arith, leb-true tiles t e))
    split false e = lt-leb tiles (min 4294967295 t) (omega (arith, leb-false tiles t e))

module _ (tiles t : ℕ) (d : ℤ) where
  pub delta-number : refused (next_by_delta tiles t d) ≡ cond (delta_refused tiles t d) 18 0
  unfolding next_by_delta refused number
  delta-number = go (delta_refused tiles t d)
    where
      go : (b : Bool) → refused (cond b (Err TileIdxDelta) (Ok (tile_idx_of (tile_after_delta t d)))) ≡ cond b 18 0
      go true = refl
      go false = refl

  pub delta-tile : tiles ≤ 4294967295 → delta_refused tiles t d ≡ false → next_by_delta tiles t d ≡ Ok (record { 0 = tile_after_delta t d })
  unfolding next_by_delta
  delta-tile h e =
      let k : (tile_idx_of (tile_after_delta t d)).0 ≡ tile_after_delta t d = held-tile (tile_after_delta t d) (omega (arith, delta-inside tiles t d e)) in
      rw e (ap (λ (n : ℕ). Ok (record { 0 = n })) k)
