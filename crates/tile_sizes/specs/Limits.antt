-- Grids within the limits of Table A.2.
use Rattle.std.specs.Prelude.{ℕ, zero, suc, ◌*◌, ◌/◌, ◌≤◌, ◌≡◌, refl, Bool, true, false, ◌&&◌, eqb, leb}
use Rattle.std.proofs.Common.{sym, ◌∙◌, div-mul-le_self, div-le_self, mul-le-mul_right, arith, leb-true, ne_eqb}
use Rattle.std.proofs.Math.Nat.{div-zero}
use Rattle.std.proofs.lemmas.Bool.{lt-leb}
use Rattle.partition.specs.Grid.{max_tile_columns, max_tiles}

-- at most 30 columns, and rows up to 990 div columns
unfoldable pub within_limits : ℕ → ℕ → Bool
within_limits columns rows = leb columns max_tile_columns && leb rows (max_tiles / columns)

-- what the limits say
pub record Limited (columns rows : ℕ) : Type 0 where
  pub few : columns ≤ max_tile_columns
  pub low : rows ≤ max_tiles
  pub tiles_fit : rows * columns ≤ max_tiles

pub limits_held : (columns rows : ℕ) → within_limits columns rows ≡ true → Limited columns rows
unfolding within_limits
limits_held columns rows e =
    let p = both (leb columns max_tile_columns) (leb rows (max_tiles / columns)) e in
    let low : rows ≤ max_tiles / columns = leb-true rows (max_tiles / columns) p.1 in
    record {
      few = leb-true columns max_tile_columns p.0;
      low = omega (arith, div-le_self max_tiles columns);
      tiles_fit = omega (arith, mul-le-mul_right columns low, div-mul-le_self max_tiles columns);
    }
  where
    both : (a b : Bool) → (a && b) ≡ true → (a ≡ true) × (b ≡ true)
    both true b h = (refl, h)
    both false b h = absurd (let z : ◌≡◌ {A = ℕ} 0 1 = cc in omega arith)

pub limits_none : (columns rows : ℕ) → columns ≡ 0 → eqb rows 0 ≡ within_limits columns rows
unfolding within_limits
limits_none columns rows e = rw (e, div-zero) (cases rows)
  where
    cases : (n : ℕ) → eqb n 0 ≡ leb n 0
    cases zero = refl
    cases (suc n) = ne_eqb (suc n) 0 (λ e. omega arith) ∙ sym (lt-leb (suc n) 0 (omega arith))

pub limits_made : (columns rows : ℕ) → (leb columns max_tile_columns && leb rows (max_tiles / columns)) ≡ within_limits columns rows
unfolding within_limits
limits_made columns rows = refl
