-- What holds at each row on the way down a column.
use Rattle.std.specs.Prelude.{◌≡◌, List, ℕ, suc, ◌+◌, ◌-◌, ◌*◌, ◌≤◌, ◌<◌, length, get_or}
use Rattle.std.proofs.Common.{ap, ◌∙◌, add-mul, one-mul, zero-mul, mul_comm, zero-add, mul-le-mul_right, arith}
use Rattle.std.proofs.Math.Arith.{digits_lt, digits_div, digits_mod}
use Rattle.partition.specs.Cover.{Cover}
use Rattle.partition.specs.Grid.{max_tiles, max_slices}
use Rattle.partition.specs.Groups.{Group, groups_at}
use Rattle.tile_grid.specs.Edges.{top_row, past_row, marked, AllZero, edges_at, edges_above, marked-at, above-none, above-next, above_most, groups-between}
use Rattle.tile_grid.specs.Seen.{RightSeen, with_tile, seen_tile, seen_column}

-- The two tables of column x, down to the last of 990 rows.
pub record EdgeTables (ps : List Group) (x : ℕ) (starts ends : List ℕ) : Type 0 where
  pub begun : (y : ℕ) → y < max_tiles → get_or starts y 0 ≡ edges_at top_row ps x y
  pub ended : (y : ℕ) → y < max_tiles → get_or ends y 0 ≡ edges_at past_row ps x y

pub tables-made : (ps : List Group) (x : ℕ) (starts₀ ends₀ starts ends : List ℕ) → AllZero starts₀ → AllZero ends₀ → length starts₀ ≡ max_tiles → length ends₀ ≡ max_tiles
    → (starts ≡ marked top_row x ps starts₀) × (ends ≡ marked past_row x ps ends₀) → EdgeTables ps x starts ends
tables-made ps x s₀ e₀ s e zs ze ls le m =
    record {
      begun = λ y h. rw m.0 (marked-at top_row x ps s₀ y (rw ls h) ∙ ap (λ (n : ℕ). n + edges_at top_row ps x y) (zs y) ∙ zero-add (edges_at top_row ps x y));
      ended = λ y h. rw m.1 (marked-at past_row x ps e₀ y (rw le h) ∙ ap (λ (n : ℕ). n + edges_at past_row ps x y) (ze y) ∙ zero-add (edges_at past_row ps x y));
    }

pub row_inside : (columns rows x y : ℕ) → x < columns → columns * rows ≤ max_tiles → y < rows → y < max_tiles
row_inside columns rows x y wide small h = let m : 1 * rows ≤ columns * rows = mul-le-mul_right rows (omega arith) in omega (arith, one-mul rows)

module _ (columns rows : ℕ) (ps : List Group) (x : ℕ) where
  -- at row y: its tile, and the groups at the tile above it
  pub record Down (y tile count : ℕ) (c : Cover) : Type 0 where
    pub inside : y ≤ rows
    pub numbered : tile ≡ y * columns + x
    pub counted : count + edges_above past_row ps x y ≡ edges_above top_row ps x y
    pub right : RightSeen columns rows (groups_at ps) x y c

  pub down-begins : (c : Cover) → RightSeen columns rows (groups_at ps) x 0 c → Down 0 x 0 c
  down-begins c r =
      record {
        inside = omega arith;
        numbered = omega (arith, zero-mul columns);
        counted = omega (arith, above-none past_row ps x, above-none top_row ps x);
        right = r;
      }

  module _ (wide : x < columns) (small : columns * rows ≤ max_tiles) where
    module _ (starts ends : List ℕ) (t : EdgeTables ps x starts ends) (y tile count : ℕ) (c : Cover) (d : Down y tile count c) (l : y < rows) where
      inner : y < max_tiles
      inner = row_inside columns rows x y wide small l

      counts : count + get_or starts y 0 ≡ groups_at ps x y + get_or ends y 0
      counts =
          omega (
            arith,
            t.begun y inner,
            t.ended y inner,
            d.counted,
            above-next top_row ps x y,
            above-next past_row ps x y,
            groups-between ps x y,
          )

      pub down_fits : length ps ≤ max_slices → count + get_or starts y 0 < 4294967296
      down_fits h = omega (arith, t.begun y inner, d.counted, above-next top_row ps x y, above_most top_row ps x (suc y))

      pub down-within : get_or ends y 0 ≤ count + get_or starts y 0
      down-within = omega (arith, counts)

      tile-inside : tile < columns * rows
      tile-inside = rw (d.numbered, mul_comm columns rows) (digits_lt l wide)

      pub down-goes-on : (n : ℕ) (c' : Cover) → n ≡ count + get_or starts y 0 - get_or ends y 0 → c' ≡ with_tile c tile n → Down (y + 1) (tile + columns) n c'
      down-goes-on n c' e f =
          record {
            inside = omega arith;
            numbered = omega (arith, d.numbered, add-mul y 1 columns, one-mul columns);
            counted = next;
            right =
                rw f
                (seen_tile columns rows (groups_at ps) x y tile n
                (rw d.numbered (digits_mod y wide))
                (rw d.numbered (digits_div y wide))
                tile-inside
                same
                c
                d.right);
          }
        where
          same : n ≡ groups_at ps x y
          same = omega (arith, counts)

          suc_one : y + 1 ≡ suc y
          suc_one = omega arith

          next : n + edges_above past_row ps x (y + 1) ≡ edges_above top_row ps x (y + 1)
          next = rw suc_one (omega (arith, same, groups-between ps x y))

  pub down_ends : (y tile count : ℕ) (c : Cover) → rows ≤ y → Down y tile count c → RightSeen columns rows (groups_at ps) (x + 1) 0 c
  down_ends y tile count c h d = let e : y ≡ rows = omega (arith, d.inside) in seen_column columns rows (groups_at ps) x c (rw e at d.right)
