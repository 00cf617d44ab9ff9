-- The slice loop over the tables: what is left of the walk at each turn.
use Prim.Native.Nat.{ℕ, suc, ◌+◌, ◌-◌, ◌≤◌, ◌<◌, min}
use Rattle.std.specs.Prelude.{◌≡◌, refl, List, ◌∷◌, map, Bool, true, false, not, ◌&&◌, length, take, drop, Result}
use Rattle.std.specs.Result.{result_unwrap_or}
use Rattle.refusal.specs.declared.Refusal.{Refusal}
use Rattle.slice_loop.specs.declared.TileIdx.{TileIdx}
use Rattle.std.proofs.Math.Path.{ap}
use Rattle.std.proofs.Common.{◌∙◌, leb-false}
use Rattle.std.specs.Bool.{beq}
use native.Mathlib.Omega.{arith}
use Rattle.partition.specs.Checks.{AllPass}
use Rattle.partition.specs.Entry.{Entry, Position, first_position, next_position, default_advance, delta_refused, next_tile, move_checks}
use Rattle.partition.specs.Grid.{Grid, columns}
use Rattle.partition.specs.Walk.{row_height_of, onward}
use Rattle.pps_syntax.specs.SliceSyntax.{entry_of}
use Rattle.pps_syntax.specs.SliceTables.{SliceTables, split_count, slice_at, slices_from}
use Rattle.pps_tables.proofs.Places.{heights-held}
use Rattle.pps_tables.specs.declared.RectSliceEntry.{RectSliceEntry}
use Rattle.pps_tables.specs.Rows.{entry_of as fields_of}
use Rattle.syntax.specs.Elements.{is_set}
use Rattle.slice_loop.specs.Laws.{held-tile, delta-tile}
use Rattle.slice_loop.specs.Loop.{position}
use Rattle.question_tests.specs.Steps.{moved_to}
use Rattle.question_tests.specs.Tables.{entry_at, entry_with}

-- ---- the explicit slice heights of an entry

module _ (t : SliceTables) where
  -- the entries from entry i on, their heights from place j on
  abbrev pub entries_from : ℕ → ℕ → ℕ → List Entry
  entries_from i j n = map entry_of (slices_from t i j n)

  -- the first of them, its heights in a part of their table
  pub first_entry : (i j n from to : ℕ) → i < n → from ≡ min (length t.split_heights) j → to ≡ min (length t.split_heights) (from + split_count t i)
      → entries_from i j (n - i) ≡ entry_with (entry_at t i) (take (to - from) (drop from t.split_heights)) ∷ entries_from (i + 1) (j + split_count t i) (n - (i + 1))
  unfolding slices_from slice_at fields_of
  first_entry i j n from to h p q =
      let z : n - i ≡ suc (n - (i + 1)) = omega arith in
      rw (z, heights-held t.split_heights (split_count t i) j from to p q)

-- ---- where the loop stands

-- The loop's numbers stand for a position of the walk and a place in the table of split heights; the tile counts while slices are to come.
pub record StandsAt (N : ℕ) (t : SliceTables) (at : Position) (j slice tile preceding from : ℕ) : Type 0 where
  pub slice_is : slice ≡ at.slice
  pub tile_is : slice ≤ N → tile ≡ at.tile
  pub precedes : preceding ≡ at.preceding_height_minus1
  pub place_is : from ≡ min (length t.split_heights) j

positions : {a b c a' b' c' : ℕ} → a ≡ a' → b ≡ b' → c ≡ c' → position a b c ≡ position a' b' c'
positions p q r = rw (p, q, r)

pub stands-first : (N : ℕ) (t : SliceTables) → StandsAt N t first_position 0 0 0 0 0
stands-first N t = record { slice_is = refl; tile_is = λ _. refl; precedes = refl; place_is = omega arith }

module _ {N : ℕ} {t : SliceTables} {at : Position} {j slice tile preceding from : ℕ} (S : StandsAt N t at j slice tile preceding from) where
  pub stands_here : slice ≤ N → position slice tile preceding ≡ at
  stands_here l = positions S.slice_is (S.tile_is l) S.precedes

  -- after an entry whose step was right
  pub stands_after : (g : Grid) (d : Bool) (e : RectSliceEntry) (hs : List ℕ) (c slice' tile' to : ℕ) → slice ≤ N
      → slice' ≡ (next_position (columns g) d (row_height_of g tile) (position slice tile preceding) (entry_with e hs)).slice
      → (slice' ≤ N → tile' ≡ (next_position (columns g) d (row_height_of g tile) (position slice tile preceding) (entry_with e hs)).tile)
      → to ≡ min (length t.split_heights) (from + c)
      → StandsAt N t (onward g d at (entry_with e hs)) (j + c) slice' tile' e.height to
  unfolding next_position
  stands_after g d e hs c slice' tile' to l p q r =
      record {
        slice_is = p ∙ ap (λ (k : Position). (onward g d k (entry_with e hs)).slice) (stands_here l);
        tile_is = λ m. q m ∙ ap (λ (k : Position). (onward g d k (entry_with e hs)).tile) (stands_here l);
        precedes = refl;
        place_is = omega (arith, S.place_is);
      }

-- ---- the next tile

-- where the way to it passed and slices are to come
pub tile-after : (C T : ℕ) (d : Bool) (t : ℕ) (e : RectSliceEntry) (hs : List ℕ) → T ≤ 4294967295 → AllPass (move_checks C T d true t (entry_with e hs)) → (moved_to C T d t e).0 ≡ next_tile C d t (entry_with e hs)
unfolding move_checks AllPass moved_to next_tile
tile-after C T true t e hs small a =
    ap (λ (r : Result TileIdx Refusal). (result_unwrap_or r (record { 0 = 0 })).0) (delta-tile T t e.delta small (present (is_set e.delta_present) a.0 (delta_refused T t e.delta) a.1.1.0))
  where
    present : (b : Bool) → not (beq b true) ≡ false → (r : Bool) → (b && r) ≡ false → r ≡ false
    present true p r q = q
    present false p r q = absurd (let z : ◌≡◌ {A = ℕ} 0 1 = cc in omega arith)
tile-after C T false t e hs small a = held-tile (default_advance C t e.width e.height) (omega (arith, leb-false T (default_advance C t e.width e.height) a.1.1.1.0))
