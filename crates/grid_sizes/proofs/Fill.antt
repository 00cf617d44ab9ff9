-- The sizes of an axis, written one by one to the front of a table.
use mathlib.Core.Path.{◌≡◌, refl, ap, ap₂, sym, ◌∙◌}
use mathlib.Core.List.{List, [], ◌∷◌, ◌++◌, append_assoc, append-nil}
use Prim.Native.Nat.{ℕ, ◌+◌, ◌-◌, ◌≤◌, ◌<◌, min}
use native.Mathlib.Numerals.{add-one}
use native.Mathlib.Omega.{arith}
use lib.ListN.{length, get_or, take, drop, set, length-append, length-set, length-take, take-append-drop}
use lib.Seq.{drop-drop, take-suc-set, drop-set-lt}
use Rattle.partition.specs.Grid.{max_tile_columns, max_tiles}
use Rattle.partition.specs.Sizes.{axis_sizes, Fit}
use Rattle.tile_sizes.specs.Answers.{next_size}
use Rattle.tile_sizes.specs.Left.{sizes_left, next_fits, next-left, end-left, last-is}
use Rattle.tile_sizes.specs.Padded.{table_of}
use Rattle.grid_sizes.specs.Answers.{grid_of_sizes}

-- ---- the table

-- What holds before size j is written: `whole` are all sizes, `old` was the table.
pub record Filling (es whole : List ℕ) (u : ℕ) (old out : List ℕ) (remaining j : ℕ) : Type 0 where
  pub done : whole ≡ take j out ++ sizes_left (drop j es) u remaining
  pub rest : drop j out ≡ drop j old
  pub size : length out ≡ length old
  pub fit : Fit (drop j es) remaining
  pub within : j ≤ length out
  pub some : 1 ≤ u
  pub room : length whole ≤ length old

pub filling_begins : (es old : List ℕ) (total : ℕ) → 1 ≤ length es → Fit es total → length (axis_sizes es total) ≤ length old
    → Filling es (axis_sizes es total) (get_or es (length es - 1) 0 + 1) old old total 0
unfolding axis_sizes sizes_left
filling_begins es old total h f l =
    record { done = rw (last-is es h); rest = refl; size = refl; fit = f; within = omega arith; some = omega arith; room = l }

module _ (es whole : List ℕ) (u : ℕ) (old out : List ℕ) (remaining j s : ℕ) (more : 1 ≤ remaining) (made : s ≡ min (next_size (drop j es) u remaining) remaining) (f : Filling es whole u old out remaining j) where
  next : (1 ≤ next_size (drop j es) u remaining) × (next_size (drop j es) u remaining ≤ remaining) × Fit (drop 1 (drop j es)) (remaining - next_size (drop j es) u remaining)
  next = next_fits (drop j es) u remaining f.some more f.fit

  e : s ≡ next_size (drop j es) u remaining
  e = omega (arith, next.1)

  pub has_room : j < length out
  has_room =
      omega (
        arith,
        ap length f.done,
        length-append (take j out) (sizes_left (drop j es) u remaining),
        length-take j out,
        ap length (next-left (drop j es) u remaining f.some more f.fit),
        f.room,
        f.size,
      )

  pub filling_goes-on : Filling es whole u old (set out j s) (remaining - s) (j + 1)
  filling_goes-on =
      record {
        done =
            f.done
            ∙ ap (λ (l : List ℕ). take j out ++ l) (next-left (drop j es) u remaining f.some more f.fit)
            ∙ sym (append_assoc (take j out) (next_size (drop j es) u remaining ∷ []) (sizes_left (drop 1 (drop j es)) u (remaining - next_size (drop j es) u remaining)))
            ∙ rw (drop-drop 1 j es, add-one j, take-suc-set out j s has_room, e);
        rest = drop-set-lt (j + 1) out j s (omega arith) ∙ sym (drop-drop 1 j out) ∙ ap (λ (l : List ℕ). drop 1 l) f.rest ∙ drop-drop 1 j old;
        size = length-set out j s ∙ f.size;
        fit = rw (← drop-drop 1 j es, e) next.2;
        within = omega (arith, length-set out j s, has_room);
        some = f.some;
        room = f.room;
      }

pub filling_ends : (es whole : List ℕ) (u : ℕ) (old out : List ℕ) (remaining j : ℕ) → remaining ≡ 0 → Filling es whole u old out remaining j
    → out ≡ whole ++ drop (length whole) old
filling_ends es whole u old out remaining j z f =
    let n : length whole ≡ j = ap length w ∙ length-take j out ∙ omega (arith, f.within) in
    sym (take-append-drop j out) ∙ ap₂ (λ (a b : List ℕ). a ++ b) (sym w) (rw n f.rest)
  where
    w : whole ≡ take j out
    w = f.done ∙ ap (λ (l : List ℕ). take j out ++ l) (end-left (drop j es) u remaining z f.fit) ∙ append-nil (take j out)

pub grid-made : (ws hs a b : List ℕ) (columns rows : ℕ) → columns ≡ length ws → rows ≡ length hs → a ≡ table_of max_tile_columns ws → b ≡ table_of max_tiles hs
    → record { num_tile_columns = columns; num_tile_rows = rows; column_widths = a; row_heights = b } ≡ grid_of_sizes ws hs
unfolding grid_of_sizes
grid-made ws hs a b columns rows e f p q = rw (e, f, p, q)
