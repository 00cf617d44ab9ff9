-- The slice loop: where writing its entries is refused nowhere and reading could have given them, the walk of the questions places them.
use Prim.Native.Nat.{ℕ, suc, ◌+◌, ◌-◌, ◌≤◌, ◌<◌}
use Rattle.std.specs.Prelude.{Bool, true, false, cond, ltb}
use mathlib.Core.List.{List, [], ◌∷◌, map}
use Rattle.std.proofs.Common.{arith}
use Rattle.partition.specs.Entry.{Entry, Position, asking, split_coded, split_heights, num_slices_in_tile, last_slice_of, next_position}
use Rattle.partition.specs.Grid.{Grid}
use Rattle.partition.proofs.Sizes.{some_size}
use Rattle.partition.specs.Walk as walks
use Rattle.partition.specs.Walk.{row_height_of, Walked, onward}
use Rattle.pps_syntax.specs.SliceSyntax.{RectSlice, entry_of, rect_slice_element}
use Rattle.syntax.specs.Element.{Element}
use Rattle.syntax.specs.Lists.{walk}

-- an entry gives at least one slice, so the walk moves on
some-slice : (hs : List ℕ) (row : ℕ) → 1 ≤ num_slices_in_tile hs row
unfolding num_slices_in_tile split_heights
some-slice [] row = omega arith
some-slice (h ∷ hs) row = some_size (h ∷ hs) row (λ z. omega arith)

pub moves-on : (g : Grid) (deltas : Bool) (k : Position) (e : Entry) → k.slice < (onward g deltas k e).slice
unfolding next_position last_slice_of
moves-on g deltas k e = split (split_coded e.width_minus1 e.height_minus1 (row_height_of g k.tile))
  where
    split : (b : Bool) → k.slice < suc (k.slice + cond b (num_slices_in_tile e.split_heights_minus1 (row_height_of g k.tile)) 1 - 1)
    split true = omega (arith, some-slice e.split_heights_minus1 (row_height_of g k.tile))
    split false = omega arith

module _ (g : Grid) (deltas : Bool) (N : ℕ) where
  -- the loop of the description with so many turns left
  abbrev pub turns_left : ℕ → Position → Element (List RectSlice)
  turns_left n k = walk n (λ p. ltb p.slice N) (rect_slice_element g deltas N) (λ p r. onward g deltas p (entry_of r)) 26 k

  -- what the questions' walk makes of the same entries
  abbrev pub walked : Position → List RectSlice → Walked
  walked k rs = walks.walk asking g deltas N k (map entry_of rs)
