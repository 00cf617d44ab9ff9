-- The slice entries of a set fit their tables: no more entries than slices that are not the last, and no more split heights in all than slices.
use Prim.Native.Nat.{ℕ, zero, suc, ◌≤◌, ◌<◌}
use Rattle.std.specs.Prelude.{◌≡◌, Bool, true, false, ltb}
use Rattle.std.proofs.Math.Path.{refl}
use mathlib.Core.List.{List, [], ◌∷◌}
use Rattle.std.proofs.Math.Bool.{cond}
use native.Mathlib.Omega.{arith}
use Rattle.std.proofs.Common.{lit<}
use Rattle.std.proofs.Math.ListN.{length, length-append}
use borrow.Author.Tests.{ltb-false, ltb-true}
use Rattle.codes.specs.Symbols.{refusal_in}
use Rattle.partition.specs.Checks.{AllPass}
use Rattle.partition.specs.Entry.{Position, split_coded, split_heights, num_slices_in_tile, last_slice_of, next_position, size_checks, inherited_checks, split_checks, move_checks, entry_checks}
use Rattle.partition.specs.Grid.{Grid}
use Rattle.partition.proofs.Sizes.{length-sizes}
use Rattle.partition.specs.Walk.{row_height_of, onward}
use Rattle.pps_syntax.proofs.EntryAccepted.{entry-accepted}
use Rattle.pps_syntax.specs.SliceSyntax.{RectSlice, entry_of, slice_move, slice_split, slice_height, rect_slice, rect_slices}
use Rattle.pps_syntax.specs.SliceTables.{all_split_heights}
use Rattle.pps_syntax.specs.WalkAccepted.{turns_left, moves-on}
use Rattle.syntax.specs.Element.{Element}
use Rattle.syntax.specs.Elements.{ue, limited, or_else}
use Rattle.syntax.specs.Facts.{Facts, facts}
use Rattle.syntax.specs.Lists.{many, none, walk, not-true}
use Rattle.syntax.specs.Round.{and_parts, refusal_parts}
use Rattle.syntax.specs.Syntax.{◌>>=◌, symbols_for, refusal_for, canonical_for}
use Rattle.pps_syntax.specs.SlicesFit.{EntryFits, SlicesFit}

-- each explicit height is a slice's
heights-few : (hs : List ℕ) (row : ℕ) → length hs ≤ num_slices_in_tile hs row
unfolding num_slices_in_tile split_heights
heights-few [] row = omega arith
heights-few (h ∷ hs) row = omega (arith, length-sizes (h ∷ hs) row)

-- and where the tile is not split there is none
heights-none : (split : Bool) (row c : ℕ) (hs : List ℕ) → (or_else split (many c (limited ue (λ v. ltb v row) 16 (lit< tt)) 26) (none 0)).canonical hs ≡ true
    → length hs ≤ cond split (num_slices_in_tile hs row) 1
unfolding or_else
heights-none true row c hs h = heights-few hs row
heights-none false row c [] h = omega arith
heights-none false row c (x ∷ hs) h = absurd (not-true h)

module _ (g : Grid) (deltas : Bool) (N : ℕ) where
  pub entry-fits : (k : Position) (r : RectSlice) → refusal_for (rect_slice g deltas N k) r ≡ 0 → canonical_for (rect_slice g deltas N k) r ≡ true → EntryFits g deltas N k r
  unfolding rect_slice slice_height slice_split slice_move Facts ◌>>=◌ entry_checks size_checks inherited_checks split_checks move_checks AllPass next_position last_slice_of
  entry-fits k r h c =
      let size = facts (rect_slice g deltas N k) r h c in
      let split = size.1.1.1.1.1.1 in
      let row : ℕ = row_height_of g k.tile in
      let w : ℕ = r.pps_slice_width_in_tiles_minus1 in
      let v : ℕ = r.pps_slice_height_in_tiles_minus1 in
      let hs : List ℕ = r.pps_exp_slice_height_in_ctus_minus1 in
      let few : length hs ≤ cond (split_coded w v row) (num_slices_in_tile hs row) 1 = heights-none (split_coded w v row) row (length hs) hs split.1.1.1.0.1 in
      let last : ℕ = last_slice_of k.slice (entry_of r) row in
      let in_time : last ≤ N = ltb-false N last (entry-accepted g deltas N k r h c).1.1.1.1.1.1.1.0 in
      record { heights = omega (arith, few); inside = omega (arith, in_time) }

  no_more : (k : Position) → SlicesFit g deltas N k []
  unfolding all_split_heights
  no_more k = record { entries = omega arith; heights = λ h. omega arith }

  one_more : (k : Position) (r : RectSlice) (rs : List RectSlice) → k.slice < N → EntryFits g deltas N k r → SlicesFit g deltas N (onward g deltas k (entry_of r)) rs → SlicesFit g deltas N k (r ∷ rs)
  unfolding all_split_heights
  one_more k r rs more e f =
      record {
        entries = omega (arith, f.entries, moves-on g deltas k (entry_of r));
        heights = λ h. omega (arith, f.heights e.inside, e.heights, length-append r.pps_exp_slice_height_in_ctus_minus1 (all_split_heights rs));
      }

  turns_fit : (n : ℕ) (k : Position) (rs : List RectSlice) → refusal_in ((turns_left g deltas N n k).symbols rs) ≡ 0 → (turns_left g deltas N n k).canonical rs ≡ true → SlicesFit g deltas N k rs
  unfolding walk or_else
  turns_fit zero k [] h c = no_more k
  turns_fit zero k (r ∷ rs) h c = absurd (not-true c)
  turns_fit (suc n) k rs h c = split (λ r more. turns_fit n (onward g deltas k (entry_of r)) more) (ltb k.slice N) refl rs h c
    where
      Then : RectSlice → Element (List RectSlice)
      Then r = turns_left g deltas N n (onward g deltas k (entry_of r))

      split : ((r : RectSlice) (rs : List RectSlice) → refusal_in ((Then r).symbols rs) ≡ 0 → (Then r).canonical rs ≡ true → SlicesFit g deltas N (onward g deltas k (entry_of r)) rs)
          → (b : Bool) → ltb k.slice N ≡ b → (rs : List RectSlice) → refusal_in ((turns_left g deltas N (suc n) k).symbols rs) ≡ 0
          → (turns_left g deltas N (suc n) k).canonical rs ≡ true → SlicesFit g deltas N k rs
      split ih true e [] h c = no_more k
      split ih true e (r ∷ rs) h c =
          let here = rect_slice g deltas N k in
          let hs = refusal_parts (symbols_for here r) ((Then r).symbols rs) (rw e at h) in
          let cs = and_parts (canonical_for here r) ((Then r).canonical rs) (rw e at c) in
          one_more k r rs (ltb-true k.slice N e) (entry-fits k r hs.0 cs.0) (ih r rs hs.1 cs.1)
      split ih false e [] h c = no_more k
      split ih false e (r ∷ rs) h c = let z : false ≡ true = rw e at c in absurd (not-true z)

  pub slices-fit : (k : Position) (rs : List RectSlice) → refusal_in ((rect_slices g deltas N k).symbols rs) ≡ 0 → (rect_slices g deltas N k).canonical rs ≡ true → SlicesFit g deltas N k rs
  unfolding rect_slices
  slices-fit k rs h c = turns_fit N k rs h c
