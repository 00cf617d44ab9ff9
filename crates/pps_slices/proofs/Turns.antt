-- The turns of the slice loop, the tables that an entry is put into, and what a refusal leaves in them.
use Rattle.std.specs.Prelude.{ℕ, zero, suc, ◌+◌, ◌≡◌, List, [], ◌∷◌, ◌++◌, Bool, true, false, ltb, length, set, refl}
use Rattle.std.proofs.Common.{append_assoc, append-nil}
use Rattle.std.proofs.lemmas.List.Edits.{sets}
use borrow.Author.Tests.{eq-eqb, ne_eqb}
use Rattle.tables.specs.Tables.{sets_append}
use Rattle.bit_reader.specs.declared.Cursor.{Cursor}
use Rattle.partition.specs.Entry.{Position}
use Rattle.partition.specs.Grid.{Grid}
use Rattle.partition.specs.Walk.{onward}
use Rattle.syntax.specs.Element.{parsed, Element}
use Rattle.syntax.specs.Elements.{or_else}
use Rattle.syntax.specs.Lists.{walk}
use Rattle.syntax.specs.Syntax.{parse}
use Rattle.pps_syntax.specs.SliceSyntax.{RectSlice, entry_of, rect_slice, rect_slice_element, rect_slices}
use Rattle.pps_syntax.specs.SliceTables.{SliceTables, slice_tables, row_of, all_split_heights, put_slices}
use Rattle.pps_slices.specs.Loop.{slices_left, refused_from}

-- one entry
unfoldable pub put_slice : SliceTables → ℕ → ℕ → RectSlice → SliceTables
put_slice t i j r = record { entries = set t.entries i (row_of r); split_heights = sets t.split_heights j r.pps_exp_slice_height_in_ctus_minus1 }

-- with nothing left they are the entries' tables
pub left-none : (t : SliceTables) (i j : ℕ) (rs : List RectSlice) → slices_left t i j rs [] ≡ put_slices t i j rs
unfolding slices_left put_slices
left-none t i j rs = rw (append-nil (all_split_heights rs))

pub left-end : (t : SliceTables) (i j : ℕ) (left : List ℕ) → slices_left t i j [] left ≡ slice_tables t.entries (sets t.split_heights j left)
unfolding slices_left all_split_heights
left-end t i j left = refl

pub left-more : (t : SliceTables) (i j : ℕ) (r : RectSlice) (rs : List RectSlice) (left : List ℕ)
    → slices_left t i j (r ∷ rs) left ≡ slices_left (put_slice t i j r) (suc i) (j + length r.pps_exp_slice_height_in_ctus_minus1) rs left
unfolding slices_left put_slice all_split_heights
left-more t i j r rs left =
    let hs = r.pps_exp_slice_height_in_ctus_minus1 in
    rw (append_assoc hs (all_split_heights rs) left, sets_append hs (all_split_heights rs ++ left) t.split_heights j)

module _ (g : Grid) (deltas : Bool) (N : ℕ) where
  -- the loop, with so many turns at most
  abbrev pub turns : ℕ → Position → Element (List RectSlice)
  turns fuel k = walk fuel (λ p. ltb p.slice N) (rect_slice_element g deltas N) (λ p r. onward g deltas p (entry_of r)) 26 k

  pub all-turns : (k : Position) → turns N k ≡ rect_slices g deltas N k
  unfolding rect_slices
  all-turns k = refl

  module _ (s : List ℕ) (c : Cursor) (k : Position) where
    pub turns-end : (fuel : ℕ) → ltb k.slice N ≡ false → ((turns fuel k).read s c ≡ parsed [] c) × (refused_from g deltas N fuel k s c ≡ [])
    unfolding walk or_else refused_from
    turns-end zero e = (refl, refl)
    turns-end (suc fuel) e = (rw e, rw e)

    module _ (fuel : ℕ) (go : ltb k.slice N ≡ true) where
      pub turns_more : (r : RectSlice) (d : Cursor) → parsed r d ≡ parse (rect_slice g deltas N k) s c → d.refused ≡ 0
          → ((turns (suc fuel) k).read s c ≡ parsed (r ∷ ((turns fuel (onward g deltas k (entry_of r))).read s d).value) ((turns fuel (onward g deltas k (entry_of r))).read s d).next)
          × (refused_from g deltas N (suc fuel) k s c ≡ refused_from g deltas N fuel (onward g deltas k (entry_of r)) s d)
      unfolding walk or_else refused_from
      turns_more r d e h = (rw (go, ← e, eq-eqb d.refused 0 h), rw (go, ← e, eq-eqb d.refused 0 h))

      pub turns_stop : ((parse (rect_slice g deltas N k) s c).next.refused ≡ 0 → ⊥)
          → ((turns (suc fuel) k).read s c ≡ parsed [] (parse (rect_slice g deltas N k) s c).next)
          × (refused_from g deltas N (suc fuel) k s c ≡ (parse (rect_slice g deltas N k) s c).value.pps_exp_slice_height_in_ctus_minus1)
      unfolding walk or_else refused_from
      turns_stop h =
          let shut = ne_eqb (parse (rect_slice g deltas N k) s c).next.refused 0 h in
          (rw (go, shut), rw (go, shut))
