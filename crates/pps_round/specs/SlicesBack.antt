-- Slice entries that were put into the lent tables are read back out of them.
use Prim.Native.Nat.{ℕ, zero, suc, ◌+◌, ◌≤◌, ◌<◌}
use Rattle.std.specs.Prelude.{◌≡◌, Bool, true, false, cond, eqb, ltb, ℤ, pos, negsuc, get_or, drop}
use Rattle.std.proofs.Math.Path.{refl}
use Rattle.std.proofs.Common.{sym, ap, ◌∙◌, add-zero, arith, length-append, get_or-drop, drop-drop, take_at, drop_at, eqb-true, SFits}
use mathlib.Core.List.{List, [], ◌∷◌, ◌++◌, map, append_assoc}
use Rattle.std.proofs.Math.ListN.{length, take}
use Rattle.std.proofs.lemmas.List.{length-map}
use Rattle.std.proofs.lemmas.List.Edits.{sets}
use Rattle.std.proofs.Math.Facts.{sfits_lit}
use Rattle.std.specs.Int.{w32}
use Rattle.codes.specs.ExpGolomb.{code_num}
use Rattle.codes.specs.Symbols.{refusal_in}
use Rattle.partition.specs.Entry.{Position, split_coded}
use Rattle.partition.specs.Grid.{Grid}
use Rattle.partition.specs.Walk.{row_height_of, onward}
use Rattle.pps_syntax.specs.SliceSyntax.{RectSlice, entry_of, slice_move, slice_split, slice_height, rect_slice, rect_slices}
use Rattle.pps_syntax.specs.SliceTables.{SliceTables, row_of, row_at, delta-back, all_split_heights, put_slices, split_count, slice_at, slices_from, split_total}
use Rattle.pps_syntax.specs.WalkAccepted.{turns_left}
use Rattle.syntax.specs.Element.{Element}
use Rattle.syntax.specs.Elements.{se, se_canon, sameℤ, or_else, one_if, is_set}
use Rattle.syntax.proofs.Elements.{absent}
use Rattle.syntax.specs.Facts.{Facts, facts}
use Rattle.syntax.specs.Lists.{many, none, walk, not-true}
use Rattle.syntax.specs.Round.{and_parts, refusal_parts}
use Rattle.syntax.specs.Syntax.{◌>>=◌, symbols_for, refusal_for, canonical_for}
use Rattle.tables.specs.Tables.{over, sets_over}

-- ---- lists
module _ {A : Type 0} where
  get_dropped : (l : List A) (i : ℕ) (x : A) (xs : List A) (d : A) → drop i l ≡ x ∷ xs → get_or l i d ≡ x
  get_dropped l i x xs d e = sym (ap (λ (k : ℕ). get_or l k d) (add-zero i)) ∙ sym (get_or-drop i l 0 d) ∙ ap (λ (m : List A). get_or m 0 d) e

  next_dropped : (l : List A) (i : ℕ) (x : A) (xs : List A) → drop i l ≡ x ∷ xs → drop (i + 1) l ≡ xs
  next_dropped l i x xs e = sym (drop-drop 1 i l) ∙ ap (drop 1) e

-- ---- an entry counts its split heights, and has none where it says so; its delta is a number of 32 bits
pub record Counted (r : RectSlice) : Type 0 where
  pub heights : cond (is_set r.split_present) (length r.pps_exp_slice_height_in_ctus_minus1) 0 ≡ length r.pps_exp_slice_height_in_ctus_minus1
  pub delta : SFits w32 r.pps_tile_idx_delta_val

unfoldable pub AllCounted : List RectSlice → Type 0
AllCounted [] = Unit {0}
AllCounted (r ∷ rs) = Counted r × AllCounted rs

module _ (T : SliceTables) (es : List (List ℕ)) (sh : List ℕ) where
  -- the tables have the entries rs from row i on, their split heights from place j on
  pub record Entries (i j : ℕ) (rs : List RectSlice) : Type 0 where
    pub entries : drop i T.entries ≡ map row_of rs ++ es
    pub split_heights : drop j T.split_heights ≡ all_split_heights rs ++ sh

  module _ (i j : ℕ) (r : RectSlice) (rs : List RectSlice) (e : Entries i j (r ∷ rs)) where
    row_back : row_at T i ≡ row_of r
    row_back = get_dropped T.entries i _ _ [] e.entries

    count-back : Counted r → split_count T i ≡ length r.pps_exp_slice_height_in_ctus_minus1
    unfolding split_count row_of
    count-back c = rw row_back c.heights

    heights-front : drop j T.split_heights ≡ r.pps_exp_slice_height_in_ctus_minus1 ++ (all_split_heights rs ++ sh)
    unfolding all_split_heights
    heights-front = e.split_heights ∙ append_assoc r.pps_exp_slice_height_in_ctus_minus1 (all_split_heights rs) sh

    slice_back : Counted r → slice_at T i j ≡ r
    unfolding slice_at row_of
    slice_back c =
        let n = length r.pps_exp_slice_height_in_ctus_minus1 in
        let hs : take (split_count T i) (drop j T.split_heights) ≡ r.pps_exp_slice_height_in_ctus_minus1 =
        rw (count-back c, heights-front) (take_at r.pps_exp_slice_height_in_ctus_minus1 (all_split_heights rs ++ sh) n refl) in
        rw (hs, row_back, delta-back r.pps_tile_idx_delta_val c.delta)

    entries_next : Entries (i + 1) (j + length r.pps_exp_slice_height_in_ctus_minus1) rs
    entries_next =
        let n = length r.pps_exp_slice_height_in_ctus_minus1 in
        record {
          entries = next_dropped T.entries i _ _ e.entries;
          split_heights = sym (drop-drop n j T.split_heights) ∙ ap (drop n) heights-front ∙ drop_at r.pps_exp_slice_height_in_ctus_minus1 (all_split_heights rs ++ sh) n refl;
        }

  pub slices-back : (rs : List RectSlice) (i j : ℕ) → Entries i j rs → AllCounted rs → slices_from T i j (length rs) ≡ rs
  unfolding slices_from AllCounted
  slices-back [] i j e c = refl
  slices-back (r ∷ rs) i j e c =
      rw (slice_back i j r rs e c.0, count-back i j r rs e c.0)
      (ap (λ (l : List RectSlice). r ∷ l) (slices-back rs (i + 1) (j + length r.pps_exp_slice_height_in_ctus_minus1) (entries_next i j r rs e) c.1))

  pub total-back : (rs : List RectSlice) (i j : ℕ) → Entries i j rs → AllCounted rs → split_total T i (length rs) ≡ length (all_split_heights rs)
  unfolding split_total all_split_heights AllCounted
  total-back [] i j e c = refl
  total-back (r ∷ rs) i j e c =
      rw (count-back i j r rs e c.0, total-back rs (i + 1) (j + length r.pps_exp_slice_height_in_ctus_minus1) (entries_next i j r rs e) c.1)
      (sym (length-append r.pps_exp_slice_height_in_ctus_minus1 (all_split_heights rs)))

-- ---- tables that the entries were put into
pub record Room (z : SliceTables) (rs : List RectSlice) : Type 0 where
  pub entries : length rs ≤ length z.entries
  pub split_heights : length (all_split_heights rs) ≤ length z.split_heights

laid : {A B : Type 0} (f : A → B) (t : List B) (rs : List A) → length rs ≤ length t → drop 0 (sets t 0 (map f rs)) ≡ map f rs ++ drop (length rs) t
unfolding over
laid f t rs h = let l = length-map rs f in sets_over t (map f rs) (omega arith) ∙ ap (λ (n : ℕ). map f rs ++ drop n t) l

pub put_entries : (z : SliceTables) (rs : List RectSlice) → Room z rs
    → Entries (put_slices z 0 0 rs) (drop (length rs) z.entries) (drop (length (all_split_heights rs)) z.split_heights) 0 0 rs
unfolding put_slices over
put_entries z rs m = record { entries = laid row_of z.entries rs m.entries; split_heights = sets_over z.split_heights (all_split_heights rs) m.split_heights }

-- ---- a delta that has a code is a number of 32 bits
coded-fits : (v : ℤ) → code_num v < 4294967295 → SFits w32 v
unfolding code_num
coded-fits (pos n) h = record { sfits = omega arith }
coded-fits (negsuc n) h = record { sfits = omega arith }

delta-fits : (on : Bool) (v : ℤ) → refusal_in ((or_else on se (absent sameℤ (pos 0) 0)).symbols v) ≡ 0 → (or_else on se (absent sameℤ (pos 0) 0)).canonical v ≡ true → SFits w32 v
unfolding or_else
delta-fits true v h c = coded-fits v (se_canon v h)
delta-fits false v h c = let e : v ≡ pos 0 = sameℤ.is v (pos 0) c in rw e (sfits_lit tt)

-- ---- the entries of a set that was read are counted
counted-by : (s : Bool) (p : ℕ) (e : Element ℕ) (n : ℕ) (hs : List ℕ) → eqb p (one_if s) ≡ true → (or_else s (many (length hs) e n) (none 0)).canonical hs ≡ true → cond (is_set p) (length hs) 0 ≡ length hs
unfolding or_else
counted-by true p e n hs q c = rw (eqb-true p 1 q)
counted-by false p e n [] q c = rw (eqb-true p 0 q)
counted-by false p e n (x ∷ hs) q c = absurd (not-true c)

module _ (g : Grid) (deltas : Bool) (N : ℕ) where
  entry-counted : (k : Position) (r : RectSlice) → refusal_for (rect_slice g deltas N k) r ≡ 0 → canonical_for (rect_slice g deltas N k) r ≡ true → Counted r
  unfolding rect_slice slice_height slice_split slice_move Facts ◌>>=◌
  entry-counted k r h c =
      let split = (facts (rect_slice g deltas N k) r h c).1.1.1.1.1.1 in
      let move = split.1.1.1.1.1.1.1.1 in
      let row : ℕ = row_height_of g k.tile in
      record {
        heights = counted-by (split_coded r.pps_slice_width_in_tiles_minus1 r.pps_slice_height_in_tiles_minus1 row) r.split_present _ 26 r.pps_exp_slice_height_in_ctus_minus1 split.0.1 split.1.1.1.0.1;
        delta = delta-fits _ _ move.1.0.0 move.1.0.1;
      }

  turns-counted : (n : ℕ) (k : Position) (rs : List RectSlice) → refusal_in ((turns_left g deltas N n k).symbols rs) ≡ 0 → (turns_left g deltas N n k).canonical rs ≡ true → AllCounted rs
  unfolding walk or_else AllCounted
  turns-counted zero k [] h c = tt
  turns-counted zero k (r ∷ rs) h c = absurd (not-true c)
  turns-counted (suc n) k rs h c = split (λ r more. turns-counted n (onward g deltas k (entry_of r)) more) (ltb k.slice N) refl rs h c
    where
      Then : RectSlice → Element (List RectSlice)
      Then r = turns_left g deltas N n (onward g deltas k (entry_of r))

      split : ((r : RectSlice) (rs : List RectSlice) → refusal_in ((Then r).symbols rs) ≡ 0 → (Then r).canonical rs ≡ true → AllCounted rs)
          → (b : Bool) → ltb k.slice N ≡ b → (rs : List RectSlice) → refusal_in ((turns_left g deltas N (suc n) k).symbols rs) ≡ 0
          → (turns_left g deltas N (suc n) k).canonical rs ≡ true → AllCounted rs
      split ih b e [] h c = tt
      split ih true e (r ∷ rs) h c =
          let here = rect_slice g deltas N k in
          let hs = refusal_parts (symbols_for here r) ((Then r).symbols rs) (rw e at h) in
          let cs = and_parts (canonical_for here r) ((Then r).canonical rs) (rw e at c) in
          (entry-counted k r hs.0 cs.0, ih r rs hs.1 cs.1)
      split ih false e (r ∷ rs) h c = let z : false ≡ true = rw e at c in absurd (not-true z)

  pub slices-counted : (k : Position) (rs : List RectSlice) → refusal_in ((rect_slices g deltas N k).symbols rs) ≡ 0 → (rect_slices g deltas N k).canonical rs ≡ true → AllCounted rs
  unfolding rect_slices
  slices-counted k rs h c = turns-counted N k rs h c
