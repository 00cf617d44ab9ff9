-- Behind a refusal nothing is read: a list ends there, and the slice loop.
use Rattle.std.specs.Prelude.{ℕ, zero, suc, ◌+◌, ◌-◌, ◌≡◌, List, [], Bool, true, false, not, ◌||◌, ltb, leb, refl}
use Rattle.std.proofs.Common.{sym, ap, ◌∙◌, ne_eqb, lit<}
use Rattle.bit_reader.specs.declared.Cursor.{Cursor}
use Rattle.bit_reader.specs.Gives.{Parsed, parsed}
use Rattle.bit_reader.specs.Laws.{demanded-refused}
use Rattle.bit_reader.specs.Reading.{demanded}
use Rattle.partition.specs.Entry.{Position, width_coded, height_coded, inherited_height, split_coded}
use Rattle.partition.specs.Grid.{Grid, columns, rows}
use Rattle.partition.specs.Walk.{row_height_of}
use Rattle.syntax.specs.Element.{Element}
use Rattle.syntax.specs.Elements.{ue, limited, sameℕ, or_else}
use Rattle.syntax.proofs.Elements.{absent, ue_if}
use Rattle.syntax.specs.Lists.{many, none, walk}
use Rattle.syntax.specs.Syntax.{parse, ◌>>=◌}
use Rattle.syntax.proofs.Round.{parse-stuck}
use Rattle.pps_syntax.specs.SliceSyntax.{RectSlice, rect_slice, slice_height, slice_split, slice_move, rect_slices}
use Rattle.pps_slices.specs.Loop.{refused_from, refused_heights}
use Rattle.pps_slices.proofs.Turns.{turns, turns-end, turns_stop}

-- a refusal stands there
abbrev pub Stuck : Cursor → Type 0
Stuck c = c.refused ≡ 0 → ⊥

pub stays-stuck : {c d : Cursor} → d ≡ c → Stuck c → Stuck d
stays-stuck e h = λ z. h (sym (ap (λ (x : Cursor). x.refused) e) ∙ z)

pub demanded-on : (ok : Bool) (n : ℕ) {c d : Cursor} → d ≡ c → Stuck c → demanded ok n d ≡ c
demanded-on ok n e h = ap (demanded ok n) e ∙ demanded-refused ok n _ h

module _ {A : Type 0} (e : Element A) (s : List ℕ) where
  pub many-stuck : (count n : ℕ) (c : Cursor) → Stuck c → (many count e n).read s c ≡ parsed [] c
  unfolding many
  many-stuck zero n c h = refl
  many-stuck (suc k) n c h = let here = e.stuck refl s c h in rw (ne_eqb (e.read s c).next.refused 0 (stays-stuck here h)) (ap (parsed []) here)

  pub list-stuck : (on : Bool) (count n m : ℕ) (c : Cursor) → Stuck c → (or_else on (many count e n) (none m)).read s c ≡ parsed [] c
  unfolding or_else
  list-stuck true count n m c h = many-stuck count n c h
  list-stuck false count n m c h = refl

-- ---- an entry's explicit slice heights
abbrev pub heights_of : Parsed RectSlice → List ℕ
heights_of x = x.value.pps_exp_slice_height_in_ctus_minus1

module _ (g : Grid) (deltas : Bool) (N : ℕ) (k : Position) (s : List ℕ) where
  -- they are read before the delta
  pub move-heights : (w h p : ℕ) (hs : List ℕ) (c : Cursor) → heights_of (parse (slice_move g deltas N k w h p hs) s c) ≡ hs
  unfolding slice_move parse ◌>>=◌
  move-heights w h p hs c = refl

  pub split-stuck : (w h : ℕ) (c : Cursor) → Stuck c → heights_of (parse (slice_split g deltas N k w h) s c) ≡ []
  unfolding slice_split slice_move parse ◌>>=◌
  split-stuck w h c z =
      let row = row_height_of g k.tile in
      let split = split_coded w h row in
      let one : Element ℕ = limited ue (λ v. ltb v row) 16 (lit< tt) in
      let count : Element ℕ = or_else split one (absent sameℕ 0 0) in
      let here = demanded-on (not split || leb (count.read s c).value (N - k.slice + 1)) 17 (count.stuck refl s c z) z in
      ap (λ (r : Parsed (List ℕ)). r.value) (list-stuck one s split (count.read s c).value 26 0 _ (stays-stuck here z))

  pub height-stuck : (w : ℕ) (c : Cursor) → Stuck c → heights_of (parse (slice_height g deltas N k w) s c) ≡ []
  unfolding slice_height parse ◌>>=◌
  height-stuck w c z =
      let inherited = inherited_height (columns g) (rows g) k.tile k.preceding_height_minus1 in
      let height : Element ℕ = or_else (height_coded (columns g) (rows g) deltas k.tile) ue (absent sameℕ inherited 0) in
      split-stuck w (height.read s c).value _ (stays-stuck (demanded-on _ 15 (height.stuck refl s c z) z) z)

  pub entry-stuck : (c : Cursor) → Stuck c → heights_of (parse (rect_slice g deltas N k) s c) ≡ []
  unfolding rect_slice parse ◌>>=◌
  entry-stuck c z =
      let width : Element ℕ = ue_if (width_coded (columns g) k.tile) in
      height-stuck (width.read s c).value _ (stays-stuck (demanded-on _ 15 (width.stuck refl s c z) z) z)

-- ---- the loop
module _ (g : Grid) (deltas : Bool) (N : ℕ) (k : Position) (s : List ℕ) (c : Cursor) (stuck : Stuck c) where
  turns-stuck : (fuel : ℕ) → ((turns g deltas N fuel k).read s c ≡ parsed [] c) × (refused_from g deltas N fuel k s c ≡ [])
  unfolding walk refused_from
  turns-stuck zero = (refl, refl)
  turns-stuck (suc fuel) = cases (ltb k.slice N) refl
    where
      cases : (b : Bool) → ltb k.slice N ≡ b → ((turns g deltas N (suc fuel) k).read s c ≡ parsed [] c) × (refused_from g deltas N (suc fuel) k s c ≡ [])
      cases false e = turns-end g deltas N s c k (suc fuel) e
      cases true e =
          let next = parse-stuck (rect_slice g deltas N k) refl s c stuck in
          let x = turns_stop g deltas N s c k fuel e (stays-stuck next stuck) in
          (x.0 ∙ ap (parsed []) next, x.1 ∙ entry-stuck g deltas N k s c stuck)

  pub slices-stuck : (rect_slices g deltas N k).read s c ≡ parsed [] c
  unfolding rect_slices
  slices-stuck = (turns-stuck N).0

  pub refused-stuck : refused_heights g deltas N k s c ≡ []
  unfolding refused_heights
  refused-stuck = (turns-stuck N).1
