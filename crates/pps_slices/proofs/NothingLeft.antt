-- Where the slice loop is accepted no entry was refused, so that nothing but the entries is in the tables.
use Rattle.std.specs.Prelude.{ℕ, zero, suc, ◌≡◌, List, [], Bool, true, false, eqb, ltb, refl}
use Rattle.std.proofs.Common.{sym, ap, ◌∙◌, eqb-true}
use Rattle.std.proofs.lemmas.Bool.{eqb-false}
use Rattle.bit_reader.specs.declared.Cursor.{Cursor}
use Rattle.bit_reader.specs.Gives.{Parsed}
use Rattle.partition.specs.Entry.{Position}
use Rattle.partition.specs.Grid.{Grid}
use Rattle.partition.specs.Walk.{onward}
use Rattle.syntax.specs.Syntax.{parse}
use Rattle.pps_syntax.specs.SliceSyntax.{RectSlice, entry_of, rect_slice, rect_slices}
use Rattle.pps_slices.specs.Loop.{refused_from, refused_heights}
use Rattle.pps_slices.proofs.Turns.{turns, turns-end, turns_more, turns_stop}

pub refused-of : {A : Type 0} {x y : Parsed A} → x ≡ y → x.next.refused ≡ 0 → y.next.refused ≡ 0
refused-of {A} e h = sym (ap (λ (p : Parsed A). p.next.refused) e) ∙ h

module _ (g : Grid) (deltas : Bool) (N : ℕ) (s : List ℕ) where
  turns-none : (fuel : ℕ) (k : Position) (c : Cursor) → ((turns g deltas N fuel k).read s c).next.refused ≡ 0 → refused_from g deltas N fuel k s c ≡ []
  unfolding refused_from
  turns-none zero k c h = refl
  turns-none (suc fuel) k c h = more (λ z. turns-none fuel (onward g deltas k (entry_of one.value)) one.next z) (ltb k.slice N) refl
    where
      one : Parsed RectSlice
      one = parse (rect_slice g deltas N k) s c

      Others : Type 0
      Others = ((turns g deltas N fuel (onward g deltas k (entry_of one.value))).read s one.next).next.refused ≡ 0
          → refused_from g deltas N fuel (onward g deltas k (entry_of one.value)) s one.next ≡ []

      goes : Others → ltb k.slice N ≡ true → (b : Bool) → eqb one.next.refused 0 ≡ b → refused_from g deltas N (suc fuel) k s c ≡ []
      goes others e true q =
          let t = turns_more g deltas N s c k fuel e one.value one.next refl (eqb-true _ 0 q) in
          t.1 ∙ others (refused-of t.0 h)
      goes others e false q =
          let t = turns_stop g deltas N s c k fuel e (eqb-false _ 0 q) in
          absurd (eqb-false _ 0 q (refused-of t.0 h))

      more : Others → (b : Bool) → ltb k.slice N ≡ b → refused_from g deltas N (suc fuel) k s c ≡ []
      more others true e = goes others e (eqb one.next.refused 0) refl
      more others false e = (turns-end g deltas N s c k (suc fuel) e).1

  pub slices-none : (k : Position) (c : Cursor) → ((rect_slices g deltas N k).read s c).next.refused ≡ 0 → refused_heights g deltas N k s c ≡ []
  unfolding rect_slices refused_heights
  slices-none k c h = turns-none N k c h
