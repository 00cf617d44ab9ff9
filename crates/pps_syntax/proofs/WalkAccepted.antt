-- The slice loop: where writing its entries is refused nowhere and reading could have given them, the walk of the questions places them.
use Prim.Native.Nat.{ℕ, zero, suc, ◌+◌, ◌≤◌}
use Rattle.std.specs.Prelude.{◌≡◌, Bool, true, false, cond, eqb, ltb}
use Rattle.std.proofs.Math.Path.{refl}
use mathlib.Core.List.{List, [], ◌∷◌}
use Rattle.std.proofs.Common.{arith, le-ltb}
use Rattle.codes.specs.Symbols.{refusal_in}
use Rattle.partition.specs.Checks.{Outcome, fine, first_bad, passed}
use Rattle.partition.specs.Entry.{Position, asking}
use Rattle.partition.specs.Grid.{Grid}
use Rattle.partition.specs.Groups.{Group}
use Rattle.partition.specs.Walk as walks
use Rattle.partition.specs.Walk.{entry_group, last_group, Walked, placed, after, checks_at, onward}
use Rattle.pps_syntax.proofs.EntryAccepted.{entry-accepted}
use Rattle.pps_syntax.specs.SliceSyntax.{RectSlice, entry_of, rect_slice, rect_slices}
use Rattle.syntax.specs.Element.{Element}
use Rattle.syntax.specs.Elements.{or_else}
use Rattle.syntax.specs.Lists.{walk, not-true}
use Rattle.syntax.specs.Round.{and_parts, refusal_parts}
use Rattle.syntax.specs.Syntax.{symbols_for, canonical_for}
use Rattle.pps_syntax.specs.WalkAccepted.{moves-on, turns_left, walked}

after-fine : (o : Outcome) (p : Group) (w : Walked) (ps : List Group) → o ≡ fine → w ≡ placed ps → after o p w ≡ placed (p ∷ ps)
unfolding after
after-fine o p w ps e q = rw (e, q)

module _ (g : Grid) (deltas : Bool) (N : ℕ) where
  -- its end
  at-end : (k : Position) → ltb k.slice N ≡ false → (ps : List Group) × (walked g deltas N k [] ≡ placed ps)
  unfolding walks.walk
  at-end k e = (cond (eqb k.slice N) (last_group g k.tile ∷ []) [], rw e)

  -- and a turn of it
  turn : (k : Position) (r : RectSlice) (rs : List RectSlice) → ltb k.slice N ≡ true → first_bad (checks_at asking g deltas N k (entry_of r)) ≡ fine
      → (ps : List Group) × (walked g deltas N (onward g deltas k (entry_of r)) rs ≡ placed ps) → (ps : List Group) × (walked g deltas N k (r ∷ rs) ≡ placed ps)
  unfolding walks.walk
  turn k r rs e ok rest = (entry_group g k.tile (entry_of r) ∷ rest.0, rw e (after-fine _ _ _ rest.0 ok rest.1))

  turns-accepted : (n : ℕ) (k : Position) (rs : List RectSlice) → N ≤ k.slice + n → refusal_in ((turns_left g deltas N n k).symbols rs) ≡ 0 → (turns_left g deltas N n k).canonical rs ≡ true
      → (ps : List Group) × (walked g deltas N k rs ≡ placed ps)
  unfolding walk or_else
  turns-accepted zero k [] l h c = at-end k (le-ltb k.slice N (omega arith))
  turns-accepted zero k (r ∷ rs) l h c = absurd (not-true c)
  turns-accepted (suc n) k rs l h c = split (λ r more b. turns-accepted n (onward g deltas k (entry_of r)) more b) (ltb k.slice N) refl rs h c
    where
      Then : RectSlice → Element (List RectSlice)
      Then r = turns_left g deltas N n (onward g deltas k (entry_of r))

      split : ((r : RectSlice) (rs : List RectSlice) → N ≤ (onward g deltas k (entry_of r)).slice + n → refusal_in ((Then r).symbols rs) ≡ 0 → (Then r).canonical rs ≡ true
          → (ps : List Group) × (walked g deltas N (onward g deltas k (entry_of r)) rs ≡ placed ps))
          → (b : Bool) → ltb k.slice N ≡ b → (rs : List RectSlice) → refusal_in ((turns_left g deltas N (suc n) k).symbols rs) ≡ 0 → (turns_left g deltas N (suc n) k).canonical rs ≡ true
          → (ps : List Group) × (walked g deltas N k rs ≡ placed ps)
      split ih true e [] h c = let z : false ≡ true = rw e at c in absurd (not-true z)
      split ih true e (r ∷ rs) h c =
          let here = rect_slice g deltas N k in
          let hs = refusal_parts (symbols_for here r) ((Then r).symbols rs) (rw e at h) in
          let cs = and_parts (canonical_for here r) ((Then r).canonical rs) (rw e at c) in
          let ok : first_bad (checks_at asking g deltas N k (entry_of r)) ≡ fine = passed (checks_at asking g deltas N k (entry_of r)) (entry-accepted g deltas N k r hs.0 cs.0) in
          turn k r rs e ok (ih r rs (omega (arith, moves-on g deltas k (entry_of r))) hs.1 cs.1)
      split ih false e [] h c = at-end k e
      split ih false e (r ∷ rs) h c = let z : false ≡ true = rw e at c in absurd (not-true z)

  pub slices-accepted : (k : Position) (rs : List RectSlice) → refusal_in ((rect_slices g deltas N k).symbols rs) ≡ 0 → (rect_slices g deltas N k).canonical rs ≡ true
      → (ps : List Group) × (walked g deltas N k rs ≡ placed ps)
  unfolding rect_slices
  slices-accepted k rs h c = turns-accepted N k rs (omega arith) h c
