-- The slice loop: writing its entries by the description refuses with the number with which the walk of writing refuses them.
use Prim.Native.Nat.{ℕ, zero, suc, ◌+◌, ◌≤◌}
use Rattle.std.specs.Prelude.{◌≡◌, Bool, cond}
use Rattle.std.proofs.Math.Path.{refl, sym, ap₂}
use Rattle.std.proofs.Common.{◌∙◌, arith, le-ltb}
use mathlib.Core.List.{List, [], ◌∷◌, map}
use Rattle.std.proofs.Math.Bool.{true, false}
use Rattle.std.proofs.Math.Dec.{ltb, lit<}
use Rattle.codes.specs.Symbols.{refusal_in, first, refusal-append, refusal-check, refusal-putting}
use Rattle.partition.specs.Checks.{Check, refused_with, first_bad, Numbered}
use Rattle.partition.specs.Entry.{Entry, Position, writing, size_checks, inherited_checks, split_checks, move_checks, entry_checks}
use Rattle.partition.specs.Grid.{Grid}
use Rattle.partition.specs.Groups.{Group}
use Rattle.partition.specs.Walk as walks
use Rattle.partition.specs.Walk.{entry_group, Walked, refused, placed, after, checks_at, onward}
use Rattle.pps_syntax.specs.SameTests.{◌⨟◌}
use Rattle.pps_syntax.specs.EntryRefusal.{Codable}
use Rattle.pps_syntax.proofs.EntryRefusal.{entry-refusal}
use Rattle.pps_syntax.specs.RefusalSteps.{first_number, number-first}
use Rattle.pps_syntax.specs.SliceSyntax.{RectSlice, entry_of, rect_slice, rect_slices}
use Rattle.pps_syntax.specs.WalkAccepted.{turns_left, moves-on}
use Rattle.syntax.specs.Elements.{or_else}
use Rattle.syntax.specs.Lists.{walk}
use Rattle.syntax.specs.Syntax.{symbols_for}
use Rattle.pps_syntax.specs.WalkRefusal.{walk_refusal, Deltas32}

after-number : (cs : List Check) (p : Group) (w : Walked) → walk_refusal (after (first_bad cs) p w) ≡ first_number cs (walk_refusal w)
unfolding first_bad first_number after walk_refusal
after-number [] p (refused n) = refl
after-number [] p (placed ps) = refl
after-number (c ∷ cs) p w = split c.bad (after-number cs p w)
  where
    split : (b : Bool) → walk_refusal (after (first_bad cs) p w) ≡ first_number cs (walk_refusal w)
        → walk_refusal (after (cond b (refused_with c.number) (first_bad cs)) p w) ≡ cond b c.number (first_number cs (walk_refusal w))
    split true ih = refl
    split false ih = ih

module _ (g : Grid) (fit : Codable g) (deltas : Bool) (N : ℕ) where
  numbered : (k : Position) (e : Entry) → Numbered (checks_at writing g deltas N k e)
  unfolding entry_checks size_checks inherited_checks split_checks move_checks Numbered
  numbered k e = lit< tt ⨟ lit< tt ⨟ lit< tt ⨟ lit< tt ⨟ lit< tt ⨟ lit< tt ⨟ lit< tt ⨟ lit< tt ⨟ lit< tt ⨟ lit< tt ⨟ lit< tt ⨟ tt

  -- what the walk of writing makes of the same entries
  abbrev written : Position → List RectSlice → Walked
  written k rs = walks.walk writing g deltas N k (map entry_of rs)

  short : (k : Position) → ltb k.slice N ≡ true → walk_refusal (written k []) ≡ 26
  unfolding walks.walk walk_refusal
  short k e = rw e

  at-end : (k : Position) → ltb k.slice N ≡ false → walk_refusal (written k []) ≡ 0
  unfolding walks.walk walk_refusal
  at-end k e = rw e

  long : (k : Position) (r : RectSlice) (rs : List RectSlice) → ltb k.slice N ≡ false → walk_refusal (written k (r ∷ rs)) ≡ 26
  unfolding walks.walk walk_refusal
  long k r rs e = rw e

  turn : (k : Position) (r : RectSlice) (rs : List RectSlice) → ltb k.slice N ≡ true
      → walk_refusal (written k (r ∷ rs)) ≡ first_number (checks_at writing g deltas N k (entry_of r)) (walk_refusal (written (onward g deltas k (entry_of r)) rs))
  unfolding walks.walk
  turn k r rs e = rw e (after-number (checks_at writing g deltas N k (entry_of r)) (entry_group g k.tile (entry_of r)) (written (onward g deltas k (entry_of r)) rs))

  turns-refusal : (n : ℕ) (k : Position) (rs : List RectSlice) → N ≤ k.slice + n → Deltas32 rs → refusal_in ((turns_left g deltas N n k).symbols rs) ≡ walk_refusal (written k rs)
  unfolding walk or_else Deltas32
  turns-refusal zero k [] l s = refusal-putting [] ∙ sym (at-end k (le-ltb k.slice N (omega arith)))
  turns-refusal zero k (r ∷ rs) l s = refusal-check false 26 ∙ sym (long k r rs (le-ltb k.slice N (omega arith)))
  turns-refusal (suc n) k rs l s = split (λ r more b. turns-refusal n (onward g deltas k (entry_of r)) more b) (ltb k.slice N) refl rs s
    where
      split : ((r : RectSlice) (rs : List RectSlice) → N ≤ (onward g deltas k (entry_of r)).slice + n → Deltas32 rs
          → refusal_in ((turns_left g deltas N n (onward g deltas k (entry_of r))).symbols rs) ≡ walk_refusal (written (onward g deltas k (entry_of r)) rs))
          → (b : Bool) → ltb k.slice N ≡ b → (rs : List RectSlice) → Deltas32 rs → refusal_in ((turns_left g deltas N (suc n) k).symbols rs) ≡ walk_refusal (written k rs)
      split ih true e [] s = rw e (refusal-check false 26) ∙ sym (short k e)
      split ih true e (r ∷ rs) s =
          let cs : List Check = checks_at writing g deltas N k (entry_of r) in
          rw e
          (refusal-append (symbols_for (rect_slice g deltas N k) r) ((turns_left g deltas N n (onward g deltas k (entry_of r))).symbols rs)
          ∙ ap₂ first (entry-refusal g fit deltas N k r s.0) (ih r rs (omega (arith, moves-on g deltas k (entry_of r))) s.1)
          ∙ number-first cs (numbered k (entry_of r)) (walk_refusal (written (onward g deltas k (entry_of r)) rs)))
          ∙ sym (turn k r rs e)
      split ih false e [] s = rw e (refusal-putting []) ∙ sym (at-end k e)
      split ih false e (r ∷ rs) s = rw e (refusal-check false 26) ∙ sym (long k r rs e)

  pub slices-refusal : (k : Position) (rs : List RectSlice) → Deltas32 rs → refusal_in ((rect_slices g deltas N k).symbols rs) ≡ walk_refusal (walks.walk writing g deltas N k (map entry_of rs))
  unfolding rect_slices
  slices-refusal k rs s = turns-refusal N k rs (omega arith) s
