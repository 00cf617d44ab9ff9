-- The number with which the slice loop is refused, turn by turn.
use Rattle.std.specs.Prelude.{ℕ, zero, suc, ◌+◌, ◌-◌, ◌≤◌, ◌<◌, min, ◌≡◌, refl, List, [], ◌∷◌, Bool, length, take, drop, Result, Ok, Err}
use Rattle.refusal.specs.declared.Refusal.{Refusal}
use Rattle.refusal.specs.Numbers.{number, refused as refused_as}
use Rattle.refusal.proofs.Numbers.{number_above0}
use Rattle.std.proofs.Common.{sym, ap, ◌∙◌, lit<, lt-ltb, le-ltb}
use native.Mathlib.Omega.{arith}
use Rattle.partition.specs.Checks.{fine, first_bad, number_of, number-refused, Numbered, zero-fine}
use Rattle.partition.specs.Entry.{Entry, Position, asking, first_position, size_checks, inherited_checks, split_checks, move_checks, entry_checks}
use Rattle.partition.specs.Grid.{Grid, columns, rows}
use Rattle.partition.specs.Groups.{Group}
use Rattle.partition.specs.Walk.{Walked, refused, placed, after, row_height_of, checks_at, onward, entry_group, walk}
use Rattle.pps_syntax.specs.SliceTables.{SliceTables, split_count, slices_from}
use Rattle.pps_syntax.specs.WalkRefusal.{walk_refusal}
use Rattle.pps_tables.specs.declared.RectSliceEntry.{RectSliceEntry}
use Rattle.slice_loop.specs.declared.LoopPosition.{LoopPosition}
use Rattle.question_tests.specs.Questions.{entries_in}
use Rattle.slice_loop.specs.Loop.{position}
use Rattle.question_tests.specs.Steps.{Stepped}
use Rattle.question_tests.specs.Tables.{entry_at, entry_with}
use Rattle.pps_tables.proofs.Places.{heights_at, heights-held, place_behind}
use Rattle.question_tests.specs.Walking.{entries_from, first_entry, StandsAt, stands-first, stands_here, stands_after}

-- every number of an entry's checks is above 0
pub numbered-entry : (C R row : ℕ) (d : Bool) (N : ℕ) (k : Position) (e : Entry) → Numbered (entry_checks asking C R row d N k e)
unfolding entry_checks size_checks inherited_checks split_checks move_checks Numbered
numbered-entry C R row d N k e = (lit< tt, (lit< tt, (lit< tt, (lit< tt, (lit< tt, (lit< tt, (lit< tt, (lit< tt, (lit< tt, (lit< tt, (lit< tt, (lit< tt, tt))))))))))))

-- ---- one turn of the walk

after-number : (p : Group) (w : Walked) → walk_refusal (after fine p w) ≡ walk_refusal w
unfolding after walk_refusal
after-number p (refused n) = refl
after-number p (placed ps) = refl

pub no-entries : (t : SliceTables) (i j m : ℕ) → m ≡ 0 → entries_from t i j m ≡ []
unfolding slices_from
no-entries t i j zero e = refl
no-entries t i j (suc m) e = absurd (omega arith)

module _ (g : Grid) (d : Bool) (N : ℕ) (k : Position) where
  pub walk_late : (e : Entry) (es : List Entry) → N ≤ k.slice → walk_refusal (walk asking g d N k (e ∷ es)) ≡ 26
  unfolding walk walk_refusal
  walk_late e es h = rw (le-ltb k.slice N h)

  pub walk_early : k.slice < N → walk_refusal (walk asking g d N k []) ≡ 26
  unfolding walk walk_refusal
  walk_early h = rw (lt-ltb k.slice N h)

  pub walk-done : N ≤ k.slice → walk_refusal (walk asking g d N k []) ≡ 0
  unfolding walk walk_refusal
  walk-done h = rw (le-ltb k.slice N h)

  module _ (e : Entry) (es : List Entry) (go : k.slice < N) where
    pub walk-stops : (n : ℕ) → n ≡ number_of (first_bad (checks_at asking g d N k e)) → (n ≡ 0 → ⊥) → walk_refusal (walk asking g d N k (e ∷ es)) ≡ n
    unfolding walk after walk_refusal
    walk-stops n q z = rw (lt-ltb k.slice N go, number-refused (first_bad (checks_at asking g d N k e)) n q z)

    pub walk-goes-on : first_bad (checks_at asking g d N k e) ≡ fine → walk_refusal (walk asking g d N k (e ∷ es)) ≡ walk_refusal (walk asking g d N (onward g d k e) es)
    unfolding walk
    walk-goes-on q = rw (lt-ltb k.slice N go, q) (after-number (entry_group g k.tile e) (walk asking g d N (onward g d k e) es))

-- ---- the loop

module _ (g : Grid) (d : Bool) (N : ℕ) (t : SliceTables) (n : ℕ) where
  abbrev whole : ℕ
  whole = walk_refusal (walk asking g d N first_position (entries_in t n))

  pub record Refusing (slice tile preceding i from : ℕ) : Type 0 where
    pub at : Position
    pub place : ℕ
    pub stands : StandsAt N t at place slice tile preceding from
    pub within : i ≤ n
    pub is : whole ≡ walk_refusal (walk asking g d N at (entries_from t i place (n - i)))

  pub refusing_begins : Refusing 0 0 0 0 0
  unfolding entries_in
  refusing_begins = record { at = first_position; place = 0; stands = stands-first N t; within = omega arith; is = let z : n - 0 ≡ n = omega arith in rw z }

module _ {g : Grid} {d : Bool} {N : ℕ} {t : SliceTables} {n slice tile preceding i from : ℕ} (H : Refusing g d N t n slice tile preceding i from) where
  abbrev all : ℕ
  all = walk_refusal (walk asking g d N first_position (entries_in t n))

  none_left : n ≤ i → entries_from t i H.place (n - i) ≡ []
  none_left h = no-entries t i H.place (n - i) (omega arith)

  pub refusing_early : n ≤ i → slice < N → 26 ≡ all
  refusing_early h l = sym (H.is ∙ rw (none_left h) (walk_early g d N H.at (omega (arith, H.stands.slice_is))))

  pub refusing_ends : n ≤ i → N ≤ slice → 0 ≡ all
  refusing_ends h l = sym (H.is ∙ rw (none_left h) (walk-done g d N H.at (omega (arith, H.stands.slice_is))))

  pub from-within : from ≤ length t.split_heights
  from-within = omega (arith, H.stands.place_is)

  module _ (more : i < n) (e : RectSliceEntry) (hs : List ℕ) (e-is : e ≡ entry_at t i) (hs-is : hs ≡ take (split_count t i) (drop from t.split_heights)) where
    abbrev to : ℕ
    to = from + length hs

    pub behind : to ≡ min (length t.split_heights) (from + split_count t i)
    behind = ap (λ (l : List ℕ). from + length l) hs-is ∙ place_behind t.split_heights (split_count t i) from from (omega (arith, from-within))

    taken : take (to - from) (drop from t.split_heights) ≡ hs
    taken =
        heights-held t.split_heights (split_count t i) H.place from to H.stands.place_is behind
        ∙ sym (heights_at t.split_heights (split_count t i) H.place from H.stands.place_is) ∙ sym hs-is

    next : entries_from t i H.place (n - i) ≡ entry_with e hs ∷ entries_from t (i + 1) (H.place + split_count t i) (n - (i + 1))
    next = first_entry t i H.place n from to more H.stands.place_is behind ∙ rw (taken, e-is)

    pub refusing_late : N ≤ slice → 26 ≡ all
    refusing_late l = sym (H.is ∙ rw next (walk_late g d N H.at (entry_with e hs) _ (omega (arith, H.stands.slice_is))))

    module _ (go : slice < N) where
      abbrev Steps : Result LoopPosition Refusal → Type 0
      Steps r = Stepped (columns g) (rows g) (row_height_of g tile) d N (position slice tile preceding) (entry_with e hs) r

      here : position slice tile preceding ≡ H.at
      here = stands_here H.stands (omega arith)

      counts : (r : Result LoopPosition Refusal) → Steps r → refused_as r ≡ number_of (first_bad (checks_at asking g d N H.at (entry_with e hs)))
      counts r S = S.number ∙ ap (λ (k : Position). number_of (first_bad (checks_at asking g d N k (entry_with e hs)))) here

      pub refusing_stops : (f : Refusal) → Steps (Err f) → number f ≡ all
      unfolding refused_as
      refusing_stops f S =
          sym (H.is ∙ rw next (walk-stops g d N H.at (entry_with e hs) _ (omega (arith, H.stands.slice_is)) (number f) (counts (Err f) S) (λ z. omega (arith, number_above0 f))))

      pub refusing_goes-on : (s : LoopPosition) → Steps (Ok s) → Refusing g d N t n s.slice.0 s.tile.0 s.preceding_height (i + 1) to
      unfolding refused_as
      refusing_goes-on s S =
          record {
            at = onward g d H.at (entry_with e hs);
            place = H.place + split_count t i;
            stands = rw S.next.2 (stands_after H.stands g d e hs (split_count t i) s.slice.0 s.tile.0 to (omega arith) S.next.0 S.next.1 behind);
            within = omega arith;
            is =
                H.is
                ∙ rw next (walk-goes-on g d N H.at (entry_with e hs) _ (omega (arith, H.stands.slice_is))
                (zero-fine (checks_at asking g d N H.at (entry_with e hs)) (numbered-entry _ _ _ d N H.at (entry_with e hs)) (counts (Ok s) S)));
          }
