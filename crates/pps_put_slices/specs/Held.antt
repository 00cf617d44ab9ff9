-- What holds at each turn of the slice loop over the tables: what is left to be put, behind what was put, makes the whole.
use Prim.Native.Nat.{ℕ, zero, suc, ◌+◌, ◌-◌, ◌≤◌, ◌<◌, min}
use Rattle.std.specs.Prelude.{◌≡◌, List, [], ◌∷◌, ◌++◌, Bool, false, not, ltb, leb, length}
use Rattle.std.proofs.Math.Path.{refl, sym, ap}
use Rattle.std.proofs.Common.{subst, ◌∙◌, lt-ltb, le-ltb, ltb-true, ltb-false, le-leb, leb-true, leb-false}
use Rattle.std.proofs.Math.Bool.{true}
use Rattle.std.proofs.Math.Nat.{sub-zero}
use native.Mathlib.Omega.{arith}
use Rattle.std.proofs.lemmas.Bool.{lt-leb}
use Rattle.codes.specs.Symbols.{Symbol, check, check-true}
use Rattle.bit_writer.specs.Writing.{Writing}
use Rattle.partition.specs.Entry.{Position, first_position, next_position}
use Rattle.partition.specs.Grid.{Grid}
use Rattle.partition.specs.Walk.{onward}
use Rattle.syntax.specs.Elements.{or_else}
use Rattle.syntax.specs.Lists.{walk}
use Rattle.syntax.specs.Syntax.{symbols_for}
use Rattle.pps_syntax.specs.SliceSyntax.{RectSlice, entry_of, rect_slice, rect_slices}
use Rattle.pps_syntax.specs.SliceTables.{SliceTables, slice_at, slices_from, split_count}
use Rattle.pps_syntax.specs.WalkAccepted.{turns_left, moves-on}
use Rattle.slice_loop.specs.declared.LoopPosition.{LoopPosition}
use Rattle.slice_loop.specs.Loop.{position_of, Follows}
use Rattle.bit_writer.specs.Stop.{play_on, on-append, on-refused}

module _ (g : Grid) (deltas : Bool) (N : ℕ) where
  -- ---- the turns of the loop
  turns-end : (n : ℕ) (k : Position) (rs : List RectSlice) → ltb k.slice N ≡ false → (turns_left g deltas N n k).symbols rs ≡ (turns_left g deltas N 0 k).symbols rs
  unfolding walk or_else
  turns-end zero k rs e = refl
  turns-end (suc n) k rs e = rw e

  turns-over : (k : Position) (t : SliceTables) (i j n : ℕ) → (turns_left g deltas N 0 k).symbols (slices_from t i j n) ≡ check (leb n 0) 26
  unfolding walk slices_from
  turns-over k t i j zero = sym (check-true true 26 refl)
  turns-over k t i j (suc n) = ap (λ (b : Bool). check b 26) (sym (lt-leb (suc n) 0 (omega arith)))

  turns-short : (n : ℕ) (k : Position) → ltb k.slice N ≡ true → (turns_left g deltas N (suc n) k).symbols [] ≡ check false 26
  unfolding walk or_else
  turns-short n k e = rw e

  turns_more : (n : ℕ) (k : Position) (r : RectSlice) (rs : List RectSlice) → ltb k.slice N ≡ true
      → (turns_left g deltas N (suc n) k).symbols (r ∷ rs) ≡ symbols_for (rect_slice g deltas N k) r ++ (turns_left g deltas N n (onward g deltas k (entry_of r))).symbols rs
  unfolding walk or_else
  turns_more n k r rs e = rw e

-- ---- the entries that are left
from_more : (t : SliceTables) (i j count : ℕ) → i < count → slices_from t i j (count - i) ≡ slice_at t i j ∷ slices_from t (i + 1) (j + split_count t i) (count - (i + 1))
unfolding slices_from
from_more t i j count h = let e : count - i ≡ suc (count - (i + 1)) = omega arith in rw e

module _ (g : Grid) (deltas : Bool) (N : ℕ) (t : SliceTables) (count : ℕ) (w₀ : Writing) where
  abbrev pub whole_loop : Writing
  whole_loop = play_on w₀ ((rect_slices g deltas N first_position).symbols (slices_from t 0 0 count))

  pub record Held (w : Writing) (p : LoopPosition) (i from : ℕ) : Type 0 where
    pub at : Position
    pub follows : Follows N p.slice.0 p.tile.0 at
    pub precedes : p.preceding_height ≡ at.preceding_height_minus1
    pub few : i ≤ at.slice
    pub within : i ≤ N
    pub place : ℕ
    pub place_is : from ≡ min (length t.split_heights) place
    pub left : play_on w ((turns_left g deltas N (N - i) at).symbols (slices_from t i place (count - i))) ≡ whole_loop

  pub held-begins : Held w₀ (record { slice = record { 0 = 0 }; tile = record { 0 = 0 }; preceding_height = 0 }) 0 0
  unfolding rect_slices
  held-begins =
      record {
        at = first_position;
        follows = record { slice_is = omega arith; tile_is = λ l. refl };
        precedes = refl;
        few = omega arith;
        within = omega arith;
        place = 0;
        place_is = omega arith;
        left = rw (sub-zero N, sub-zero count);
      }

none_left : (a b : ℕ) → leb a b ≡ leb (a - b) 0
none_left a b = split (leb a b) refl
  where
    split : (x : Bool) → leb a b ≡ x → x ≡ leb (a - b) 0
    split true e = sym (le-leb (a - b) 0 (omega (arith, leb-true a b e)))
    split false e = sym (lt-leb (a - b) 0 (omega (arith, leb-false a b e)))

module _ {g : Grid} {deltas : Bool} {N : ℕ} {t : SliceTables} {count : ℕ} {w₀ w : Writing} {p : LoopPosition} {i from : ℕ} (H : Held g deltas N t count w₀ w p i from) where
  abbrev rest : List RectSlice
  rest = slices_from t i H.place (count - i)

  -- behind slice N all entries are put
  pub held-ends : {v : Writing} → N ≤ p.slice.0 → v ≡ play_on w (check (leb count i) 26) → v ≡ whole_loop g deltas N t count w₀
  held-ends {v} h e =
      let over : ltb H.at.slice N ≡ false = le-ltb H.at.slice N (omega (arith, H.follows.slice_is)) in
      e ∙ ap (λ (b : Bool). play_on w (check b 26)) (none_left count i) ∙ ap (play_on w) (sym (turns-end g deltas N (N - i) H.at rest over ∙ turns-over g deltas N H.at t i H.place (count - i))) ∙ H.left

  module _ (go : p.slice.0 < N) where
    on : ltb H.at.slice N ≡ true
    on = lt-ltb H.at.slice N (omega (arith, H.follows.slice_is))

    abbrev fewer : ℕ
    fewer = N - (i + 1)

    one_less : N - i ≡ suc fewer
    one_less = omega (arith, H.few, H.follows.slice_is)

    -- the entries end too early
    pub held-short : {v : Writing} → count ≤ i → v ≡ play_on w (check false 26) → v ≡ whole_loop g deltas N t count w₀
    unfolding slices_from
    held-short {v} h e =
        let none : count - i ≡ 0 = omega arith in
        e ∙ ap (play_on w) (sym (rw (one_less, none) (turns-short g deltas N fewer H.at on))) ∙ H.left

    -- where the loop stands is where the description does
    here : position_of p ≡ H.at
    here =
        let e : p.slice.0 ≡ H.at.slice = omega (arith, H.follows.slice_is) in
        let l : H.at.slice < N = omega arith in
        rw (e, H.follows.tile_is l, H.precedes)

    module _ (there : i < count) {v : Writing}
        (E : v ≡ play_on w (symbols_for (rect_slice g deltas N (position_of p)) (slice_at t i H.place))) where
      abbrev next : Position
      next = onward g deltas H.at (entry_of (slice_at t i H.place))

      abbrev later : List Symbol
      later = (turns_left g deltas N fewer next).symbols (slices_from t (i + 1) (H.place + split_count t i) (count - (i + 1)))

      put : v ≡ play_on w (symbols_for (rect_slice g deltas N H.at) (slice_at t i H.place))
      put = E ∙ ap (λ (k : Position). play_on w (symbols_for (rect_slice g deltas N k) (slice_at t i H.place))) here

      left-more : play_on v later ≡ whole_loop g deltas N t count w₀
      left-more =
          ap (λ (x : Writing). play_on x later) put
          ∙ sym (on-append w (symbols_for (rect_slice g deltas N H.at) (slice_at t i H.place)) later)
          ∙ ap (play_on w) (sym (rw (one_less, from_more t i H.place count there) (turns_more g deltas N fewer H.at (slice_at t i H.place) _ on)))
          ∙ H.left

      -- an entry that is refused ends it
      pub held-stops : (v.sink.refused ≡ 0 → ⊥) → v ≡ whole_loop g deltas N t count w₀
      held-stops h = sym (on-refused v later h) ∙ left-more

      pub held_more : {next-p : LoopPosition} {to : ℕ} → Follows N next-p.slice.0 next-p.tile.0 (onward g deltas (position_of p) (entry_of (slice_at t i H.place)))
          → next-p.preceding_height ≡ (slice_at t i H.place).pps_slice_height_in_tiles_minus1
          → to ≡ min (length t.split_heights) (H.place + split_count t i) → Held g deltas N t count w₀ v next-p (i + 1) to
      unfolding next_position
      held_more {next-p} f h q =
          let moves = moves-on g deltas H.at (entry_of (slice_at t i H.place)) in
          record {
            at = next;
            follows = subst (λ (k : Position). Follows N next-p.slice.0 next-p.tile.0 (onward g deltas k (entry_of (slice_at t i H.place)))) here f;
            precedes = h;
            few = omega (arith, moves, H.few);
            within = omega (arith, H.few, H.follows.slice_is);
            place = H.place + split_count t i;
            place_is = q;
            left = left-more;
          }

  -- entries that are left over
  pub held-left : {v : Writing} → i < count → N ≤ p.slice.0 → v ≡ play_on w (check false 26) → v ≡ whole_loop g deltas N t count w₀
  held-left h k e = held-ends k (e ∙ ap (λ (b : Bool). play_on w (check b 26)) (sym (lt-leb count i h)))

  -- behind the last entry
  pub held-over : {v : Writing} → count ≤ i → v ≡ play_on w (check (not (ltb p.slice.0 N)) 26) → v ≡ whole_loop g deltas N t count w₀
  held-over {v} h = split (ltb p.slice.0 N) refl
    where
      split : (b : Bool) → ltb p.slice.0 N ≡ b → v ≡ play_on w (check (not b) 26) → v ≡ whole_loop g deltas N t count w₀
      split false q e = held-ends (ltb-false p.slice.0 N q) (e ∙ ap (λ (b : Bool). play_on w (check b 26)) (sym (le-leb count i h)))
      split true q e = held-short (ltb-true p.slice.0 N q) h e

-- over the same grid
pub in_grid : {g h : Grid} (deltas : Bool) (N : ℕ) (t : SliceTables) (count : ℕ) (w : Writing) {v : Writing} → g ≡ h
    → v ≡ whole_loop g deltas N t count w → v ≡ whole_loop h deltas N t count w
in_grid deltas N t count w q e = e ∙ ap (λ (x : Grid). whole_loop x deltas N t count w) q
