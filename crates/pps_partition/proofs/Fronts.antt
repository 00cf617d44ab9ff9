-- The fronts of tables: copied, and spread in place.
use Prim.Native.Nat.{ℕ, zero, suc, ◌+◌, ◌-◌, ◌≤◌, ◌<◌, min}
use mathlib.Core.Path.{◌≡◌, refl, sym, ap, ◌∙◌}
use Rattle.std.proofs.Common.{ap₂, append-nil, take_all, length-drop, drop_of_length-le}
use mathlib.Core.List.{List, [], ◌∷◌, ◌++◌}
use native.Mathlib.Nat.{sub-zero}
use native.Mathlib.Omega.{arith}
use lib.ListN.{length, take, drop, set, replicate, length-replicate, length-append}
use lib.Seq.{sets, take-nil, take-set-lt, take-append_seam, length-take-le, length-sets}
use mathlib.Core.Bool.{Bool, true, false}
use lib.Dec.{leb, ltb}
use borrow.Author.Tests.{leb-true, leb-false, ltb-true, ltb-false}
use Rattle.std.proofs.lemmas.List.{set_past, take-set-le, drop-set-lt, take-append-drop, length-take}
use Rattle.partition.specs.Grid.{max_tiles}
use Rattle.partition.specs.Sizes.{uniform_size, axis_sizes, uniform_pos, Fit}
use Rattle.tile_sizes.specs.Answers.{next_size}
use Rattle.tile_sizes.specs.Left.{sizes_left, next-left, end-left}
use Rattle.grid_sizes.proofs.Fill.{Filling}
use Rattle.grid_sizes.specs.Fronts.{take-most}

-- ---- copied
-- what has no place is left out
pub copied : (t from u : List ℕ) (n : ℕ) → n ≡ min (length from) (length t) → u ≡ take n from → u ++ drop n t ≡ take (length t) from ++ drop (length from) t
copied t from u n e f = rw f (ap₂ (λ (x y : List ℕ). x ++ y) (ap (λ (k : ℕ). take k from) (let same : n ≡ min (length t) (length from) = omega arith in same) ∙ take-most (length t) from) (rest (leb (length from) (length t)) refl))
  where
    rest : (b : Bool) → leb (length from) (length t) ≡ b → drop n t ≡ drop (length from) t
    rest true q = ap (λ (k : ℕ). drop k t) (omega (arith, leb-true (length from) (length t) q))
    rest false q =
        let long = leb-false (length from) (length t) q in
        drop_of_length-le t (omega arith) ∙ sym (drop_of_length-le t (omega arith))

copied-length : (t from : List ℕ) → length (take (length t) from ++ drop (length from) t) ≡ length t
copied-length t from = length-append (take (length t) from) (drop (length from) t) ∙ omega (arith, length-take (length t) from, length-drop (length from) t)

-- ---- numbers stored in a table, and the front of it
take_set : (n : ℕ) (l : List ℕ) (i y : ℕ) → take n (set l i y) ≡ set (take n l) i y
take_set n l i y = cases (ltb i n) refl
  where
    cases : (b : Bool) → ltb i n ≡ b → take n (set l i y) ≡ set (take n l) i y
    cases true q = take-set-lt n l i y (ltb-true i n q)
    cases false q = let past = ltb-false i n q in take-set-le n l i y past ∙ sym (set_past (take n l) i y (omega (arith, length-take n l)))

take-sets : (n : ℕ) (ys l : List ℕ) (i : ℕ) → take n (sets l i ys) ≡ sets (take n l) i ys
take-sets n [] l i = refl
take-sets n (y ∷ ys) l i = take-sets n ys (set l i y) (suc i) ∙ ap (λ (x : List ℕ). sets x (suc i) ys) (take_set n l i y)

drop-sets : (n : ℕ) (ys l : List ℕ) (i : ℕ) → i + length ys ≤ n → drop n (sets l i ys) ≡ drop n l
drop-sets n [] l i h = refl
drop-sets n (y ∷ ys) l i h = drop-sets n ys (set l i y) (suc i) (omega arith) ∙ drop-set-lt n l i y (omega arith)

-- ---- a table of as many rows as there may be
abbrev pub room : List ℕ
room = replicate max_tiles 0

pub table-long : length room ≡ max_tiles
table-long = length-replicate {A = ℕ} max_tiles 0

-- A table t is copied to its front, numbers are read over it there, and the front is copied back: they are stored in t.
module _ (t : List ℕ) {first : List ℕ} (f : first ≡ take (length room) t ++ drop (length t) room) where
  pub room_long : length first ≡ max_tiles
  room_long = ap length f ∙ copied-length room t ∙ table-long

  pub there_and_back : (hs : List ℕ) {read u : List ℕ} → read ≡ sets first 0 hs → length hs ≤ max_tiles → u ≡ take (length t) read ++ drop (length read) t → u ≡ sets t 0 hs
  there_and_back hs {read} r few e = e ∙ cases (leb (length t) max_tiles) refl
    where
      as_long : length read ≡ max_tiles
      as_long = ap length r ∙ length-sets first 0 hs ∙ room_long

      cases : (b : Bool) → leb (length t) max_tiles ≡ b → take (length t) read ++ drop (length read) t ≡ sets t 0 hs
      cases true q =
          let short = leb-true (length t) max_tiles q in
          let whole : take (length room) t ≡ t = take_all (length room) t (omega (arith, table-long)) in
          let back : take (length t) first ≡ t = ap (take (length t)) (f ∙ ap (λ (l : List ℕ). l ++ drop (length t) room) whole) ∙ take-append_seam t (drop (length t) room) in
          let front : take (length t) read ≡ sets t 0 hs = rw r (take-sets (length t) hs first 0 ∙ ap (λ (l : List ℕ). sets l 0 hs) back) in
          let none : drop (length read) t ≡ [] = drop_of_length-le t (omega (arith, as_long)) in
          rw (front, none) (append-nil (sets t 0 hs))
      cases false q =
          let long = leb-false (length t) max_tiles q in
          let past : length room ≤ length t = omega (arith, table-long) in
          let none : drop (length t) room ≡ [] = drop_of_length-le room past in
          let only : first ≡ take max_tiles t = f ∙ ap₂ (λ (n : ℕ) (l : List ℕ). take n t ++ l) table-long none ∙ append-nil (take max_tiles t) in
          let front : take (length t) read ≡ take max_tiles (sets t 0 hs) = take_all (length t) read (omega (arith, as_long)) ∙ r ∙ ap (λ (l : List ℕ). sets l 0 hs) only ∙ sym (take-sets max_tiles hs t 0) in
          rw (front, as_long, ← (drop-sets max_tiles hs t 0 (omega arith))) (take-append-drop max_tiles (sets t 0 hs))

-- ---- spread in place
drop-take : (j n : ℕ) (l : List ℕ) → drop j (take n l) ≡ take (n - j) (drop j l)
drop-take zero n l = rw (sub-zero n)
drop-take (suc j) zero l = let z : 0 - suc j ≡ 0 = omega arith in rw z
drop-take (suc j) (suc n) [] = sym (take-nil (suc n - suc j))
drop-take (suc j) (suc n) (x ∷ l) = let z : suc n - suc j ≡ n - j = omega arith in rw z (drop-take j n l)

pub spread_begins : (es old : List ℕ) (u total : ℕ) → u ≡ uniform_size es → Fit es total → length (axis_sizes es total) ≤ length old → Filling es (axis_sizes es total) u old old total 0
unfolding axis_sizes sizes_left
spread_begins es old u total e f l =
    record { done = rw e; rest = refl; size = refl; fit = f; within = omega arith; some = omega (arith, uniform_pos es); room = l }

-- the places from j on are as they were
pub next_in_place : (count : ℕ) (whole : List ℕ) (u : ℕ) (old out : List ℕ) (remaining j s : ℕ) → s ≡ min (next_size (drop j (take count out)) u remaining) remaining
    → Filling (take count old) whole u old out remaining j → s ≡ min (next_size (drop j (take count old)) u remaining) remaining
next_in_place count whole u old out remaining j s e f =
    e ∙ ap (λ (l : List ℕ). min (next_size l u remaining) remaining) (drop-take j count out ∙ ap (take (count - j)) f.rest ∙ sym (drop-take j count old))

module _ (es whole : List ℕ) (u : ℕ) (old out : List ℕ) (remaining j : ℕ) (f : Filling es whole u old out remaining j) where
  written : length whole ≡ j + length (sizes_left (drop j es) u remaining)
  written = ap length f.done ∙ length-append (take j out) (sizes_left (drop j es) u remaining) ∙ ap (λ (n : ℕ). n + length (sizes_left (drop j es) u remaining)) (length-take-le j out f.within)

  -- while sizes are left, so is a part of the axis
  pub some_left : j < length whole → 1 ≤ remaining
  some_left h = cases (leb 1 remaining) refl
    where
      cases : (b : Bool) → leb 1 remaining ≡ b → 1 ≤ remaining
      cases true q = leb-true 1 remaining q
      cases false q = absurd (omega (arith, written, ap length (end-left (drop j es) u remaining (omega (arith, leb-false 1 remaining q)) f.fit)))

  pub all_written : length whole ≤ j → remaining ≡ 0
  all_written h = cases (leb 1 remaining) refl
    where
      cases : (b : Bool) → leb 1 remaining ≡ b → remaining ≡ 0
      cases true q = absurd (omega (arith, written, ap length (next-left (drop j es) u remaining f.some (leb-true 1 remaining q) f.fit)))
      cases false q = omega (arith, leb-false 1 remaining q)
