-- A stack of slices, put into the table of a plan one by one.
use Rattle.std.specs.Prelude.{ℕ, suc, ◌+◌, ◌-◌, ◌≤◌, min, ◌≡◌, refl, length, get_or, set, drop}
use Rattle.std.proofs.Math.Path.{sym, ap}
use Rattle.std.proofs.Common.{◌∙◌, add-one, arith}
use mathlib.Core.List.{List, [], ◌∷◌, ◌++◌, map}
use Rattle.std.proofs.lemmas.List.Edits.{sets}
use Rattle.std.proofs.Math.Seq.{length-sets, drop-drop}
use Rattle.partition.specs.Entry.{split_heights}
use Rattle.partition.specs.Groups.{Group, stacked}
use Rattle.partition.specs.Sizes.{sum, explicit_sizes, uniform_size, axis_sizes, Fit, uniform_pos}
use Rattle.partition.specs.Slices.{Slice}
use Rattle.tile_sizes.specs.Answers.{next_size}
use Rattle.tile_sizes.specs.Left.{sizes_left, none_left, uniform_step, next_fits, next-left, end-left, last-is, last_fits}
use Rattle.tile_grid.specs.declared.SliceRect.{SliceRect}
use Rattle.tile_grid.specs.declared.placed.TileGroup.{TileGroup}
use Rattle.tile_grid.specs.Rects.{rect_of, tiles_of}

-- A table after these were put from place i on, as it holds them.
unfoldable pub put : {A B : Type 0} → (A → B) → List B → ℕ → List A → List B
put f t i l = sets t i (map f l)

abbrev pub put_plan : List SliceRect → ℕ → List Slice → List SliceRect
put_plan t i ss = put rect_of t i ss

abbrev pub put_groups : List TileGroup → ℕ → List Group → List TileGroup
put_groups t i ps = put tiles_of t i ps

module _ {A B : Type 0} (f : A → B) where
  -- one, then the others
  pub put_one : (t : List B) (i : ℕ) (a : A) (l : List A) → put f t i (a ∷ l) ≡ put f (set t i (f a)) (i + 1) l
  unfolding put
  put_one t i a l = rw (add-one i)

  pub put-none : (t : List B) (i : ℕ) → put f t i [] ≡ t
  unfolding put
  put-none t i = refl

  pub put_both : (a b : List A) (t : List B) (i : ℕ) → put f t i (a ++ b) ≡ put f (put f t i a) (i + length a) b
  put_both [] b t i = let z : i + 0 ≡ i = omega arith in rw (put-none t i, z)
  put_both (s ∷ a) b t i =
      let z : i + suc (length a) ≡ i + 1 + length a = omega arith in
      put_one t i s (a ++ b) ∙ put_both a b _ (i + 1) ∙ rw (put_one t i s a, z)

  -- as long as one from which the same comes
  pub kept-length : (t u : List B) (i j : ℕ) (a b : List A) → put f t i a ≡ put f u j b → length u ≡ length t
  unfolding put
  kept-length t u i j a b e = sym (length-sets u j (map f b)) ∙ sym (ap (λ (l : List B). length l) e) ∙ length-sets t i (map f a)

-- ---- the height that repeats

unfoldable pub stack_unit : List ℕ → ℕ → ℕ
stack_unit [] total = total
stack_unit (e ∷ es) total = uniform_size (e ∷ es)

pub unit-none : (es : List ℕ) (total : ℕ) → length es ≡ 0 → total ≡ stack_unit es total
unfolding stack_unit
unit-none [] total e = refl
unit-none (x ∷ es) total e = absurd (omega arith)

pub unit-last : (es : List ℕ) (total : ℕ) → (length es ≡ 0 → ⊥) → get_or es (length es - 1) 0 + 1 ≡ stack_unit es total
unfolding stack_unit
unit-last [] total e = absurd (e refl)
unit-last (x ∷ es) total e = last-is (x ∷ es) (omega arith)

-- all heights are those left at the start
all_left : (es : List ℕ) (total : ℕ) → 1 ≤ total → split_heights es total ≡ sizes_left es (stack_unit es total) total
unfolding split_heights sizes_left stack_unit axis_sizes sum explicit_sizes
all_left [] total h =
    let z : total - 0 ≡ total = omega arith in
    let m : min total total ≡ total = omega arith in
    let y : total - total ≡ 0 = omega arith in
    sym (rw (z, uniform_step total total h h, m, y, none_left total))
all_left (e ∷ es) total h = refl

pub unit-some : (es : List ℕ) (total : ℕ) → 1 ≤ total → 1 ≤ stack_unit es total
unfolding stack_unit
unit-some [] total h = h
unit-some (e ∷ es) total h = uniform_pos (e ∷ es)

-- ---- the loop

module _ (es : List ℕ) (left width top total : ℕ) (t₀ : List SliceRect) (from : ℕ) where
  abbrev unit : ℕ
  unit = stack_unit es total

  abbrev rest : ℕ → ℕ → List ℕ
  rest j remaining = sizes_left (drop j es) unit remaining

  pub record Stacking (t : List SliceRect) (remaining y k j : ℕ) : Type 0 where
    pub table : put_plan t₀ from (stacked left width top (split_heights es total)) ≡ put_plan t k (stacked left width y (rest j remaining))
    pub counted : from + length (split_heights es total) ≡ k + length (rest j remaining)
    pub fit : Fit (drop j es) remaining
    pub down : y + remaining ≡ top + total
    pub index : j + from ≡ k
    pub some : 1 ≤ unit

  pub stacking_begins : Fit es total → 1 ≤ total → Stacking t₀ total top from 0
  stacking_begins f h =
      record {
        table = ap (λ (l : List ℕ). put_plan t₀ from (stacked left width top l)) (all_left es total h);
        counted = ap (λ (l : List ℕ). from + length l) (all_left es total h);
        fit = f;
        down = refl;
        index = omega arith;
        some = unit-some es total h;
      }

module _ {es : List ℕ} {left width top total : ℕ} {t₀ : List SliceRect} {from : ℕ} {t : List SliceRect} {remaining y k j : ℕ} (S : Stacking es left width top total t₀ from t remaining y k j) where
  pub stacking_ends : remaining ≡ 0 → (k ≡ from + length (split_heights es total)) × (t ≡ put_plan t₀ from (stacked left width top (split_heights es total)))
  unfolding stacked
  stacking_ends z =
      let e : sizes_left (drop j es) (stack_unit es total) remaining ≡ [] = end-left (drop j es) (stack_unit es total) remaining z S.fit in
      (sym (S.counted ∙ rw e (omega arith)), sym (S.table ∙ rw e (put-none rect_of t k)))

  pub stacking_length : length t ≡ length t₀
  stacking_length = kept-length rect_of t₀ t from k (stacked left width top (split_heights es total)) (stacked left width y (sizes_left (drop j es) (stack_unit es total) remaining)) S.table

  module _ (more : 1 ≤ remaining) (h : ℕ) (made : h ≡ min (next_size (drop j es) (stack_unit es total) remaining) remaining) where
    fits : (1 ≤ next_size (drop j es) (stack_unit es total) remaining) × (next_size (drop j es) (stack_unit es total) remaining ≤ remaining) × Fit (drop 1 (drop j es)) (remaining - next_size (drop j es) (stack_unit es total) remaining)
    fits = next_fits (drop j es) (stack_unit es total) remaining S.some more S.fit

    pub height-is : h ≡ next_size (drop j es) (stack_unit es total) remaining
    height-is = omega (arith, fits.1)

    pub height-some : (1 ≤ h) × (h ≤ remaining)
    height-some = (omega (arith, fits.0, height-is), omega (arith, made))

    next : sizes_left (drop j es) (stack_unit es total) remaining ≡ h ∷ sizes_left (drop (j + 1) es) (stack_unit es total) (remaining - h)
    next = next-left (drop j es) (stack_unit es total) remaining S.some more S.fit ∙ rw (drop-drop 1 j es, ← height-is)

    -- places are left for it
    pub stacking_room : k + 1 ≤ from + length (split_heights es total)
    stacking_room = omega (arith, S.counted, ap length next)

    pub stacking_goes-on : Stacking es left width top total t₀ from (set t k (rect_of (record { left = left; top = y; width = width; height = h }))) (remaining - h) (y + h) (k + 1) (j + 1)
    unfolding stacked
    stacking_goes-on =
        record {
          table = S.table ∙ rw next (put_one rect_of t k (record { left = left; top = y; width = width; height = h }) (stacked left width (y + h) (sizes_left (drop (j + 1) es) (stack_unit es total) (remaining - h))));
          counted = S.counted ∙ rw next (omega arith);
          fit = rw (← drop-drop 1 j es, height-is) fits.2;
          down = omega (arith, S.down, height-some.1);
          index = omega (arith, S.index);
          some = S.some;
        }

-- the height that repeats, by its definition
pub with_unit : (es : List ℕ) (j u v remaining h : ℕ) → h ≡ min (next_size (drop j es) u remaining) remaining → u ≡ v → h ≡ min (next_size (drop j es) v remaining) remaining
with_unit es j u v remaining h e p = e ∙ ap (λ (x : ℕ). min (next_size (drop j es) x remaining) remaining) p

pub last-fits-total : (es : List ℕ) (total : ℕ) → (length es ≡ 0 → ⊥) → Fit es total → get_or es (length es - 1) 0 + 1 ≤ total
last-fits-total es total h f = last_fits es total (omega arith) f
