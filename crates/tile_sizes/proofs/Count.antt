-- One pass over the explicit sizes of an axis: how many sizes there are.
use mathlib.Core.Path.{◌≡◌, refl, sym, ap, ◌∙◌}
use mathlib.Core.List.{List, [], ◌∷◌, ◌++◌}
use mathlib.Core.Bool.{Bool, true, false, cond}
use Prim.Native.Nat.{ℕ, suc, ◌+◌, ◌-◌, ◌*◌, ◌/◌, ◌%◌, ◌≤◌, ◌<◌, min}
use native.Mathlib.Nat.{div-add-mod', mul-one, mul-le-mul_left}
use native.Mathlib.Numerals.{add-one}
use native.Mathlib.Omega.{arith}
use lib.Dec.{leb, ltb}
use lib.ListN.{length, get_or, take, drop, drop_of_length-le}
use lib.Seq.{take-suc, take_all, drop-cons}
use borrow.Author.Tests.{le-leb, lt-leb, leb-true, leb-false, le-ltb, lt-ltb}
use Rattle.partition.specs.Entry.{split_heights, num_slices_in_tile}
use Rattle.std.specs.Prelude.{Option, Some, None, Ok, Err, ok_or}
use Rattle.refusal.specs.declared.Refusal.TheVariants.{SplitHeights}
use Rattle.tile_sizes.specs.Answers.{slices_in_tile}
use Rattle.partition.specs.Sizes.{sum, explicit_sizes, uniform_size, axis_sizes, uniform_pos}
use Rattle.partition.proofs.Sizes.{length-sizes}

-- pieces of at least 1 are no more than the length
pub pieces_le : (n u : ℕ) → 1 ≤ u → n / u + n % u ≤ n
pieces_le n u h =
    let m : n / u * 1 ≤ n / u * u = mul-le-mul_left (n / u) h in
    omega (arith, m, mul-one (n / u), div-add-mod' n u)

-- ---- the pass

pub record Counting (es : List ℕ) (total remaining uniform i : ℕ) : Type 0 where
  pub within : i ≤ length es
  pub room : remaining + i ≤ total
  pub left : sum (explicit_sizes es) + remaining ≡ total + sum (explicit_sizes (drop i es))
  pub last : uniform ≡ uniform_size (take i es)

pub begins : (es : List ℕ) (total : ℕ) → Counting es total total 1 0
unfolding uniform_size
begins es total = record { within = omega arith; room = omega arith; left = omega arith; last = refl }

-- what is left at i begins with the size there
pub next-explicit : (es : List ℕ) (i : ℕ) → i < length es → sum (explicit_sizes (drop i es)) ≡ get_or es i 0 + 1 + sum (explicit_sizes (drop (i + 1) es))
unfolding sum explicit_sizes
next-explicit es i h = rw (drop-cons es i 0 h, add-one i) (omega arith)

uniform_last : (es : List ℕ) (e : ℕ) → uniform_size (es ++ (e ∷ [])) ≡ suc e
unfolding uniform_size
uniform_last [] e = refl
uniform_last (d ∷ []) e = refl
uniform_last (d ∷ f ∷ es) e = uniform_last (f ∷ es) e

pub goes_on : (es : List ℕ) (total remaining uniform i : ℕ) → i < length es → get_or es i 0 < remaining → Counting es total remaining uniform i
    → Counting es total (remaining - (get_or es i 0 + 1)) (get_or es i 0 + 1) (i + 1)
goes_on es total remaining uniform i h l k =
    record {
      within = omega arith;
      room = omega arith;
      left = omega (arith, next-explicit es i h);
      last = add-one (get_or es i 0) ∙ sym (uniform_last (take i es) (get_or es i 0)) ∙ rw (add-one i, take-suc es i 0 h);
    }

abbrev pub counted-sizes : List ℕ → ℕ → Option ℕ
counted-sizes es total = cond (leb (sum (explicit_sizes es)) total) (Some (length (axis_sizes es total))) None

-- a size that is not below what remains: the explicit ones pass the axis
pub passes-axis : (es : List ℕ) (total remaining uniform i : ℕ) → i < length es → remaining ≤ get_or es i 0 → Counting es total remaining uniform i
    → None ≡ counted-sizes es total
passes-axis es total remaining uniform i h l k = rw (lt-leb (sum (explicit_sizes es)) total (omega (arith, next-explicit es i h)))

module _ (es : List ℕ) (total remaining uniform i : ℕ) (h : length es ≤ i) (k : Counting es total remaining uniform i) where
  nothing_left : sum (explicit_sizes (drop i es)) ≡ 0
  unfolding sum explicit_sizes
  nothing_left = rw (drop_of_length-le es h)

  pub fits-axis : leb (sum (explicit_sizes es)) total ≡ true
  fits-axis = le-leb (sum (explicit_sizes es)) total (omega (arith, nothing_left))

  last-is : uniform ≡ uniform_size es
  last-is = k.last ∙ ap uniform_size (take_all i es h)

  pub uniform_some : 1 ≤ uniform
  uniform_some = omega (arith, last-is, uniform_pos es)

  pub counted : (n : ℕ) → n ≡ remaining / uniform + min 1 (remaining % uniform) → Some (length es + n) ≡ counted-sizes es total
  counted n e =
      let r : total - sum (explicit_sizes es) ≡ remaining = omega (arith, nothing_left) in
      let a : length (axis_sizes es total) ≡ length es + remaining / uniform + min 1 (remaining % uniform) = length-sizes es total ∙ rw (r, ← last-is) in
      let c : length es + n ≡ length (axis_sizes es total) = omega arith in
      rw (fits-axis, c)

-- ---- the slices of a tile

pub no-heights : (hs : List ℕ) (row : ℕ) → length hs ≡ 0 → Ok 1 ≡ slices_in_tile hs row
unfolding slices_in_tile num_slices_in_tile split_heights sum explicit_sizes
no-heights [] row e = rw (le-ltb row 0 (omega arith))
no-heights (k ∷ ks) row e = absurd (omega arith)

pub some-heights : (hs : List ℕ) (row : ℕ) → (length hs ≡ 0 → ⊥) → ok_or (counted-sizes hs row) SplitHeights ≡ slices_in_tile hs row
unfolding slices_in_tile num_slices_in_tile split_heights
some-heights [] row e = absurd (e refl)
some-heights (k ∷ ks) row e = cases (leb (sum (explicit_sizes (k ∷ ks))) row) refl
  where
    cases : (b : Bool) → leb (sum (explicit_sizes (k ∷ ks))) row ≡ b
        → ok_or (cond b (Some (length (axis_sizes (k ∷ ks) row))) None) SplitHeights ≡ cond (ltb row (sum (explicit_sizes (k ∷ ks)))) (Err SplitHeights) (Ok (length (axis_sizes (k ∷ ks) row)))
    cases true q = rw (le-ltb row (sum (explicit_sizes (k ∷ ks))) (leb-true (sum (explicit_sizes (k ∷ ks))) row q))
    cases false q = rw (lt-ltb row (sum (explicit_sizes (k ∷ ks))) (leb-false (sum (explicit_sizes (k ∷ ks))) row q))
