-- A partition in its grid that is not declined: without slices, or with those that the walk has placed.
use Rattle.std.specs.Prelude.{ℕ, ◌≤◌, Bool, ◌&&◌, eqb, leb}
use Rattle.std.proofs.Math.Path.{◌≡◌, refl, ap}
use Rattle.std.proofs.Common.{sym, ◌∙◌, lit<}
use mathlib.Core.List.{List, [], ◌∷◌}
use Rattle.std.proofs.Math.Bool.{true, false, cond, not}
use native.Mathlib.Omega.{arith}
use Rattle.std.proofs.Math.Dec.{ltb}
use borrow.Author.Tests.{ltb-false}
use Rattle.partition.specs.Checks.{Check, refuse, Outcome, fine, refused_with, first_bad, AllPass, passes, refused-not-fine, Numbered}
use Rattle.partition.specs.Entry.{Entry, Position, asking, first_position}
use Rattle.partition.specs.Grid.{Grid, tiles, columns, rows, max_slices_minus1}
use Rattle.partition.specs.Groups.{Group}
use Rattle.partition.specs.Partition.{Layout, declined, unsliced, sliced, from_walk, unless}
use Rattle.partition.specs.Walk.{Walked, refused, placed, after, row_height_of, checks_at, onward, entry_group, last_group, walk}
use Rattle.pps_record.specs.declared.VvcPpsPartition.{VvcPpsPartition}
use Rattle.pps_syntax.specs.BlockRefusal.{declined_with}
use Rattle.pps_syntax.specs.PartitionSyntax.{coded}
use Rattle.pps_syntax.specs.SliceTables.{SliceTables}
use Rattle.syntax.specs.Elements.{is_set}
use Rattle.question_tests.specs.Questions.{slicing_checks, entries_in, sliced_in}
use Rattle.question_tests.specs.Refusing.{numbered-entry}

-- ---- numbers are above 0, so that 0 says accepted

abbrev number_of' : Outcome → ℕ
number_of' fine = 0
number_of' (refused_with n) = n

abbrev number' : Walked → ℕ
number' (refused n) = n
number' (placed ps) = 0

abbrev kind' : Walked → ℕ
kind' (refused n) = 0
kind' (placed ps) = 1

pub number_of : (n : ℕ) → declined_with (declined n) ≡ n
unfolding declined_with
number_of n = refl

pub declined-number : (l : Layout) (n : ℕ) → n ≡ declined_with l → (n ≡ 0 → ⊥) → l ≡ declined n
unfolding declined_with
declined-number (declined m) n e z = ap declined (sym e)
declined-number (unsliced g) n e z = absurd (z e)
declined-number (sliced g ps) n e z = absurd (z e)

numbered-tail : (on a b c d : Bool) → Numbered (refuse 26 a ∷ cond on (refuse 14 b ∷ refuse 26 c ∷ []) (refuse 26 d ∷ []))
unfolding Numbered
numbered-tail true a b c d = (lit< tt, (lit< tt, (lit< tt, tt)))
numbered-tail false a b c d = (lit< tt, (lit< tt, tt))

pub first-positive : (cs : List Check) → Numbered cs → (n : ℕ) → first_bad cs ≡ refused_with n → n ≡ 0 → ⊥
unfolding first_bad Numbered
first-positive [] a n e z = refused-not-fine n (sym e)
first-positive (c ∷ cs) a n e z = split c.bad e (first-positive cs a.1 n)
  where
    split : (b : Bool) → cond b (refused_with c.number) (first_bad cs) ≡ refused_with n → (first_bad cs ≡ refused_with n → n ≡ 0 → ⊥) → ⊥
    split true q ih = let s : c.number ≡ n = ap number_of' q in omega (arith, a.0)
    split false q ih = ih q z

after-refused : (cs : List Check) → Numbered cs → (m n : ℕ) → first_bad cs ≡ refused_with m → (p : Group) (w : Walked) → after (refused_with m) p w ≡ refused n → n ≡ 0 → ⊥
unfolding after
after-refused cs a m n f p w y z = let s : m ≡ n = ap number' y in first-positive cs a m f (omega arith)

after-fine : (p : Group) (m n : ℕ) → after fine p (refused m) ≡ refused n → refused m ≡ refused n
unfolding after
after-fine p m n y = y

after-placed : (p : Group) (ps : List Group) (n : ℕ) → after fine p (placed ps) ≡ refused n → ⊥
unfolding after
after-placed p ps n y = let s : ◌≡◌ {A = ℕ} 1 0 = ap kind' y in omega arith

module _ (g : Grid) (d : Bool) (N : ℕ) where
  walk-positive : (es : List Entry) (k : Position) (n : ℕ) → walk asking g d N k es ≡ refused n → n ≡ 0 → ⊥
  unfolding walk
  walk-positive [] k n e z = split (ltb k.slice N) e
    where
      split : (b : Bool) → cond b (refused 26) (placed (cond (eqb k.slice N) (last_group g k.tile ∷ []) [])) ≡ refused n → ⊥
      split true q = let s : 26 ≡ n = ap number' q in omega arith
      split false q = let s : ◌≡◌ {A = ℕ} 1 0 = ap kind' q in omega arith
  walk-positive (e ∷ es) k n q z = split (ltb k.slice N) (first_bad (checks_at asking g d N k e)) refl (walk asking g d N (onward g d k e) es) refl q (walk-positive es (onward g d k e) n)
    where
      split : (b : Bool) (o : Outcome) → first_bad (checks_at asking g d N k e) ≡ o → (w : Walked) → walk asking g d N (onward g d k e) es ≡ w → cond b (after o (entry_group g k.tile e) w) (refused 26) ≡ refused n → (walk asking g d N (onward g d k e) es ≡ refused n → n ≡ 0 → ⊥) → ⊥
      split false o f w x y ih = let s : 26 ≡ n = ap number' y in omega arith
      split true (refused_with m) f w x y ih = after-refused (checks_at asking g d N k e) (numbered-entry (columns g) (rows g) (row_height_of g k.tile) d N k e) m n f (entry_group g k.tile e) w y z
      split true fine f (refused m) x y ih = ih (x ∙ after-fine (entry_group g k.tile e) m n y) z
      split true fine f (placed ps) x y ih = after-placed (entry_group g k.tile e) ps n y

-- what the slices' number says
module _ (g : Grid) (p : VvcPpsPartition) (t : SliceTables) where
  abbrev checks : List Check
  checks = slicing_checks (tiles g) (is_set p.pps_rect_slice_flag) (coded p.pps_rect_slice_flag p.pps_single_slice_per_subpic_flag) p.pps_num_slices_in_pic_minus1 (is_set p.pps_tile_idx_delta_present_flag) p.num_rect_slices

  numbered-checks : Numbered checks
  unfolding slicing_checks
  numbered-checks = go (coded p.pps_rect_slice_flag p.pps_single_slice_per_subpic_flag)
    where
      go : (on : Bool) → Numbered (refuse 26 (leb (tiles g) 1 && not (is_set p.pps_rect_slice_flag)) ∷ cond on (refuse 14 (ltb max_slices_minus1 p.pps_num_slices_in_pic_minus1) ∷ refuse 26 (is_set p.pps_tile_idx_delta_present_flag && ltb p.pps_num_slices_in_pic_minus1 2) ∷ []) (refuse 26 (not (eqb p.num_rect_slices 0)) ∷ []))
      go on = numbered-tail on _ _ _ _

  abbrev pub walked : Walked
  walked = walk asking g (is_set p.pps_tile_idx_delta_present_flag) p.pps_num_slices_in_pic_minus1 first_position (entries_in t p.num_rect_slices)

  abbrev is_coded : Bool
  is_coded = coded p.pps_rect_slice_flag p.pps_single_slice_per_subpic_flag

  -- What is accepted: slices are not coded, or the walk has placed them; N is then within its limit.
  pub data Slicing : Type 0 where
    without-slices : is_coded ≡ false → sliced_in g p t ≡ unsliced g → Slicing
    with_slices : is_coded ≡ true → p.pps_num_slices_in_pic_minus1 ≤ max_slices_minus1 → (ps : List Group) → walked ≡ placed ps → sliced_in g p t ≡ sliced g ps → Slicing

  few-slices : is_coded ≡ true → first_bad checks ≡ fine → p.pps_num_slices_in_pic_minus1 ≤ max_slices_minus1
  unfolding slicing_checks AllPass
  few-slices on e = ltb-false max_slices_minus1 p.pps_num_slices_in_pic_minus1 (rw on at (passes checks e).1).0

  pub slicing-accepted : 0 ≡ declined_with (sliced_in g p t) → Slicing
  unfolding sliced_in unless from_walk
  slicing-accepted h = split (first_bad checks) refl is_coded refl walked refl
    where
      is : (o : Outcome) → first_bad checks ≡ o → (on : Bool) → is_coded ≡ on → (w : Walked) → walked ≡ w → sliced_in g p t ≡ unless o (cond on (from_walk g w) (unsliced g))
      is o e on c w x = rw (e, c, x)

      split : (o : Outcome) → first_bad checks ≡ o → (on : Bool) → is_coded ≡ on → (w : Walked) → walked ≡ w → Slicing
      split (refused_with n) e on c w x = absurd (first-positive checks numbered-checks n e (sym (h ∙ ap declined_with (is (refused_with n) e on c w x) ∙ number_of n)))
      split fine e false c w x = without-slices c (is fine e false c w x)
      split fine e true c (refused n) x = absurd (walk-positive g _ _ (entries_in t p.num_rect_slices) first_position n x (sym (h ∙ ap declined_with (is fine e true c (refused n) x) ∙ number_of n)))
      split fine e true c (placed ps) x = with_slices c (few-slices c e) ps x (is fine e true c (placed ps) x)
