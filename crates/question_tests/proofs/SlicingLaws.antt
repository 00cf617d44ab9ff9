-- The tests of a partition whose grid is accepted, as the code makes them.
use mathlib.Core.Path.{◌≡◌, refl, ap, ◌∙◌}
use mathlib.Core.List.{List}
use mathlib.Core.Bool.{Bool, true, false}
use Prim.Native.Nat.{ℕ, ◌≤◌}
use native.Mathlib.Omega.{arith}
use lib.Dec.{lit<}
use borrow.Author.Tests.{ltb-false}
use Rattle.partition.specs.Checks.{Check, fine, first_bad, number_of, AllPass, passes, Numbered, zero-fine, number-refused}
use Rattle.partition.specs.Entry.{asking, first_position}
use Rattle.partition.specs.Grid.{Grid, tiles, max_slices_minus1}
use Rattle.partition.specs.Partition.{from_walk, unless}
use Rattle.partition.specs.Walk.{Walked, refused, placed, walk}
use Rattle.pps_record.specs.declared.VvcPpsPartition.{VvcPpsPartition}
use Rattle.pps_syntax.specs.BlockRefusal.{declined_with}
use Rattle.pps_syntax.specs.PartitionSyntax.{coded}
use Rattle.pps_syntax.specs.SliceTables.{SliceTables}
use Rattle.pps_syntax.specs.WalkRefusal.{walk_refusal}
use Rattle.syntax.specs.Elements.{is_set}
use Rattle.question_tests.specs.Questions.{slicing_checks, entries_in, sliced_in}
use Rattle.refusal.specs.declared.Refusal.{Refusal}
use Rattle.refusal.specs.Numbers.{number}
use Rattle.refusal.proofs.Numbers.{number_above0}

module _ (T : ℕ) (rect : Bool) (N : ℕ) (deltas : Bool) (n : ℕ) where
  numbered : (on : Bool) → Numbered (slicing_checks T rect on N deltas n)
  unfolding slicing_checks Numbered
  numbered true = (lit< tt, (lit< tt, (lit< tt, tt)))
  numbered false = (lit< tt, (lit< tt, tt))

  pub before-passes : (on : Bool) → 0 ≡ number_of (first_bad (slicing_checks T rect on N deltas n)) → first_bad (slicing_checks T rect on N deltas n) ≡ fine
  before-passes on e = zero-fine (slicing_checks T rect on N deltas n) (numbered on) e

  -- 14 passed
  pub few-slices : (on : Bool) → on ≡ true → first_bad (slicing_checks T rect on N deltas n) ≡ fine → N ≤ max_slices_minus1
  unfolding slicing_checks AllPass
  few-slices true o e = ltb-false max_slices_minus1 N (passes (slicing_checks T rect true N deltas n) e).1.0
  few-slices false o e = absurd (let z : ◌≡◌ {A = ℕ} 0 1 = cc in omega arith)

walked-number : (g : Grid) (w : Walked) → walk_refusal w ≡ declined_with (from_walk g w)
unfolding walk_refusal declined_with from_walk
walked-number g (refused n) = refl
walked-number g (placed ps) = refl

-- in a grid of T tiles
module _ (g : Grid) (p : VvcPpsPartition) (t : SliceTables) (T : ℕ) (tiled : T ≡ tiles g) where
  abbrev on : Bool
  on = coded p.pps_rect_slice_flag p.pps_single_slice_per_subpic_flag

  abbrev deltas : Bool
  deltas = is_set p.pps_tile_idx_delta_present_flag

  abbrev checks : List Check
  checks = slicing_checks T (is_set p.pps_rect_slice_flag) on p.pps_num_slices_in_pic_minus1 deltas p.num_rect_slices

  abbrev walked : Grid → Walked
  walked h = walk asking h deltas p.pps_num_slices_in_pic_minus1 first_position (entries_in t p.num_rect_slices)

  pub stopped-before : (f : Refusal) → number f ≡ number_of (first_bad checks) → number f ≡ declined_with (sliced_in g p t)
  unfolding sliced_in unless declined_with
  stopped-before f e = rw (← tiled, number-refused (first_bad checks) (number f) e (λ z. omega (arith, number_above0 f)))

  module _ (pass : first_bad checks ≡ fine) where
    pub uncoded : on ≡ false → 0 ≡ declined_with (sliced_in g p t)
    unfolding sliced_in unless declined_with
    uncoded e = rw (← tiled, pass, e)

    pub walks : on ≡ true → (h : Grid) → h ≡ g → (r : ℕ) → r ≡ walk_refusal (walked h)
        → r ≡ declined_with (sliced_in g p t)
    unfolding sliced_in unless
    walks e h same r q =
        rw (← tiled, pass, e) (q ∙ ap (λ (k : Grid). walk_refusal (walked k)) same ∙ walked-number g (walked g))
