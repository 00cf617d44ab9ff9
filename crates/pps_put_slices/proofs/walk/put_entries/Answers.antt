use mathlib.Core.Path.{refl, sym, ap, ◌∙◌}
use mathlib.Core.Bool.{Bool, not}
use mathlib.Core.List.{List}
use Prim.Native.Nat.{ℕ, ◌+◌}
use native.Mathlib.Omega.{arith}
use borrow.Author.Tests.{ltb-true, ltb-false}
use lib.ListN.{length}
use Rattle.refusal.specs.Numbers.{number}
use Rattle.refusal.proofs.Numbers.{number_above0}
use Rattle.codes.specs.Symbols.{check}
use Rattle.bit_writer.specs.Stop.{play_on}
use Rattle.bit_writer.specs.Written.{written}
use Rattle.bit_writer.proofs.Ended.{at_err}
use Rattle.partition.specs.Grid.{grid_with}
use Rattle.grid_sizes.specs.Fronts.{tiles-few}
use Rattle.pps_syntax.specs.SliceTables.{slice_tables, split_count}
use Rattle.pps_tables.proofs.Places.{place_behind}
use Rattle.pps_put_slices.specs.Held.{held-begins, held-left, held-over, held-stops, held_more}
use Rattle.pps_put_slices.specs.Tabled.{slice-at, heights-few, entry_tabled}
use Rattle.pps_put_slices.proofs.walk.put_entries.Goals as goal

pub loop-i-init : goal.loop-i-init
loop-i-init c = held-begins _ _ _ _ _ _

pub returns-in_err-test : goal.returns-in_err-test
unfolding number
returns-in_err-test c =
    let w = written c.loop-i.w c.loop-i.out in
    at_err _ _ _ _ c.from_residual.ensures.1
    ∙ held-left c.loop-i.invariant (omega arith) (ltb-false _ _ (sym c.slices_to_come.ensures ∙ c.in_err-test.ensures.failed)) (c.in_err-test.ensures.put _ _ ∙ ap (λ (b : Bool). play_on w (check b 26)) c.in_err-test.ensures.failed)

pub put_rect_slice-requires : goal.put_rect_slice-requires
put_rect_slice-requires c =
    let t = slice_tables c.args.slices.entries.now c.args.slices.split_heights.now in
    (heights-few t c.loop-i.i c.entry-e.ensures _ _ (omega arith) c.split_heights_of-heights.ensures, tiles-few _ _ c.requires.0 c.requires.1)

pub returns-in_err-at : goal.returns-in_err-at
returns-in_err-at c =
    let a = c.args in
    let H = c.loop-i.invariant in
    let t = slice_tables a.slices.entries.now a.slices.split_heights.now in
    let row = slice-at t c.loop-i.i c.entry-e.ensures H.place c.loop-i.from H.place_is c.split_heights_of-heights.ensures in
    let E = c.in_err-at.ensures (grid_with a.column_widths.now a.row_heights.now) (record { columns_are = refl; rows_are = refl; heights_are = refl }) in
    at_err _ _ _ _ c.from_residual-in_err-at.ensures.1
    ∙ held-stops H (ltb-true _ _ (sym c.slices_to_come.ensures ∙ c.in_ok-test.ensures.passed)) (omega arith) (entry_tabled row E).put (λ z. absurd (let h = number_above0 c.in_err-at.field-0.0 in omega arith))

pub loop-i-preserved : goal.loop-i-preserved
loop-i-preserved c =
    let a = c.args in
    let H = c.loop-i.invariant in
    let t = slice_tables a.slices.entries.now a.slices.split_heights.now in
    let row = slice-at t c.loop-i.i c.entry-e.ensures H.place c.loop-i.from H.place_is c.split_heights_of-heights.ensures in
    let E = c.in_ok-at.ensures (grid_with a.column_widths.now a.row_heights.now) (record { columns_are = refl; rows_are = refl; heights_are = refl }) in
    let F = entry_tabled row E in
    let behind = ap (λ (l : List ℕ). c.loop-i.from + length l) c.split_heights_of-heights.ensures ∙ place_behind a.slices.split_heights.now (split_count t c.loop-i.i) H.place c.loop-i.from H.place_is in
    held_more H (ltb-true _ _ (sym c.slices_to_come.ensures ∙ c.in_ok-test.ensures.passed)) (omega arith) F.put F.follows.0 F.follows.1 behind

pub returns : goal.returns
unfolding number
returns c =
    let w = written c.loop-i.w c.loop-i.out in
    held-over c.loop-i.invariant c.loop-i-test.false (c.test-2.ensures.put _ _ ∙ ap (λ (b : Bool). play_on w (check (not b) 26)) c.slices_to_come-2.ensures)
