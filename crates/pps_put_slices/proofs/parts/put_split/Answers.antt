use mathlib.Core.Path.{◌≡◌, refl, ap, ap₂, ◌∙◌}
use Prim.Native.Nat.{ℕ, ◌+◌, ◌-◌, ◌≤◌}
use native.Mathlib.Omega.{arith}
use Rattle.refusal.specs.Numbers.{number}
use Rattle.std.specs.Prelude.{not}
use Rattle.codes.specs.Symbols.{check}
use Rattle.bit_writer.specs.Stop.{play_on, on_then}
use Rattle.bit_writer.specs.Writing.{Writing}
use Rattle.bit_writer.specs.Written.{written}
use Rattle.bit_writer.proofs.Ended.{at_err, stopped_at, refused_stays}
use Rattle.syntax.specs.StopSteps.{only-on, only-off}
use Rattle.pps_put_slices.specs.Parts.{slices_in, split_symbols}
use Rattle.pps_put_slices.proofs.SplitPut.{slices-refused, slices-fit, heights-put, heights-sized, counted-on, counted_off, some-counted, flag-tested, heights-then, last-tested}
use Rattle.pps_put_slices.proofs.parts.put_split.Goals as goal
use Rattle.pps_put_slices.proofs.parts.put_split.Goals.{After-too_many_slices, then-split+in_ok-put_size+in_ok-put_sizes+in_ok-count, else-split}

pub returns-in_err-test-clause-put : goal.returns-in_err-test-clause-put
unfolding number
returns-in_err-test-clause-put c = flag-tested _ _ _ _ _ _ _ (c.in_err-test.ensures.put _ _) (stopped_at _ _ _ _ _ c.from_residual.ensures.1)

pub returns-in_err-put_size-clause-put : goal.returns-in_err-put_size-clause-put
unfolding number
returns-in_err-put_size-clause-put c =
    flag-tested _ _ _ _ _ _ _ (c.in_ok-test.ensures.put _ _)
    (heights-then _ _ _ _ c.args.present _ _ c.if-split.true (heights-sized _ _ _ c.in_err-put_size.ensures (refused_stays (written c.put_size.new.w c.put_size.new.out) _ _)) (stopped_at _ _ _ _ _ c.from_residual-in_err-put_size.ensures.1))

pub returns-in_err-put_sizes-clause-put : goal.returns-in_err-put_sizes-clause-put
unfolding number
returns-in_err-put_sizes-clause-put c =
    flag-tested _ _ _ _ _ _ _ (c.in_ok-test.ensures.put _ _)
    (heights-then _ _ _ _ c.args.present _ _ c.if-split.true (heights-put _ _ _ c.in_ok-put_size.ensures c.in_err-put_sizes.ensures (refused_stays (written c.put_sizes.new.w c.put_sizes.new.out) _ _))
    (stopped_at _ _ _ _ _ c.from_residual-in_err-put_sizes.ensures.1))

pub returns-in_err-count-clause-put : goal.returns-in_err-count-clause-put
unfolding number
returns-in_err-count-clause-put c =
    flag-tested _ _ _ _ _ _ _ (c.in_ok-test.ensures.put _ _)
    (heights-then _ _ _ _ c.args.present _ _ c.if-split.true
    (heights-put _ _ _ c.in_ok-put_size.ensures c.in_ok-put_sizes.ensures (slices-refused _ _ _ _ refl c.in_err-count.ensures))
    (stopped_at _ _ _ _ _ c.from_residual-in_err-count.ensures.1))

-- how many slices there are, split or not
counted : (c : After-too_many_slices) → c.if-split.count ≡ slices_in c.args.split c.args.row.0 c.args.heights.now
counted c =
    let a = c.args in
    elim c.if-split.branch [
      | then-split+in_ok-put_size+in_ok-put_sizes+in_ok-count v ↦ counted-on _ _ a.ctx.num_slices_minus1.0 a.slice.0 a.present _ _ v.if-split.true v.count-is v.in_ok-count.ensures
      | else-split v ↦ counted_off _ _ a.ctx.num_slices_minus1.0 a.slice.0 a.present _ v.if-split.false v.count-is
    ]

some-slices : (c : After-too_many_slices) → 1 ≤ c.if-split.count
some-slices c = let a = c.args in some-counted a.split a.row.0 a.ctx.num_slices_minus1.0 a.slice.0 a.present a.heights.now (counted c)

-- all of it, by the test of the last slice
put-whole : (c : After-too_many_slices) {v : Writing} → v ≡ play_on (written c.if-split.w c.if-split.out) (check (not c.too_many_slices.result) 17)
    → v ≡ play_on (written c.args.w.now c.args.out.now) (split_symbols c.args.split c.args.row.0 c.args.ctx.num_slices_minus1.0 c.args.slice.0 c.args.present c.args.heights.now)
unfolding number
put-whole c t =
    flag-tested _ _ _ _ _ _ _ (c.in_ok-test.ensures.put _ _)
    (on_then _ {a = written c.if-split.w c.if-split.out} _ _
    (elim c.if-split.branch [
      | then-split+in_ok-put_size+in_ok-put_sizes+in_ok-count v ↦ ap₂ written v.w-is v.out-is
          ∙ only-on _ _ _ v.if-split.true (heights-put _ _ _ v.in_ok-put_size.ensures v.in_ok-put_sizes.ensures (slices-fit _ _ _ v.in_ok-count.count v.in_ok-count.ensures))
      | else-split v ↦ ap₂ written v.w-is v.out-is ∙ only-off _ _ _ v.if-split.false
    ])
    (last-tested _ _ c.if-split.count _ c.too_many_slices.ensures (ap (λ (n : ℕ). c.args.slice.0 + n - 1) (counted c)) _ t))

pub overflow_sub-result : goal.overflow_sub-result
overflow_sub-result c = some-slices (goal.at.overflow_sub-result c).After-too_many_slices

pub returns-in_err-test-2-clause-put : goal.returns-in_err-test-2-clause-put
unfolding number
returns-in_err-test-2-clause-put c =
    put-whole (goal.at.returns-in_err-test-2-clause-put c).After-too_many_slices (at_err _ _ _ _ c.from_residual-in_err-test-2.ensures.1 ∙ c.in_err-test-2.ensures.put _ _)

pub returns-clause-put : goal.returns-clause-put
unfolding number
returns-clause-put c = put-whole (goal.at.returns-clause-put c).After-too_many_slices (c.in_ok-test-2.ensures.put _ _)

last-of : (i count n : ℕ) → 1 ≤ count → count ≡ n → i + (count - 1) ≡ i + n - 1
last-of i count n h e = omega arith

pub returns-clause-last : goal.returns-clause-last
returns-clause-last c = let k = (goal.at.returns-clause-last c).After-too_many_slices in last-of _ _ _ (some-slices k) (counted k)
