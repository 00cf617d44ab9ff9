use Rattle.std.proofs.Common.{refl, le-ltb, lt-ltb, ltb}
use Rattle.bit_reader.proofs.Gives.{passes, fails_test, refused_before, at_exit}
use Rattle.refusal.specs.Numbers.{number}
use Rattle.pps_slices.proofs.parts.size_in_tiles.Goals as goal

pub returns-in_err-v : goal.returns-in_err-v
returns-in_err-v c = at_exit c.from_residual.ensures.1 (refused_before (λ v. ltb v c.args.left) 15 (c.in_err-v.ensures 0))

pub returns-then-v-left : goal.returns-then-v-left
unfolding number
returns-then-v-left c = fails_test (λ v. ltb v c.args.left) 15 (c.in_ok-v.ensures 0) (le-ltb _ _ c.if-v-left.true) refl

pub returns : goal.returns
returns c = passes (λ v. ltb v c.args.left) 15 (c.in_ok-v.ensures 0) (lt-ltb _ _ c.if-v-left.false)
