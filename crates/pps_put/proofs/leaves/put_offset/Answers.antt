use Rattle.std.proofs.Common.{arith}
use Rattle.std.proofs.lemmas.Int.{ints}
use mir.Facts.{to_z-of_z}
use Rattle.codes.specs.Coded.{se_symbols}
use Rattle.codes.specs.Symbols.{check}
use Rattle.refusal.specs.Numbers.{number}
use Rattle.pps_put.proofs.Named.{named, signed, test_failed, test-passed}
use Rattle.pps_put.proofs.leaves.put_offset.Goals as goal

pub returns-in_err-test : goal.returns-in_err-test
unfolding number
returns-in_err-test c = test_failed _ _ _ _ _ _ _ _ c.from_residual.ensures.1 (named (λ t. check t 21) _ (grind (arith, ints, to_z-of_z c.ranges.v)) (c.in_err-test.ensures.put _ _))

pub returns : goal.returns
unfolding number
returns c = test-passed _ _ _ _ (named (λ t. check t 21) _ (grind (arith, ints, to_z-of_z c.ranges.v)) (c.in_ok-test.ensures.put _ _)) (signed se_symbols _ _ c.ranges.v c.put_se.ensures)
