use Rattle.refusal.specs.Numbers.{number}
use Rattle.codes.specs.Symbols.{check}
use Rattle.pps_put.proofs.Named.{named, test_failed, test-passed}
use Rattle.pps_put_parts.specs.Extension.{extension-none, extension-some}
use Rattle.pps_put_parts.proofs.extension.put_extension.Goals as goal

pub returns-then-r-eq0 : goal.returns-then-r-eq0
unfolding number
returns-then-r-eq0 c = extension-none _ _ c.args.r.now c.args.bytes.now c.if-r-eq0.true (c.test.ensures.put _ _)

pub returns-in_err-test : goal.returns-in_err-test
unfolding number
returns-in_err-test c =
    extension-some _ _ c.args.r.now c.args.bytes.now c.if-r-eq0.false
    (test_failed _ _ _ _ _ _ _ _ c.from_residual.ensures.1 (named (λ b. check b 28) _ c.end_in_one.ensures (c.in_err-test.ensures.put _ _)))

pub returns : goal.returns
unfolding number
returns c =
    extension-some _ _ c.args.r.now c.args.bytes.now c.if-r-eq0.false
    (test-passed _ _ _ _ (named (λ b. check b 28) _ c.end_in_one.ensures (c.in_ok-test.ensures.put _ _)) c.put_copy.ensures)
