use mathlib.Core.Path.{refl, ap, ◌∙◌}
use mathlib.Core.Bool.{Bool}
use Rattle.refusal.specs.Numbers.{number}
use Rattle.codes.specs.ExpGolomb.{ue_code}
use Rattle.codes.specs.Symbols.{check}
use Rattle.bit_writer.specs.Stop.{play_on}
use Rattle.bit_writer.specs.Written.{written}
use Rattle.bit_writer.proofs.Ended.{at_err}
use Rattle.bit_writer.proofs.Coding.{tested-failed, tested-made}
use Rattle.bit_writer.proofs.BitWriter.put_tested.Goals as goal

pub returns-in_err-test : goal.returns-in_err-test
unfolding number
returns-in_err-test c =
    let w = written c.args.self.now c.args.out.now in
    at_err _ _ _ _ c.from_residual.ensures.1 ∙ tested-failed w _ 25 (ue_code c.args.k) w _ (c.in_err-test.ensures.put _ _ ∙ ap (λ (t : Bool). play_on w (check t 25)) c.has_code.ensures)

pub returns : goal.returns
unfolding number
returns c =
    let w = written c.args.self.now c.args.out.now in
    tested-made w _ 25 (ue_code c.args.k) refl (c.in_ok-test.ensures.put _ _ ∙ ap (λ (t : Bool). play_on w (check t 25)) c.has_code.ensures) c.put_code.ensures
