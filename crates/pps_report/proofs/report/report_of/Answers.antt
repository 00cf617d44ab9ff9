use Rattle.std.proofs.Common.{refl}
use Rattle.std.proofs.lemmas.Result.{err_from_is_err_and}
use Rattle.pps_syntax.specs.FromRecord.{lengths_fit}
use Rattle.refusal.specs.Numbers.{refused}
use Rattle.pps_report.specs.Told.{told}
use Rattle.pps_report.proofs.report.report_of.Goals as goal

pub returns-in_err-accepted : goal.returns-in_err-accepted
unfolding lengths_fit refused
returns-in_err-accepted c =
    let p = err_from_is_err_and c.from_residual.result c.from_residual.ensures.1 in
    rw (p.1, p.2) (told _ _ _ _ _ _ c.in_err-accepted.ensures.outcome refl refl)

pub returns : goal.returns
unfolding lengths_fit refused
returns c = told _ _ _ _ _ _ c.in_ok-accepted.ensures.outcome refl refl
