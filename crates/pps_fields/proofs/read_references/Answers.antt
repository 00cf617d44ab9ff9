-- One step of the description for each call.
use Rattle.pps_syntax.specs.References.{references}
use Rattle.refusal.specs.Numbers.{number}
use Rattle.std.proofs.Common.{SFits, to_z-of_z, rules}
use Rattle.std.specs.Int.{w32}
use Rattle.syntax.specs.Syntax.{◌>>=◌}
use Rattle.syntax.proofs.Steps.{follows, exit, ◌⟫◌, stop, end}
use Rattle.pps_fields.proofs.read_references.Goals as goal

pub returns-in_err-l0 : goal.returns-in_err-l0
unfolding references ◌>>=◌ number
returns-in_err-l0 c = exit references c.from_residual.ensures (c.flag-cabac.ensures ⟫ stop c.in_err-l0.ensures.value)

pub returns-in_err-l1 : goal.returns-in_err-l1
unfolding references ◌>>=◌ number
returns-in_err-l1 c = exit references c.from_residual-in_err-l1.ensures
    (c.flag-cabac.ensures ⟫ c.in_ok-l0.ensures.value ⟫ stop c.in_err-l1.ensures.value)

pub returns-in_err-offset : goal.returns-in_err-offset
unfolding references ◌>>=◌ number
returns-in_err-offset c = exit references c.from_residual-in_err-offset.ensures
    (c.flag-cabac.ensures ⟫ c.in_ok-l0.ensures.value ⟫ c.in_ok-l1.ensures.value ⟫ c.flag-rpl1.ensures
    ⟫ c.flag-weighted.ensures ⟫ c.flag-bipred.ensures ⟫ c.flag-wraparound.ensures ⟫ stop (c.in_err-offset.ensures _))

pub returns-in_err-qp : goal.returns-in_err-qp
unfolding references ◌>>=◌ number
returns-in_err-qp c = exit references c.from_residual-in_err-qp.ensures
    (c.flag-cabac.ensures ⟫ c.in_ok-l0.ensures.value ⟫ c.in_ok-l1.ensures.value ⟫ c.flag-rpl1.ensures
    ⟫ c.flag-weighted.ensures ⟫ c.flag-bipred.ensures ⟫ c.flag-wraparound.ensures ⟫ (c.in_ok-offset.ensures _)
    ⟫ stop c.in_err-qp.ensures)

pub returns : goal.returns
unfolding references ◌>>=◌ number
returns c = let qp : SFits w32 c.in_ok-qp.qp = search rules in
    rw (to_z-of_z qp) (follows references (c.flag-cabac.ensures ⟫ c.in_ok-l0.ensures.value ⟫ c.in_ok-l1.ensures.value
    ⟫ c.flag-rpl1.ensures ⟫ c.flag-weighted.ensures ⟫ c.flag-bipred.ensures ⟫ c.flag-wraparound.ensures
    ⟫ (c.in_ok-offset.ensures _) ⟫ c.in_ok-qp.ensures ⟫ c.flag-delta.ensures ⟫ end))
