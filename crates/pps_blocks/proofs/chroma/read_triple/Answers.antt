-- One step of the description for each call. A signed value is unchanged by the 32 bits of its field.
use Rattle.std.proofs.Common.{SFits, to_z-of_z, refl, rules}
use Rattle.std.specs.Int.{w32}
use Rattle.bit_reader.proofs.Gives.{at_exit, holds, holds-none}
use Rattle.pps_syntax.specs.Chroma.{triple}
use Rattle.pps_syntax.specs.Record.{offsets_of}
use Rattle.syntax.specs.Syntax.{◌>>=◌}
use Rattle.syntax.proofs.Steps.{follows, ◌⟫◌, stop, end}
use Rattle.pps_blocks.proofs.chroma.read_triple.Goals as goal

pub returns-in_err-cb : goal.returns-in_err-cb
unfolding triple ◌>>=◌
returns-in_err-cb c = at_exit c.from_residual.ensures.1 (holds-none offsets_of (follows (triple _) (stop c.in_err-cb.ensures)))

pub returns-in_err-cr : goal.returns-in_err-cr
unfolding triple ◌>>=◌
returns-in_err-cr c = at_exit c.from_residual-in_err-cr.ensures.1 (holds-none offsets_of (follows (triple _)
    (c.in_ok-cb.ensures ⟫ stop c.in_err-cr.ensures)))

pub returns-in_err-joint : goal.returns-in_err-joint
unfolding triple ◌>>=◌
returns-in_err-joint c = at_exit c.from_residual-in_err-joint.ensures.1 (holds-none offsets_of (follows (triple _)
    (c.in_ok-cb.ensures ⟫ c.in_ok-cr.ensures ⟫ stop c.in_err-joint.ensures)))

pub returns : goal.returns
unfolding triple ◌>>=◌
returns c = let cb : SFits w32 c.in_ok-cb.cb = search rules in
    let cr : SFits w32 c.in_ok-cr.cr = search rules in
    let joint : SFits w32 c.in_ok-joint.joint = search rules in
    rw (to_z-of_z cb, to_z-of_z cr, to_z-of_z joint)
    (holds offsets_of (follows (triple _) (c.in_ok-cb.ensures ⟫ c.in_ok-cr.ensures ⟫ c.in_ok-joint.ensures ⟫ end)) refl)
