-- One step of the description for each call.
use Rattle.pps_syntax.specs.Deblocking.{deblocking}
use Rattle.std.proofs.Common.{SFits, to_z-of_z, rules}
use Rattle.std.specs.Int.{w32}
use Rattle.syntax.specs.Syntax.{◌>>=◌}
use Rattle.syntax.proofs.Steps.{follows, exit, ◌⟫◌, stop, end}
use Rattle.pps_blocks.proofs.deblocking.read_deblocking.Goals as goal

pub returns-in_err-luma_beta : goal.returns-in_err-luma_beta
unfolding deblocking ◌>>=◌
returns-in_err-luma_beta c = exit (deblocking _ _) c.from_residual.ensures
    (c.flag-present.ensures ⟫ c.flag_or-overriding.ensures _ ⟫ c.flag_or-disabled.ensures _ ⟫ c.flag_or-info.ensures _
    ⟫ stop c.in_err-luma_beta.ensures)

pub returns-in_err-luma_tc : goal.returns-in_err-luma_tc
unfolding deblocking ◌>>=◌
returns-in_err-luma_tc c = exit (deblocking _ _) c.from_residual-in_err-luma_tc.ensures
    (c.flag-present.ensures ⟫ c.flag_or-overriding.ensures _ ⟫ c.flag_or-disabled.ensures _ ⟫ c.flag_or-info.ensures _
    ⟫ c.in_ok-luma_beta.ensures ⟫ stop c.in_err-luma_tc.ensures)

pub returns-in_err-cb_beta : goal.returns-in_err-cb_beta
unfolding deblocking ◌>>=◌
returns-in_err-cb_beta c = let luma_beta : SFits w32 c.in_ok-luma_beta.luma_beta = search rules in
    exit (deblocking _ _) c.from_residual-in_err-cb_beta.ensures (c.flag-present.ensures
    ⟫ c.flag_or-overriding.ensures _ ⟫ c.flag_or-disabled.ensures _ ⟫ c.flag_or-info.ensures _
    ⟫ c.in_ok-luma_beta.ensures ⟫ c.in_ok-luma_tc.ensures
    ⟫ stop (rw (to_z-of_z luma_beta) at c.in_err-cb_beta.ensures))

pub returns-in_err-cb_tc : goal.returns-in_err-cb_tc
unfolding deblocking ◌>>=◌
returns-in_err-cb_tc c = let luma_beta : SFits w32 c.in_ok-luma_beta.luma_beta = search rules in
    let luma_tc : SFits w32 c.in_ok-luma_tc.luma_tc = search rules in
    exit (deblocking _ _) c.from_residual-in_err-cb_tc.ensures (c.flag-present.ensures
    ⟫ c.flag_or-overriding.ensures _ ⟫ c.flag_or-disabled.ensures _ ⟫ c.flag_or-info.ensures _
    ⟫ c.in_ok-luma_beta.ensures ⟫ c.in_ok-luma_tc.ensures ⟫ (rw (to_z-of_z luma_beta) at c.in_ok-cb_beta.ensures)
    ⟫ stop (rw (to_z-of_z luma_tc) at c.in_err-cb_tc.ensures))

pub returns-in_err-cr_beta : goal.returns-in_err-cr_beta
unfolding deblocking ◌>>=◌
returns-in_err-cr_beta c = let luma_beta : SFits w32 c.in_ok-luma_beta.luma_beta = search rules in
    let luma_tc : SFits w32 c.in_ok-luma_tc.luma_tc = search rules in
    exit (deblocking _ _) c.from_residual-in_err-cr_beta.ensures (c.flag-present.ensures
    ⟫ c.flag_or-overriding.ensures _ ⟫ c.flag_or-disabled.ensures _ ⟫ c.flag_or-info.ensures _
    ⟫ c.in_ok-luma_beta.ensures ⟫ c.in_ok-luma_tc.ensures ⟫ (rw (to_z-of_z luma_beta) at c.in_ok-cb_beta.ensures)
    ⟫ (rw (to_z-of_z luma_tc) at c.in_ok-cb_tc.ensures) ⟫ stop (rw (to_z-of_z luma_beta) at c.in_err-cr_beta.ensures))

pub returns-in_err-cr_tc : goal.returns-in_err-cr_tc
unfolding deblocking ◌>>=◌
returns-in_err-cr_tc c = let luma_beta : SFits w32 c.in_ok-luma_beta.luma_beta = search rules in
    let luma_tc : SFits w32 c.in_ok-luma_tc.luma_tc = search rules in
    exit (deblocking _ _) c.from_residual-in_err-cr_tc.ensures (c.flag-present.ensures
    ⟫ c.flag_or-overriding.ensures _ ⟫ c.flag_or-disabled.ensures _ ⟫ c.flag_or-info.ensures _
    ⟫ c.in_ok-luma_beta.ensures ⟫ c.in_ok-luma_tc.ensures ⟫ (rw (to_z-of_z luma_beta) at c.in_ok-cb_beta.ensures)
    ⟫ (rw (to_z-of_z luma_tc) at c.in_ok-cb_tc.ensures) ⟫ (rw (to_z-of_z luma_beta) at c.in_ok-cr_beta.ensures)
    ⟫ stop (rw (to_z-of_z luma_tc) at c.in_err-cr_tc.ensures))

pub returns : goal.returns
unfolding deblocking ◌>>=◌
returns c = let luma_beta : SFits w32 c.in_ok-luma_beta.luma_beta = search rules in
    let luma_tc : SFits w32 c.in_ok-luma_tc.luma_tc = search rules in
    let cb_beta : SFits w32 c.in_ok-cb_beta.cb_beta = search rules in
    let cb_tc : SFits w32 c.in_ok-cb_tc.cb_tc = search rules in
    let cr_beta : SFits w32 c.in_ok-cr_beta.cr_beta = search rules in
    let cr_tc : SFits w32 c.in_ok-cr_tc.cr_tc = search rules in
    rw (to_z-of_z luma_beta, to_z-of_z luma_tc, to_z-of_z cb_beta, to_z-of_z cb_tc, to_z-of_z cr_beta, to_z-of_z cr_tc)
    (follows (deblocking _ _) (c.flag-present.ensures ⟫ c.flag_or-overriding.ensures _ ⟫ c.flag_or-disabled.ensures _
    ⟫ c.flag_or-info.ensures _ ⟫ c.in_ok-luma_beta.ensures ⟫ c.in_ok-luma_tc.ensures
    ⟫ (rw (to_z-of_z luma_beta) at c.in_ok-cb_beta.ensures) ⟫ (rw (to_z-of_z luma_tc) at c.in_ok-cb_tc.ensures)
    ⟫ (rw (to_z-of_z luma_beta) at c.in_ok-cr_beta.ensures) ⟫ (rw (to_z-of_z luma_tc) at c.in_ok-cr_tc.ensures)
    ⟫ end))
