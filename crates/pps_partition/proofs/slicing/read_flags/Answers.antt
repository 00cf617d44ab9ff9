-- One step of the description for each call.
use Rattle.std.proofs.Common.{lit<}
use Rattle.refusal.specs.Numbers.{number}
use Rattle.bit_reader.proofs.Gives.{at_exit, holds, holds-none}
use Rattle.syntax.specs.Syntax.{◌>>=◌}
use Rattle.syntax.proofs.Steps.{follows, ◌⟫◌, stop, end}
use Rattle.pps_partition.specs.SliceFlags.{slice_flags, flags_kept}
use Rattle.pps_partition.proofs.slicing.read_flags.Goals as goal
use Rattle.std.proofs.Common.{refl}

pub returns-in_err-n : goal.returns-in_err-n
unfolding number slice_flags ◌>>=◌
returns-in_err-n c = at_exit c.from_residual.ensures.1
    (holds-none flags_kept (follows (slice_flags c.args.several)
    (c.flag_or-across_tiles.ensures 0 ⟫ c.flag_or-rect.ensures 26 ⟫ c.flag_or-single.ensures 0 ⟫ stop (c.in_err-n.ensures.value 0 (lit< tt)))))

pub returns : goal.returns
unfolding number slice_flags ◌>>=◌
returns c = holds flags_kept (follows (slice_flags c.args.several)
    (c.flag_or-across_tiles.ensures 0 ⟫ c.flag_or-rect.ensures 26 ⟫ c.flag_or-single.ensures 0 ⟫ c.in_ok-n.ensures.value 0 (lit< tt) ⟫ c.flag_or-deltas.ensures 0 ⟫ end)) refl
