use native.Mathlib.Omega.{arith}
use mathlib.Core.Path.{sym, ◌∙◌}
use Rattle.refusal.specs.Numbers.{number}
use Rattle.bit_writer.proofs.Ended.{stopped_at}
use Rattle.pps_put_slices.specs.Sizes.{sizes-turn, sizes-end}
use Rattle.pps_put_slices.proofs.sizes.put_sizes.Goals as goal

pub returns-in_err-put_size : goal.returns-in_err-put_size
returns-in_err-put_size c =
    stopped_at _ _ _ _ _ c.from_residual.ensures.1
    ∙ sizes-turn _ c.args.limit (number c.args.refusal) c.args.sizes.now c.loop-v.v-index (omega arith) c.in_err-put_size.ensures ∙ c.loop-v.invariant

pub loop-v-preserved : goal.loop-v-preserved
loop-v-preserved c =
    sizes-turn _ c.args.limit (number c.args.refusal) c.args.sizes.now c.loop-v.v-index (omega arith) c.in_ok-put_size.ensures ∙ c.loop-v.invariant

pub returns : goal.returns
returns c = sym (sizes-end _ c.args.limit (number c.args.refusal) c.args.sizes.now c.loop-v.v-index (omega arith)) ∙ c.loop-v.invariant
