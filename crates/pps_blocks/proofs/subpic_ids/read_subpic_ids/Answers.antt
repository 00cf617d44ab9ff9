-- One step of the description for each call.
use Rattle.std.proofs.Common.{lit<}
use Rattle.pps_syntax.specs.SubpicIds.{subpic_ids}
use Rattle.refusal.specs.Numbers.{number}
use Rattle.syntax.specs.Syntax.{◌>>=◌}
use Rattle.syntax.proofs.Steps.{follows, ◌⟫◌, stop, end}
use Rattle.pps_blocks.proofs.IdReads.{ids-coded, mapping_refused, mapping_read}
use Rattle.pps_blocks.proofs.subpic_ids.read_subpic_ids.Goals as goal

pub returns-in_err-num : goal.returns-in_err-num
unfolding subpic_ids ◌>>=◌ number
returns-in_err-num c = let d = subpic_ids c.args.partitioned in
    let r = mapping_refused c.args.partitioned c.from_residual.ensures (follows d (c.flag-present.ensures
    ⟫ stop (c.in_err-num.ensures.value _ (lit< tt)))) in
    record { value = r.0; table = r.1 }

pub returns-in_err-len : goal.returns-in_err-len
unfolding subpic_ids ◌>>=◌ number
returns-in_err-len c = let d = subpic_ids c.args.partitioned in
    let r = mapping_refused c.args.partitioned c.from_residual-in_err-len.ensures (follows d (c.flag-present.ensures
    ⟫ c.in_ok-num.ensures.value _ (lit< tt) ⟫ stop (c.in_err-len.ensures.value _ (lit< tt)))) in
    record { value = r.0; table = r.1 }

pub returns : goal.returns
unfolding subpic_ids ◌>>=◌ number
returns c = let d = subpic_ids c.args.partitioned in
    let ids = ids-coded _ c.in_ok-num.num c.in_ok-len.len c.counted-count.ensures c.in_ok-len.ensures.limit c.read_ids.ensures.list in
    let r = mapping_read c.args.partitioned c.args.ids.now (follows d (c.flag-present.ensures
    ⟫ c.in_ok-num.ensures.value _ (lit< tt) ⟫ c.in_ok-len.ensures.value _ (lit< tt) ⟫ ids
    ⟫ end)) c.read_ids.ensures.count c.read_ids.ensures.table in
    record { value = r.0; table = r.1 }
