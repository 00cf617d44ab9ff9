-- One step of the description for each group.
use Rattle.std.proofs.Common.{◌∙◌}
use Rattle.bit_reader.proofs.Gives.{held_back, held-none_back}
use Rattle.pps_syntax.specs.Pps.{front, partitioned}
use Rattle.pps_syntax.specs.Record.{mapping_of}
use Rattle.pps_syntax.specs.SubpicIds.{subpic_ids}
use Rattle.syntax.specs.Syntax.{parse, ◌>>=◌}
use Rattle.syntax.proofs.Steps.{follows, ◌⟫◌, stop, end}
use Rattle.pps_parts.proofs.Parts.{front-refused, ids-stay, front-read}
use Rattle.pps_parts.proofs.read_front.Goals as goal

pub returns-in_err-head : goal.returns-in_err-head
unfolding front ◌>>=◌
returns-in_err-head c = let r = front-refused {t = c.args.ids.now} c.from_residual.ensures (follows front (stop c.in_err-head.ensures)) in
    record { value = r.0; table = r.1 }

pub returns-in_err-conf_win : goal.returns-in_err-conf_win
unfolding front ◌>>=◌
returns-in_err-conf_win c = let r = front-refused {t = c.args.ids.now} c.from_residual-in_err-conf_win.ensures (follows front
    (c.in_ok-head.ensures ⟫ stop c.in_err-conf_win.ensures)) in
    record { value = r.0; table = r.1 }

pub returns-in_err-scaling_win : goal.returns-in_err-scaling_win
unfolding front ◌>>=◌
returns-in_err-scaling_win c = let r = front-refused {t = c.args.ids.now} c.from_residual-in_err-scaling_win.ensures (follows front
    (c.in_ok-head.ensures ⟫ c.in_ok-conf_win.ensures ⟫ stop c.in_err-scaling_win.ensures)) in
    record { value = r.0; table = r.1 }

pub returns-in_err-subpic_ids : goal.returns-in_err-subpic_ids
unfolding front ◌>>=◌
returns-in_err-subpic_ids c = let b = partitioned c.read_kind-kind.result in
    let g = held-none_back mapping_of {read = parse (subpic_ids b)} c.in_err-subpic_ids.ensures.value in
    let r = front-refused {t = c.args.ids.now} c.from_residual-in_err-subpic_ids.ensures (follows front (c.in_ok-head.ensures
    ⟫ c.in_ok-conf_win.ensures ⟫ c.in_ok-scaling_win.ensures ⟫ c.read_kind-kind.ensures ⟫ stop g)) in
    record { value = r.0; table = ids-stay b c.args.ids.now g c.in_err-subpic_ids.ensures.table ∙ r.1 }

pub returns : goal.returns
unfolding front ◌>>=◌
returns c = let g = held_back mapping_of {read = parse (subpic_ids (partitioned c.read_kind-kind.result))} c.in_ok-subpic_ids.ensures.value in
    let r = front-read _ c.args.ids.now (follows front (c.in_ok-head.ensures ⟫ c.in_ok-conf_win.ensures
    ⟫ c.in_ok-scaling_win.ensures ⟫ c.read_kind-kind.ensures ⟫ g
    ⟫ end)) c.in_ok-subpic_ids.ensures.value.value c.in_ok-subpic_ids.ensures.table in
    record { value = r.0; table = r.1 }
