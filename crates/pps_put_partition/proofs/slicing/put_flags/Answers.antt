use Rattle.bit_writer.specs.Stop.{on_then}
use Rattle.bit_writer.proofs.Ended.{stopped_at}
use Rattle.pps_put_partition.specs.Rest.{flags_of, flags-listed}
use Rattle.pps_put_partition.proofs.slicing.put_flags.Goals as goal

pub returns-in_err-put_rect : goal.returns-in_err-put_rect
returns-in_err-put_rect c =
    flags-listed _ (flags_of c.args.p.now) _ (on_then _ _ _ c.put_flag_if.ensures (on_then _ _ _ c.in_err-put_rect.ensures (stopped_at _ _ _ _ _ c.from_residual.ensures.1)))

pub returns-in_err-put_num_slices : goal.returns-in_err-put_num_slices
returns-in_err-put_num_slices c =
    flags-listed _ (flags_of c.args.p.now) _
    (on_then _ _ _ c.put_flag_if.ensures (on_then _ _ _ c.in_ok-put_rect.ensures (on_then _ _ _ c.put_flag_if-2.ensures
    (on_then _ _ _ c.in_err-put_num_slices.ensures (stopped_at _ _ _ _ _ c.from_residual-in_err-put_num_slices.ensures.1)))))

pub returns : goal.returns
returns c =
    flags-listed _ (flags_of c.args.p.now) _
    (on_then _ _ _ c.put_flag_if.ensures (on_then _ _ _ c.in_ok-put_rect.ensures (on_then _ _ _ c.put_flag_if-2.ensures
    (on_then _ _ _ c.in_ok-put_num_slices.ensures c.put_flag_if-3.ensures))))
