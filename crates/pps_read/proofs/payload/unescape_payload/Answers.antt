-- Nothing refuses: the payload is short enough and the buffer long enough.
use Rattle.pps_read.specs.Payload.{payload-count, payload-out}
use Rattle.pps_read.proofs.payload.unescape_payload.Goals as goal

pub unwrap-requires : goal.unwrap-requires
unwrap-requires c = let r = c.requires in
    rw (payload-count c.args.unit.now c.args.work.now r.in_bounds r.unit_len_bound r.unit_in_bounds c.ebsp_to_rbsp.ensures.value)

pub returns : goal.returns
returns c = let r = c.requires in
    let counted = payload-count c.args.unit.now c.args.work.now r.in_bounds r.unit_len_bound r.unit_in_bounds c.ebsp_to_rbsp.ensures.value in
    record {
      value = cc;
      work_after = payload-out _ _ r.in_bounds r.unit_len_bound r.unit_in_bounds c.ebsp_to_rbsp.ensures.out_after;
    }
