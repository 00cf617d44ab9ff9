use mathlib.Core.Path.{ap}
use lib.Dec.{ltb}
use native.Mathlib.Omega.{arith}
use Rattle.refusal.proofs.Numbers.{number_above0}
use Rattle.refusal.specs.Numbers.{number}
use Rattle.bit_writer.specs.Writing.{with_refusal}
use Rattle.bit_writer.specs.Written.{written}
use Rattle.grid_sizes.specs.Fronts.{grid_in}
use Rattle.pps_syntax.specs.SliceTables.{slices_from}
use Rattle.pps_tables.specs.Lent.{slices_of}
use Rattle.bit_writer.proofs.Ended.{stopped_at}
use Rattle.pps_put_partition.specs.Rest.{flags_of, rest-made, slices-stuck}
use Rattle.pps_put_partition.proofs.slicing.put_slicing.Goals as goal

pub returns-in_err-put_flags : goal.returns-in_err-put_flags
returns-in_err-put_flags c =
    let p = c.args.p.now in
    rest-made _ (flags_of p) _ p.pps_loop_filter_across_slices_enabled_flag _ (ap (ltb 1) c.num_tiles.ensures) c.in_err-put_flags.ensures
    (slices-stuck (grid_in c.args.grid.now) (flags_of p) (slices_from (slices_of c.args.slices) 0 0 p.num_rect_slices) (with_refusal (written c.put_flags.new.w c.put_flags.new.out) (number c.in_err-put_flags.field-0.0)) (λ z. absurd (let h = number_above0 c.in_err-put_flags.field-0.0 in omega arith)))
    (stopped_at _ _ _ _ _ c.from_residual.ensures.1)

pub returns-in_err-put_coded_slices : goal.returns-in_err-put_coded_slices
returns-in_err-put_coded_slices c =
    let p = c.args.p.now in
    rest-made _ (flags_of p) _ p.pps_loop_filter_across_slices_enabled_flag _ (ap (ltb 1) c.num_tiles.ensures) c.in_ok-put_flags.ensures c.in_err-put_coded_slices.ensures
    (stopped_at _ _ _ _ _ c.from_residual-in_err-put_coded_slices.ensures.1)

pub returns : goal.returns
returns c =
    let p = c.args.p.now in
    rest-made _ (flags_of p) _ p.pps_loop_filter_across_slices_enabled_flag _ (ap (ltb 1) c.num_tiles.ensures) c.in_ok-put_flags.ensures c.in_ok-put_coded_slices.ensures c.put_flag_if.ensures
