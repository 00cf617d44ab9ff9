use mathlib.Core.Path.{refl}
use Rattle.refusal.specs.Numbers.{number}
use Rattle.bit_writer.specs.Stop.{on_then}
use Rattle.bit_writer.proofs.Ended.{stopped_at}
use Rattle.pps_put_partition.specs.Made.{tiles-listed, widths-put, heights-put}
use Rattle.pps_put_partition.proofs.tiles.put_tile_sizes.Goals as goal

pub returns-in_err-put_ctu_size : goal.returns-in_err-put_ctu_size
returns-in_err-put_ctu_size c = tiles-listed c.args.width c.args.height _ _ _ _ c.in_err-put_ctu_size.ensures (stopped_at _ _ _ _ _ c.from_residual.ensures.1)

pub returns-in_err-test : goal.returns-in_err-test
unfolding number
returns-in_err-test c =
    tiles-listed c.args.width c.args.height _ _ _ _ c.in_ok-put_ctu_size.ensures (on_then _ _ _ (c.in_err-test.ensures.put _ _) (stopped_at _ _ _ _ _ c.from_residual-in_err-test.ensures.1))

pub returns-in_err-put_ue : goal.returns-in_err-put_ue
unfolding number
returns-in_err-put_ue c =
    tiles-listed c.args.width c.args.height _ _ _ _ c.in_ok-put_ctu_size.ensures
    (on_then _ _ _ (c.in_ok-test.ensures.put _ _) (on_then _ _ _ c.in_err-put_ue.ensures (stopped_at _ _ _ _ _ c.from_residual-in_err-put_ue.ensures.1)))

pub returns-in_err-put_ue-2 : goal.returns-in_err-put_ue-2
unfolding number
returns-in_err-put_ue-2 c =
    tiles-listed c.args.width c.args.height _ _ _ _ c.in_ok-put_ctu_size.ensures
    (on_then _ _ _ (c.in_ok-test.ensures.put _ _) (on_then _ _ _ c.in_ok-put_ue.ensures (on_then _ _ _ c.in_err-put_ue-2.ensures (stopped_at _ _ _ _ _ c.from_residual-in_err-put_ue-2.ensures.1))))

pub returns-in_err-put_sizes : goal.returns-in_err-put_sizes
unfolding number
returns-in_err-put_sizes c =
    let a = c.args in
    tiles-listed a.width a.height _ _ _ _ c.in_ok-put_ctu_size.ensures
    (on_then _ _ _ (c.in_ok-test.ensures.put _ _) (on_then _ _ _ c.in_ok-put_ue.ensures (on_then _ _ _ c.in_ok-put_ue-2.ensures
    (on_then _ _ _ (widths-put a.width a.height a.ctu a.widths.now a.heights.now _ c.in_ok-test.ensures.passed c.in_ok-put_ctu_size.ensures refl _ c.in_ctbs.ensures c.in_err-put_sizes.ensures)
    (stopped_at _ _ _ _ _ c.from_residual-in_err-put_sizes.ensures.1)))))

pub returns : goal.returns
unfolding number
returns c =
    let a = c.args in
    tiles-listed a.width a.height _ _ _ _ c.in_ok-put_ctu_size.ensures
    (on_then _ _ _ (c.in_ok-test.ensures.put _ _) (on_then _ _ _ c.in_ok-put_ue.ensures (on_then _ _ _ c.in_ok-put_ue-2.ensures
    (on_then _ _ _ (widths-put a.width a.height a.ctu a.widths.now a.heights.now _ c.in_ok-test.ensures.passed c.in_ok-put_ctu_size.ensures refl _ c.in_ctbs.ensures c.in_ok-put_sizes.ensures)
    (heights-put a.width a.height a.ctu a.widths.now a.heights.now _ c.in_ok-test.ensures.passed c.in_ok-put_ctu_size.ensures refl _ c.in_ctbs-2.ensures c.put_sizes-2.ensures)))))
