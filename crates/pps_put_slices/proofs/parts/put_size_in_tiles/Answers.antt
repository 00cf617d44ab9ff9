use mathlib.Core.Path.{◌≡◌, sym, ap₂, ◌∙◌}
use Rattle.refusal.specs.Numbers.{number}
use Rattle.codes.specs.Coded.{ue_symbols, only_if}
use Rattle.partition.specs.Entry.{height_coded}
use Rattle.bit_writer.specs.Stop.{play_on, on_then}
use Rattle.bit_writer.specs.Writing.{Writing}
use Rattle.bit_writer.specs.Written.{written}
use Rattle.bit_writer.proofs.Ended.{at_err, stopped_at}
use Rattle.syntax.specs.StopSteps.{only-on, only-off}
use Rattle.pps_put_slices.specs.Parts.{size_in_tiles}
use Rattle.pps_put_slices.proofs.Sized.{across-tested, down-tested}
use Rattle.pps_put_slices.proofs.parts.put_size_in_tiles.Goals as goal
use Rattle.pps_put_slices.proofs.parts.put_size_in_tiles.Goals.{After-height_coded, then-width_coded+in_ok-put_ue, else-width_coded}

pub returns-in_err-test : goal.returns-in_err-test
unfolding number
returns-in_err-test c = across-tested _ _ _ _ _ _ _ c.columns_left.ensures (c.in_err-test.ensures.put _ _) (stopped_at _ _ _ _ _ c.from_residual.ensures.1)

pub returns-in_err-test-2 : goal.returns-in_err-test-2
unfolding number
returns-in_err-test-2 c =
    across-tested _ _ _ _ _ _ _ c.columns_left.ensures (c.in_ok-test.ensures.put _ _)
    (down-tested _ _ _ _ _ _ _ c.rows_left.ensures (c.in_err-test-2.ensures.put _ _) (stopped_at _ _ _ _ _ c.from_residual-in_err-test-2.ensures.1))

pub returns-in_err-put_ue : goal.returns-in_err-put_ue
unfolding number
returns-in_err-put_ue c =
    across-tested _ _ _ _ _ _ _ c.columns_left.ensures (c.in_ok-test.ensures.put _ _)
    (down-tested _ _ _ _ _ _ _ c.rows_left.ensures (c.in_ok-test-2.ensures.put _ _)
    (on_then _ _ _ (only-on _ _ _ (sym c.if-width_coded.ensures) c.in_err-put_ue.ensures) (stopped_at _ _ _ _ _ c.from_residual-in_err-put_ue.ensures.1)))

-- behind the width, coded or not, by what is put of the height
height-put : (c : After-height_coded) {v : Writing} → v ≡ play_on (written c.if-width_coded.w c.if-width_coded.out) (only_if (height_coded c.args.ctx.num_tile_columns c.args.ctx.num_tile_rows c.args.ctx.delta_present c.args.tile.0) (ue_symbols c.args.height))
    → v ≡ play_on (written c.args.w.now c.args.out.now) (size_in_tiles c.args.ctx.num_tile_columns c.args.ctx.num_tile_rows c.args.ctx.delta_present c.args.tile.0 c.args.width c.args.height)
unfolding number
height-put c h =
    across-tested _ _ _ _ _ _ _ c.columns_left.ensures (c.in_ok-test.ensures.put _ _)
    (down-tested _ _ _ _ _ _ _ c.rows_left.ensures (c.in_ok-test-2.ensures.put _ _)
    (on_then _ {a = written c.if-width_coded.w c.if-width_coded.out} _ _
    (elim c.if-width_coded.branch [
      | then-width_coded+in_ok-put_ue v ↦ ap₂ written v.w-is v.out-is ∙ only-on _ _ _ (sym v.if-width_coded.ensures) v.in_ok-put_ue.ensures
      | else-width_coded v ↦ ap₂ written v.w-is v.out-is ∙ only-off _ _ _ (sym v.if-width_coded.ensures)
    ])
    h))

pub returns-in_err-put_ue-2 : goal.returns-in_err-put_ue-2
returns-in_err-put_ue-2 c =
    height-put (goal.at.returns-in_err-put_ue-2 c).After-height_coded
    (only-on _ _ _ (sym c.if-height_coded.ensures) (at_err _ _ _ _ c.from_residual-in_err-put_ue-2.ensures.1 ∙ c.in_err-put_ue-2.ensures))

pub returns-in_ok-put_ue-2 : goal.returns-in_ok-put_ue-2
returns-in_ok-put_ue-2 c = height-put (goal.at.returns-in_ok-put_ue-2 c).After-height_coded (only-on _ _ _ (sym c.if-height_coded.ensures) c.in_ok-put_ue-2.ensures)

pub returns-else-height_coded : goal.returns-else-height_coded
returns-else-height_coded c = height-put (goal.at.returns-else-height_coded c).After-height_coded (only-off _ _ _ (sym c.if-height_coded.ensures))
