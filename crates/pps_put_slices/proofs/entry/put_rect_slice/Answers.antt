use mathlib.Core.Path.{refl, ◌∙◌}
use Rattle.std.proofs.lemmas.Result.{IfOk-from_err}
use Rattle.slice_loop.specs.Loop.{position_of}
use Rattle.bit_writer.proofs.Ended.{at_err, stopped_at}
use Rattle.pps_put_slices.specs.EntryPut.{rect_slice_of}
use Rattle.pps_put_slices.proofs.Entries.{size-then, split-then, move-then, followed}
use Rattle.pps_put_slices.proofs.entry.put_rect_slice.Goals as goal

pub returns-in_err-put_size_in_tiles : goal.returns-in_err-put_size_in_tiles
returns-in_err-put_size_in_tiles c = λ g o.
    let k = position_of c.args.at in
    let e = rect_slice_of c.args.e c.args.heights.now in
    record {
      put = stopped_at _ _ _ _ _ c.from_residual.ensures.1 ∙ size-then g _ _ o k e _ c.in_err-put_size_in_tiles.ensures;
      follows = IfOk-from_err _ _ c.from_residual.ensures.0;
    }

pub returns-in_err-last : goal.returns-in_err-last
returns-in_err-last c = λ g o.
    let k = position_of c.args.at in
    let e = rect_slice_of c.args.e c.args.heights.now in
    record {
      put =
          stopped_at _ _ _ _ _ c.from_residual-in_err-last.ensures.1
          ∙ split-then g _ _ o k e c.row_height-row.ensures c.exp_block-split.ensures _ c.in_err-last.ensures.put
          ∙ size-then g _ _ o k e _ c.in_ok-put_size_in_tiles.ensures;
      follows = IfOk-from_err _ _ c.from_residual-in_err-last.ensures.0;
    }

pub returns-in_err-tile : goal.returns-in_err-tile
returns-in_err-tile c = λ g o.
    let k = position_of c.args.at in
    let e = rect_slice_of c.args.e c.args.heights.now in
    record {
      put =
          at_err _ _ _ _ c.from_residual-in_err-tile.ensures.1
          ∙ move-then g _ _ o k e c.row_height-row.ensures c.exp_block-split.ensures c.in_ok-last.ensures.last _ c.in_err-tile.ensures.put
          ∙ split-then g _ _ o k e c.row_height-row.ensures c.exp_block-split.ensures _ c.in_ok-last.ensures.put
          ∙ size-then g _ _ o k e _ c.in_ok-put_size_in_tiles.ensures;
      follows = IfOk-from_err _ _ c.from_residual-in_err-tile.ensures.0;
    }

pub returns : goal.returns
returns c = λ g o.
    let k = position_of c.args.at in
    let e = rect_slice_of c.args.e c.args.heights.now in
    record {
      put =
          move-then g _ _ o k e c.row_height-row.ensures c.exp_block-split.ensures c.in_ok-last.ensures.last _ c.in_ok-tile.ensures.put
          ∙ split-then g _ _ o k e c.row_height-row.ensures c.exp_block-split.ensures _ c.in_ok-last.ensures.put
          ∙ size-then g _ _ o k e _ c.in_ok-put_size_in_tiles.ensures;
      follows = (followed g _ _ o k e c.row_height-row.ensures c.exp_block-split.ensures c.in_ok-last.ensures.last c.slice_after.ensures c.in_ok-tile.ensures.tile, refl);
    }
