use native.Mathlib.Omega.{arith}
use Rattle.std.specs.Prelude.{ℕ, length, replicate, ◌≡◌}
use Rattle.std.proofs.Common.{sym, ◌∙◌}
use Rattle.std.proofs.Math.ListN.{length-replicate}
use Rattle.partition.specs.Grid.{max_slices}
use Rattle.tile_grid.specs.Rects.{no_rect}
use Rattle.vvc_pps.proofs.Spread.{spread-more}
use Rattle.vvc_pps.proofs.questions.of_plan.Goals as goal

pub loop-i-preserved : goal.loop-i-preserved
loop-i-preserved c =
    let i = c.loop-i.invariant in
    let n : length {A = ℕ} (replicate max_slices 0) ≡ length c.args.slices.now = length-replicate {A = ℕ} max_slices 0 ∙ sym c.requires in
    record {
      left = spread-more _ _ _ _ no_rect n (omega arith) _ i.left;
      top = spread-more _ _ _ _ no_rect n (omega arith) _ i.top;
      width = spread-more _ _ _ _ no_rect n (omega arith) _ i.width;
      height = spread-more _ _ _ _ no_rect n (omega arith) _ i.height;
    }
