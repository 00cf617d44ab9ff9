use Rattle.std.specs.Prelude.{replicate}
use Rattle.partition.specs.Grid.{max_slices}
use Rattle.vvc_pps.proofs.Spread.{Spread}
use Rattle.vvc_pps.proofs.questions.of_plan.Given as goal

abbrev pub invariant-loop-i : goal.invariant-loop-i
invariant-loop-i l =
    record {
      left : Spread (λ s. s.left.0) l.slices (replicate max_slices 0) l.left l.i;
      top : Spread (λ s. s.top.0) l.slices (replicate max_slices 0) l.top l.i;
      width : Spread (λ s. s.width.0) l.slices (replicate max_slices 0) l.width l.i;
      height : Spread (λ s. s.height.0) l.slices (replicate max_slices 0) l.height l.i;
    }
