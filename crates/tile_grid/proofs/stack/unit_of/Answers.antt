use native.Mathlib.Omega.{arith}
use Rattle.tile_grid.specs.Stacking.{unit-none, unit-last, last-fits-total}
use Rattle.tile_grid.proofs.stack.unit_of.Goals as goal

pub overflow_add-result : goal.overflow_add-result
overflow_add-result c = let f = last-fits-total c.args.heights_minus1.now c.args.total.0 (λ e. omega arith) c.requires in omega arith

pub returns-in-empty : goal.returns-in-empty
returns-in-empty c = unit-none _ _ (omega arith)

pub returns-in-len1-up : goal.returns-in-len1-up
returns-in-len1-up c = unit-last _ _ (λ e. omega arith)
