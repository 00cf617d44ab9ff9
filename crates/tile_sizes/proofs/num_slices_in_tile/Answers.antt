use mathlib.Core.Path.{sym, ◌∙◌}
use borrow.Author.Tests.{eqb-true, eqb-false}
use Rattle.tile_sizes.proofs.Count.{no-heights, some-heights}
use Rattle.tile_sizes.proofs.num_slices_in_tile.Goals as goal

pub returns-then-is_empty : goal.returns-then-is_empty
returns-then-is_empty c = no-heights _ _ (eqb-true _ _ (sym c.if-is_empty.ensures))

pub returns : goal.returns
returns c = c.ok_or.ensures.value ∙ rw c.count_sizes.ensures (some-heights _ _ (eqb-false _ _ (sym c.if-is_empty.ensures)))
