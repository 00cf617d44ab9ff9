-- The loop over the row heights that are looked at.
use Prim.Native.Nat.{◌<◌}
use mathlib.Core.Path.{sym, ◌∙◌}
use Rattle.pps_slices.specs.Grids.{over-made, front_length, front_same, tiles-few}
use borrow.Author.Rules.{rules}
use Rattle.pps_slices.proofs.read_rect_slices.Goals as goal

pub returns-clause-gives : goal.returns-clause-gives
returns-clause-gives c = λ g h. c.read_loop.ensures.gives g (over-made _ _ g (front_length _ _ c.min-rows.ensures) (record { columns_are = h.columns_are; heights_are = h.heights_are ∙ sym (front_same _ _ c.min-rows.ensures) }))

pub returns-clause-tables : goal.returns-clause-tables
returns-clause-tables c = λ g h. c.read_loop.ensures.tables g (over-made _ _ g (front_length _ _ c.min-rows.ensures) (record { columns_are = h.columns_are; heights_are = h.heights_are ∙ sym (front_same _ _ c.min-rows.ensures) }))
