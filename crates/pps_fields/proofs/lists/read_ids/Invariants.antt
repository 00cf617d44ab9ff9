-- What is left to be read and stored, from where the loop stands, makes the whole list: `Filling`, with a law for each
-- way through the loop.
use Rattle.std.specs.Prelude.{min}
use Rattle.syntax.specs.Elements.{u}
use Rattle.pps_fields.specs.ListReads.{Filling}
use Rattle.pps_fields.proofs.lists.read_ids.Given as goal

abbrev pub invariant-loop-i : goal.invariant-loop-i
invariant-loop-i l = Filling (u (min l.bits 32) 27).read (λ v. v) l.count 0 l.initial.r l.initial.table l.i l.r l.table
