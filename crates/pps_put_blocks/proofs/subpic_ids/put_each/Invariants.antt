use mathlib.Core.Path.{◌≡◌}
use lib.ListN.{drop}
use Rattle.bit_writer.specs.Stop.{play_on}
use Rattle.bit_writer.specs.Written.{written}
use Rattle.syntax.specs.Elements.{u}
use Rattle.pps_put.specs.Each.{each}
use Rattle.pps_put_blocks.proofs.subpic_ids.put_each.Given as goal

abbrev pub invariant-loop-id : goal.invariant-loop-id
invariant-loop-id l = play_on (written l.w l.out) (each (u l.bits 27) (drop l.id-index l.ids)) ≡ play_on (written l.initial.w l.initial.out) (each (u l.bits 27) l.ids)
