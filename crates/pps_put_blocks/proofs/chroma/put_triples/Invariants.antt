use mathlib.Core.List.{map}
use mathlib.Core.Path.{◌≡◌}
use lib.ListN.{drop}
use Rattle.bit_writer.specs.Stop.{play_on}
use Rattle.bit_writer.specs.Written.{written}
use Rattle.pps_syntax.specs.Chroma.{triple_element}
use Rattle.pps_syntax.specs.FromRecord.{triple_of}
use Rattle.pps_put.specs.Each.{each}
use Rattle.pps_put_blocks.proofs.chroma.put_triples.Given as goal

abbrev pub invariant-loop-t : goal.invariant-loop-t
invariant-loop-t l = play_on (written l.w l.out) (each (triple_element l.joint) (drop l.t-index (map triple_of l.triples))) ≡ play_on (written l.initial.w l.initial.out) (each (triple_element l.joint) (map triple_of l.triples))
