-- What is left to be read and stored, from where the loop stands, makes the whole list: `Filling`, with a law for each way through the loop.
use Rattle.syntax.specs.Syntax.{parse}
use Rattle.pps_syntax.specs.Chroma.{triple}
use Rattle.pps_fields.specs.ListReads.{Filling}
use Rattle.pps_syntax.specs.Record.{offsets_of}
use Rattle.pps_blocks.proofs.chroma.read_triples.Given as goal

abbrev pub invariant-loop-i : goal.invariant-loop-i
invariant-loop-i l = Filling (parse (triple l.with_joint)) offsets_of l.count 0 l.initial.r l.initial.triples l.i l.r l.triples
