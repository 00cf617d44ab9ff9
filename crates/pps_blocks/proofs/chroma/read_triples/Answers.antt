-- What is left to be read and stored, from where the loop stands, makes the whole list: `Filling`, with a law for each way through the loop.
use Rattle.std.specs.Prelude.{set}
use Rattle.std.proofs.Common.{zero-add, ap, sym}
use Rattle.tables.specs.Tables.{blank}
use Rattle.bit_reader.proofs.Gives.{at_exit, holds, holds-none, held_back, held-none_back}
use Rattle.pps_syntax.specs.Chroma.{triple_element}
use Rattle.pps_syntax.specs.Record.{offsets_of, triples_of, no_triples}
use Rattle.syntax.specs.Lists.{many}
use Rattle.pps_fields.specs.ListReads.{list-many, fill_more, filled-whole, filled-stop}
use Rattle.pps_blocks.proofs.chroma.read_triples.Goals as goal

pub returns-in_err-t-clause-triples : goal.returns-in_err-t-clause-triples
returns-in_err-t-clause-triples c = at_exit c.from_residual.ensures.1 (holds-none triples_of
    (filled-stop (many c.args.count (triple_element c.args.with_joint) 21).read (list-many _ _ 21 _ _) c.loop-i.invariant c.loop-i-test.true (held-none_back offsets_of c.in_err-t.ensures)))

pub loop-i-preserved : goal.loop-i-preserved
loop-i-preserved c = fill_more c.loop-i.invariant c.loop-i-test.true (held_back offsets_of c.in_ok-t.ensures) (rw zero-add (ap (set c.loop-i.triples c.loop-i.i) (sym c.in_ok-t.ensures.value)))

pub returns-clause-triples : goal.returns-clause-triples
unfolding no_triples blank
returns-clause-triples c = let w = filled-whole (many c.args.count (triple_element c.args.with_joint) 21).read (list-many _ _ 21 _ _) c.loop-i.invariant c.loop-i-test.false in
    holds triples_of w.0 w.2

pub returns-clause-count : goal.returns-clause-count
returns-clause-count c = (filled-whole (many c.args.count (triple_element c.args.with_joint) 21).read (list-many _ _ 21 _ _) c.loop-i.invariant c.loop-i-test.false).1
