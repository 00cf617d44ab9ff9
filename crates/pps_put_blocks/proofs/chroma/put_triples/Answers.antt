use mathlib.Core.List.{map}
use mathlib.Core.Path.{sym, ◌∙◌}
use Rattle.bit_writer.proofs.Ended.{at_err}
use Rattle.pps_syntax.specs.Chroma.{triple_element}
use Rattle.pps_syntax.specs.FromRecord.{triple_of}
use Rattle.pps_put.proofs.EachPut.{each_turn, each_stop, each_end}
use Rattle.pps_put.proofs.Named.{named}
use Rattle.pps_put_blocks.proofs.Triples.{none, in_map, end_of_map, triple_at}
use Rattle.pps_put_blocks.proofs.chroma.put_triples.Goals as goal

pub returns-in_err-put_triple : goal.returns-in_err-put_triple
returns-in_err-put_triple c =
    let e = triple_element c.args.joint in
    let ts = c.args.triples.now in
    let i = c.loop-t.t-index in
    at_err _ _ _ _ c.from_residual.ensures.1
    ∙ each_stop _ e (map triple_of ts) i (triple_of none) _ _ _ (in_map ts i c.loop-t-test.true) (named e.symbols _ (triple_at ts i) c.in_err-put_triple.ensures)
    ∙ c.loop-t.invariant

pub loop-t-preserved : goal.loop-t-preserved
loop-t-preserved c =
    let e = triple_element c.args.joint in
    let ts = c.args.triples.now in
    let i = c.loop-t.t-index in
    each_turn _ e (map triple_of ts) i (triple_of none) (in_map ts i c.loop-t-test.true) (named e.symbols _ (triple_at ts i) c.in_ok-put_triple.ensures) ∙ c.loop-t.invariant

pub returns : goal.returns
returns c = let ts = c.args.triples.now in
    sym (each_end _ (triple_element c.args.joint) (map triple_of ts) c.loop-t.t-index (end_of_map ts c.loop-t.t-index c.loop-t-test.false)) ∙ c.loop-t.invariant
