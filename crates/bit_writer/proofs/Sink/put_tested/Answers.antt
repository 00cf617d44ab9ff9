use mathlib.Core.Path.{sym, ◌∙◌}
use Rattle.refusal.specs.Numbers.{number}
use Rattle.bit_writer.proofs.ByValue.{tested-kept, late, passes, refuses}
use Rattle.bit_writer.proofs.Sink.put_tested.Goals as goal
use Rattle.bit_writer.proofs.Sink.put_tested.Goals.{then-self-ne0-via-then-self-ne0, then-self-ne0-via-else-self-ne0+then-has_code}

pub returns-then-self-ne0 : goal.returns-then-self-ne0
returns-then-self-ne0 c = elim c.then-self-ne0.branch [
  | then-self-ne0-via-then-self-ne0 w ↦ tested-kept c.args.self _ _ c.writer-w.ensures _ _ _ (late _ _ w.if-self-ne0.true) c.put_code.ensures c.of.ensures
  | then-self-ne0-via-else-self-ne0+then-has_code w ↦ tested-kept c.args.self _ _ c.writer-w.ensures _ _ _ (passes _ _ (sym w.if-has_code.ensures)) c.put_code.ensures c.of.ensures
]

pub returns : goal.returns
unfolding number
returns c = tested-kept c.args.self _ _ c.writer-w.ensures _ _ _ (c.number.ensures ∙ refuses _ _ c.if-self-ne0.false (sym c.if-has_code.ensures)) c.put_code.ensures c.of-2.ensures
