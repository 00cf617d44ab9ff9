-- What is still to come of the unescaped bytes, put behind those that are there, is the whole.
use native.Mathlib.Nat.{le_trans}
use native.Mathlib.Omega.{arith}
use mathlib.Core.Path.{sym, ap, ◌∙◌}
use Rattle.std.specs.Prelude.{Ok}
use Rattle.nal.specs.Escape.{unescape}
use Rattle.nal.specs.Answers.{unescape-done}
use Rattle.nal.specs.Lengths.{unescape-length}
use Rattle.nal.proofs.Putting.{put_start, put-none, put_byte, put-done}
use Rattle.nal.proofs.Steps.{unescape-kept, unescape_dropped, unescape-over, unescape-end}
use Rattle.nal.proofs.ebsp_to_rbsp.Goals as goal

pub loop-b-init : goal.loop-b-init
unfolding unescape
loop-b-init c = (omega arith, put_start _ _)

pub loop-b-preserved-then-b-gt3 : goal.loop-b-preserved-then-b-gt3
loop-b-preserved-then-b-gt3 c = (omega arith, put_byte c.loop-b.invariant.1 (unescape-over c.args.ebsp.now c.loop-b.z c.loop-b.b-index (omega arith) c.if-b-gt3.true))

pub loop-b-preserved-then-not-is_escape : goal.loop-b-preserved-then-not-is_escape
loop-b-preserved-then-not-is_escape c = rw c.zero_run-z.ensures (omega arith, put_byte c.loop-b.invariant.1 (unescape-kept c.args.ebsp.now c.loop-b.z c.loop-b.b-index (omega arith) (sym c.is_escape.ensures ∙ c.if-not-is_escape.true)))

pub loop-b-preserved : goal.loop-b-preserved
loop-b-preserved c = (omega arith, put-none c.loop-b.invariant.1 (unescape_dropped c.args.ebsp.now c.loop-b.z c.loop-b.b-index (omega arith) (sym c.is_escape.ensures ∙ c.if-not-is_escape.false)))

pub returns : goal.returns
returns c = let all = put-done c.loop-b.invariant.1 (unescape-end c.args.ebsp.now c.loop-b.z c.loop-b.b-index (omega arith)) (le_trans (unescape-length _) c.if-out-ebsp.false) in
    let right = unescape-done c.args.ebsp.now c.args.out.now c.if-ebsp-gt-MAX_BYTES.false c.if-out-ebsp.false in record { value = ap Ok all.0 ∙ sym right.0; out_after = all.1 ∙ sym right.1 }
