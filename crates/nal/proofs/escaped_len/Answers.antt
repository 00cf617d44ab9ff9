-- The bytes counted and the length of those still to come make the whole length.
use native.Mathlib.Omega.{arith}
use mathlib.Core.Path.{refl, sym, ◌∙◌}
use Rattle.nal.specs.Escape.{escape}
use Rattle.nal.proofs.Putting.{count_start, count-byte, count-two, count-done}
use Rattle.nal.proofs.Steps.{escape_plain, escape-escaped, escape-over, escape-end-none, escape-end_three}
use Rattle.nal.proofs.escaped_len.Goals as goal

pub loop-b-init : goal.loop-b-init
unfolding escape
loop-b-init c = count_start _

pub loop-b-preserved-then-b-gt3 : goal.loop-b-preserved-then-b-gt3
loop-b-preserved-then-b-gt3 c = count-byte c.loop-b.invariant (escape-over c.args.rbsp.now c.loop-b.z c.loop-b.b-index (omega arith) c.if-b-gt3.true)

pub loop-b-preserved-then-needs_escape : goal.loop-b-preserved-then-needs_escape
loop-b-preserved-then-needs_escape c = rw c.zero_run-z.ensures (count-two c.loop-b.invariant (escape-escaped c.args.rbsp.now c.loop-b.z c.loop-b.b-index (omega arith) (sym c.needs_escape.ensures ∙ c.if-needs_escape.true)))

pub loop-b-preserved : goal.loop-b-preserved
loop-b-preserved c = rw c.zero_run-z-in-loop-b.ensures (count-byte c.loop-b.invariant (escape_plain c.args.rbsp.now c.loop-b.z c.loop-b.b-index (omega arith) (sym c.needs_escape.ensures ∙ c.if-needs_escape.false)))

pub returns-then-z-ge2 : goal.returns-then-z-ge2
returns-then-z-ge2 c = count-done (count-byte c.loop-b.invariant (escape-end_three c.args.rbsp.now c.loop-b.z c.loop-b.b-index (omega arith) c.if-z-ge2.true)) refl

pub returns : goal.returns
returns c = count-done c.loop-b.invariant (escape-end-none c.args.rbsp.now c.loop-b.z c.loop-b.b-index (omega arith) c.if-z-ge2.false)
