-- What is still to come of the escaped bytes, put behind those that are there, is the whole.
use native.Mathlib.Omega.{arith}
use mathlib.Core.Path.{sym, ◌∙◌}
use lib.ListN.{length-set}
use Rattle.nal.specs.Escape.{escape}
use Rattle.nal.proofs.Putting.{put_start}
use Rattle.nal.proofs.Steps.{put-over, put_plain, put-escaped, done-plain, room_three, done_three}
use Rattle.nal.proofs.escape_into.Goals as goal

pub loop-b-init : goal.loop-b-init
unfolding escape
loop-b-init c = record { putting = put_start _ _ }

pub bounds-out-put : goal.bounds-out-put
bounds-out-put c = omega (arith, (put-over c.loop-b.invariant c.requires (omega arith) c.if-b-gt3.true).room)

pub loop-b-preserved-then-b-gt3 : goal.loop-b-preserved-then-b-gt3
loop-b-preserved-then-b-gt3 c = (put-over c.loop-b.invariant c.requires (omega arith) c.if-b-gt3.true).behind

pub bounds-out-put-then-needs_escape : goal.bounds-out-put-then-needs_escape
bounds-out-put-then-needs_escape c = omega (arith, (put-escaped c.loop-b.invariant c.requires (omega arith) (sym c.needs_escape.ensures ∙ c.if-needs_escape.true)).room)

pub bounds-out-put-then-needs_escape-2 : goal.bounds-out-put-then-needs_escape-2
bounds-out-put-then-needs_escape-2 c = omega (arith, (put-escaped c.loop-b.invariant c.requires (omega arith) (sym c.needs_escape.ensures ∙ c.if-needs_escape.true)).room, length-set c.loop-b.out c.loop-b.put 3)

pub loop-b-preserved-then-needs_escape : goal.loop-b-preserved-then-needs_escape
loop-b-preserved-then-needs_escape c = rw c.zero_run-z.ensures (put-escaped c.loop-b.invariant c.requires (omega arith) (sym c.needs_escape.ensures ∙ c.if-needs_escape.true)).behind

pub bounds-out-put-in-loop-b : goal.bounds-out-put-in-loop-b
bounds-out-put-in-loop-b c = omega (arith, (put_plain c.loop-b.invariant c.requires (omega arith) (sym c.needs_escape.ensures ∙ c.if-needs_escape.false)).room)

pub loop-b-preserved : goal.loop-b-preserved
loop-b-preserved c = rw c.zero_run-z-in-loop-b.ensures (put_plain c.loop-b.invariant c.requires (omega arith) (sym c.needs_escape.ensures ∙ c.if-needs_escape.false)).behind

pub bounds-out-put-then-z-ge2 : goal.bounds-out-put-then-z-ge2
bounds-out-put-then-z-ge2 c = room_three c.loop-b.invariant c.requires (omega arith) c.if-z-ge2.true

pub returns-then-z-ge2 : goal.returns-then-z-ge2
returns-then-z-ge2 c = let done = done_three c.loop-b.invariant c.requires (omega arith) c.if-z-ge2.true in record { value = done.0; out_after = done.1 }

pub returns : goal.returns
returns c = let done = done-plain c.loop-b.invariant c.requires (omega arith) c.if-z-ge2.false in record { value = done.0; out_after = done.1 }
