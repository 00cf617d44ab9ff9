-- A writer as a sink with no refusal, and what a function that may refuse leaves.
use Rattle.std.specs.Prelude.{ℕ, List, Result, Ok, Err}
use Rattle.refusal.specs.declared.Refusal.{Refusal}
use Rattle.refusal.specs.Numbers.{number}
use Rattle.bit_writer.specs.declared.BitWriter.{BitWriter}
use Rattle.bit_writer.specs.declared.Sink.{Sink}
use Rattle.bit_writer.specs.Writing.{Writing, sink_over, with_refusal}

-- a writer's fields with a refusal's number, and back
abbrev pub sink_of : BitWriter → ℕ → Sink
sink_of w r = record { escape = w.escape; zeros = w.zeros; put = w.put; cur = w.cur; have = w.have; refused = r }

abbrev pub writer_of : Sink → BitWriter
writer_of s = record { escape = s.escape; zeros = s.zeros; put = s.put; cur = s.cur; have = s.have }

abbrev pub written : BitWriter → List ℕ → Writing
written w o = sink_over (sink_of w 0) o

-- a refusal stands where the writing stopped
abbrev pub ended : {A : Type 0} → BitWriter → List ℕ → Result A Refusal → Writing
ended w o (Ok _) = written w o
ended w o (Err e) = with_refusal (written w o) (number e)
