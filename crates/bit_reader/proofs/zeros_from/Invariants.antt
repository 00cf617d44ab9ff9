use Prim.Native.Nat.{◌+◌, ◌-◌, ◌≤◌}
use mathlib.Core.Path.{◌≡◌}
use Rattle.bit_reader.specs.Reading.{zeros_at}
use Rattle.bit_reader.proofs.zeros_from.Given as goal

abbrev pub invariant-loop-k : goal.invariant-loop-k
invariant-loop-k l = (l.k ≤ 32) × (zeros_at l.s l.at 32 ≡ l.k + zeros_at l.s (l.at + l.k) (32 - l.k))

abbrev pub decreases-loop-k : goal.decreases-loop-k
decreases-loop-k l = 32 - l.k
