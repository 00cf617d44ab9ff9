-- The bits still to come, fed to what is there, are all the bits fed to what was there.
use Prim.Native.Nat.{◌≤◌}
use mathlib.Core.Path.{◌≡◌}
use Rattle.codes.specs.Bits.{to_bits}
use Rattle.bit_writer.specs.Writing.{feed}
use Rattle.bit_writer.specs.Written.{written}
use Rattle.bit_writer.proofs.BitWriter.put_word.Given as goal

abbrev pub invariant-loop-k : goal.invariant-loop-k
invariant-loop-k l = (l.k ≤ 64) × (feed (written l.self l.out) (to_bits l.k l.value) ≡ feed (written l.initial.self l.initial.out) (to_bits l.n l.value))

abbrev pub decreases-loop-k : goal.decreases-loop-k
decreases-loop-k l = l.k
