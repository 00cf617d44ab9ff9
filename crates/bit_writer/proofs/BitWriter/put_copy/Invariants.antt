-- The bits still to come, fed to what is there, are all the bits fed to what was there.
use Prim.Native.Nat.{◌+◌, ◌*◌, ◌-◌, ◌%◌}
use mathlib.Core.Path.{◌≡◌}
use Rattle.codes.specs.Bytes.{bits_at, bit_list}
use Rattle.bit_writer.specs.Writing.{feed}
use Rattle.bit_writer.specs.Written.{written}
use Rattle.bit_writer.proofs.BitWriter.put_copy.Given as goal

abbrev pub invariant-loop-i : goal.invariant-loop-i
invariant-loop-i l = (l.a ≡ bits_at l.src (l.i * 8) 8)
    × (feed (written l.w l.out) (bit_list l.src (l.i * 8 + l.from % 8) ((l.end - l.i) * 8 + l.count % 8)) ≡ feed (written l.initial.w l.initial.out) (bit_list l.src l.from l.count))
