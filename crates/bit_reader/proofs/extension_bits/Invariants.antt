-- `seen` is the number of 1 bits from the byte `i`, or the bit `p`, on, at most one.
use Rattle.std.specs.Prelude.{◌≡◌, ◌-◌, ◌*◌, ◌+◌, ◌≤◌, ◌<◌, max}
use Rattle.codes.specs.Bytes.{bit_count}
use Rattle.bit_reader.specs.Extension.{ones}
use Rattle.bit_reader.proofs.extension_bits.Given as goal

abbrev pub invariant-loop-i : goal.invariant-loop-i
invariant-loop-i l = let p = max l.at (l.i * 8) in
    (l.i * 8 ≤ bit_count l.s) × (l.seen < 2) × (l.seen ≡ ones l.s p (bit_count l.s - p))

abbrev pub invariant-loop-p : goal.invariant-loop-p
invariant-loop-p l = (max l.at (l.i * 8) ≤ l.p) × (l.p ≤ l.i * 8 + 8) × (l.seen < 2) × (l.seen ≡ ones l.s l.p (bit_count l.s - l.p))
