-- What loops over bits cite.
use Rattle.std.specs.Prelude.{ℕ, ◌^◌, ◌<◌, List}
use Rattle.std.proofs.Common.{arith, pow_mono}
use Rattle.codes.specs.Bytes.{bits_at, bits-lt, bit-lt, bits-step, bits_none}
use Rattle.bit_reader.specs.Laws.{stops_past, stops-one, stops-not, zeros-none, zeros-out, zeros-count}

-- fewer than 32 bits leave room for one more
pub bits-room : (s : List ℕ) (at i : ℕ) → i < 32 → bits_at s at i < 2 ^ 31
bits-room s at i h = omega (arith, bits-lt s at i, pow_mono {i = i} {j = 31} (omega arith))

pub ruleset bits = (bits-room, bit-lt, bits-step, bits_none)

pub ruleset zeros = (stops_past, stops-one, stops-not, zeros-none, zeros-out, zeros-count)
