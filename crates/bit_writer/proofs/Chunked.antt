-- How a u64 computes the bits of a byte.
use Prim.Native.Nat.{ℕ, ◌+◌, ◌*◌, ◌%◌, ◌^◌, ◌≤◌, ◌<◌}
use native.Mathlib.Omega.{arith}
use mathlib.Core.Path.{◌≡◌, sym, ◌∙◌}
use Rattle.codes.specs.Bits.{to_bits}
use Rattle.bit_writer.specs.Writing.{Writing, place, holding, put_byte, feed}
use Rattle.bit_writer.specs.Chunks.{chunk_open, chunk_whole}

module _ (w : Writing) (m p x : ℕ) (e : p ≡ 2 ^ m) where
  pub made_open : 0 < m → place w.sink + m < 8 → holding w ((w.sink.cur * p + x % p) % 256) (place w.sink + m) ≡ feed w (to_bits m x)
  made_open h l = rw e (sym (chunk_open w m x h l))

  pub made-whole : {t : Writing} → place w.sink + m ≤ 8 → 8 ≤ place w.sink + m → t ≡ put_byte w ((w.sink.cur * p + x % p) % 256) → t ≡ feed w (to_bits m x)
  made-whole h l d = d ∙ rw e (sym (chunk_whole w m x (omega arith)))
