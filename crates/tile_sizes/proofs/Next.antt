-- The code of `next_size`.
use mathlib.Core.Path.{◌≡◌}
use mathlib.Core.List.{List}
use Prim.Native.Nat.{ℕ, ◌+◌, ◌-◌, ◌^◌, ◌≤◌, ◌<◌, min}
use native.Mathlib.Omega.{arith}
use lib.ListN.{length, get_or, drop, drop_of_length-le}
use lib.Seq.{drop-cons}
use Rattle.tile_sizes.specs.Answers.{next_size}

module _ (es : List ℕ) (j u n : ℕ) where
  pub explicit-next : (e : ℕ) → j < length es → e ≡ get_or es j 0 → n < 2 ^ 32 → min (min (e + 1) (2 ^ 32 - 1)) n ≡ min (next_size (drop j es) u n) n
  unfolding next_size
  explicit-next e h q l = rw (drop-cons es j 0 h, ← q) (omega arith)

  pub other-next : length es ≤ j → min u n ≡ min (next_size (drop j es) u n) n
  unfolding next_size
  other-next h = rw (drop_of_length-le es h) (omega arith)
