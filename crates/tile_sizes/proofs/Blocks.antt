-- Counting blocks.
use Prim.Native.Nat.{ℕ, ◌+◌, ◌-◌, ◌*◌, ◌/◌, ◌%◌, ◌^◌, ◌<◌, ◌≤◌, min}
use mathlib.Core.Path.{◌≡◌}
use native.Mathlib.Omega.{arith}
use native.Mathlib.Nat.{mod-eq_of_lt}
use Rattle.std.proofs.lemmas.Nat.{pow_below}
use Rattle.partition.specs.Partition.{in_ctbs}

small : (k : ℕ) → k ≤ 5 → 1 * 2 ^ (5 + k) % 2 ^ 64 ≡ 2 ^ (5 + k)
small k h = let p : 1 * 2 ^ (5 + k) < 2 ^ 64 = omega (arith, pow_below (5 + k) 64 (omega arith)) in rw (mod-eq_of_lt p) (omega arith)

pub in_blocks : (n field k : ℕ) → k ≡ min field 5 → (n + (1 * 2 ^ (5 + k) % 2 ^ 64 - 1)) / 2 ^ (5 + k) ≡ in_ctbs n (min field 5)
unfolding in_ctbs
in_blocks n field k e = rw (small k (omega arith), e)
