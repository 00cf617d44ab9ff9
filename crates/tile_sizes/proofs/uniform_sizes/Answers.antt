use mathlib.Core.Path.{◌≡◌, sym, ◌∙◌}
use Prim.Native.Nat.{ℕ, min}
use lib.ListN.{length}
use native.Mathlib.Nat.{div-zero, mod-zero}
use Rattle.partition.specs.Sizes.{uniform_sizes}
use native.Mathlib.Omega.{arith}
use Rattle.tile_sizes.specs.Left.{uniform_length}
use Rattle.tile_sizes.proofs.Count.{pieces_le}
use Rattle.tile_sizes.proofs.uniform_sizes.Goals as goal

-- a uniform size of 0 leaves the rest one size
at-zero : (u n : ℕ) → u ≡ 0 → min n 1 ≡ length (uniform_sizes u n)
at-zero u n e = rw e (omega (arith, uniform_length 0 n, div-zero n, mod-zero n))

pub returns-then-uniform-eq0 : goal.returns-then-uniform-eq0
returns-then-uniform-eq0 c = (c.min.ensures ∙ at-zero _ _ c.if-uniform-eq0.true, omega (arith, c.min.ensures))

pub returns : goal.returns
returns c = (c.div_ceil.ensures ∙ sym (uniform_length _ _), omega (arith, pieces_le c.args.remaining c.args.uniform (omega (arith, c.if-uniform-eq0.false)), c.div_ceil.ensures))
