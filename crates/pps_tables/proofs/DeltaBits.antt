-- std's casts between an i32 and its 32 bits give what `bits_of_delta` and `delta_of_bits` say.
use Prim.Native.Nat.{ℕ, suc, ◌-◌, ◌<◌, ◌^◌}
use mathlib.Core.Path.{◌≡◌, refl, ap, ◌∙◌}
use mathlib.Core.Bool.{Bool, true, false}
use native.Mathlib.Omega.{arith}
use lib.Dec.{ltb}
use lib.IntN.{ℤ, pos, negsuc}
use mir.Facts.{to_z-of_z}
use mir.Syntax.{w32}
use mir.Val.{SFits, to_z, of_z}
use Rattle.pps_syntax.specs.SliceTables.{bits_of_delta, delta_of_bits}

bits : (z : ℤ) → of_z w32 z ≡ bits_of_delta z
unfolding bits_of_delta
bits (pos n) = refl
bits (negsuc n) = let e : 2 ^ 32 - suc n ≡ 4294967295 - n = omega arith in e

-- an argument is passed as its bits
pub bits_are : {z : ℤ} → SFits w32 z → of_z w32 (to_z w32 (of_z w32 z)) ≡ bits_of_delta z
bits_are {z} f = ap (of_z w32) (to_z-of_z f) ∙ bits z

pub delta_is : (b : ℕ) → b < 2 ^ 32 → to_z w32 b ≡ delta_of_bits b
unfolding delta_of_bits
delta_is b h = cases (ltb b 2147483648) refl
  where
    cases : (t : Bool) → ltb b 2147483648 ≡ t → to_z w32 b ≡ delta_of_bits b
    cases true e = rw e refl
    cases false e = rw e (ap negsuc (let q : 2 ^ 32 - suc b ≡ 4294967295 - b = omega arith in q))
