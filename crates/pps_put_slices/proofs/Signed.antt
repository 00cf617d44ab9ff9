-- An i32 has an se code of 32 bits unless it is -2147483648.
use Rattle.std.specs.Prelude.{◌+◌, ◌-◌, ◌*◌, ◌^◌, ◌≤◌, ◌<◌, ◌≡◌, refl, Bool, true, false, ltb, leb, ℤ, pos, negsuc}
use Rattle.std.proofs.Common.{sym, arith, lt-ltb, le-ltb, leb-true, leb-false, SFits}
use Rattle.std.specs.Int.Signed.{le_z}
use Rattle.std.specs.Int.{w32}
use Rattle.codes.specs.ExpGolomb.{code_num}

pub se-codable : (z v : ℤ) → SFits w32 v → z ≡ v → le_z (negsuc 2147483646) z ≡ ltb (code_num v) 4294967295
unfolding code_num
se-codable z (pos k) f e = let s : k < 2 ^ 31 = f.sfits in rw e (sym (lt-ltb (2 * k - 1) 4294967295 (omega arith)))
se-codable z (negsuc k) f e = rw e (split (leb k 2147483646) refl)
  where
    split : (t : Bool) → leb k 2147483646 ≡ t → t ≡ ltb (2 * (k + 1)) 4294967295
    split true q = let l : k ≤ 2147483646 = leb-true k 2147483646 q in sym (lt-ltb (2 * (k + 1)) 4294967295 (omega arith))
    split false q = let l : 2147483646 < k = leb-false k 2147483646 q in sym (le-ltb (2 * (k + 1)) 4294967295 (omega arith))
