-- The symbols of a flag, of ue(v), of se(v), and of a part that may be absent.
use Rattle.std.specs.Prelude.{ℕ, Bool, cond, List, [], ltb, eqb, ℤ}
use Rattle.codes.specs.ExpGolomb.{ue_code, code_num, se_code}
use Rattle.codes.specs.Symbols.{Symbol, checked}

-- the bit of a flag: anything but 0 is set
abbrev pub flag_bit : ℕ → ℕ
flag_bit v = cond (eqb v 0) 0 1

-- ue(v): 25 for a value that no ue code of 32 bits has
abbrev pub ue_symbols : ℕ → List Symbol
ue_symbols v = checked (ltb v 4294967295) 25 (ue_code v)

-- se(v): the same of its code number
abbrev pub se_symbols : ℤ → List Symbol
se_symbols v = checked (ltb (code_num v) 4294967295) 25 (se_code v)

-- a part that is written only where `on`
abbrev pub only_if : Bool → List Symbol → List Symbol
only_if on xs = cond on xs []
