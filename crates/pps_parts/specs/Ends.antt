-- The extension bits of a set, from its flag and the cursor behind its fields.
use Rattle.std.specs.Prelude.{ℕ, ◌≤◌, ◌≡◌, refl, List, Bool, true, false, cond, ◌&&◌, eqb}
use Rattle.std.proofs.Common.{arith, eq-eqb, ne_eqb}
use Rattle.bit_reader.specs.declared.Cursor.{Cursor}
use Rattle.bit_reader.specs.Extension.{extension_bits}
use Rattle.bit_reader.specs.Gives.{Parsed, parsed}
use Rattle.bit_reader.specs.Reading.{trailing_read}
use Rattle.pps_syntax.specs.Rbsp.{behind_extension}
use Rattle.syntax.specs.Elements.{is_set}

unfoldable pub extension_at : List ℕ → ℕ → Cursor → ℕ
extension_at s flag c = cond (is_set flag && eqb c.refused 0) (extension_bits s c.at) 0

-- the extension bits and the trailing bits: how many extension bits there are, and the cursor behind it all
unfoldable pub end_read : ℕ → List ℕ → Cursor → Parsed ℕ
end_read flag s c = parsed (extension_at s flag c) (trailing_read s (behind_extension c (extension_at s flag c)))

pub extension_unset : (s : List ℕ) (flag : ℕ) (c : Cursor) → flag ≡ 0 → 0 ≡ extension_at s flag c
unfolding extension_at
extension_unset s flag c e = rw (eq-eqb flag 0 e)

pub extension-taken : (s : List ℕ) (flag : ℕ) (c : Cursor) → (flag ≡ 0 → ⊥) → c.refused ≡ 0 → extension_bits s c.at ≡ extension_at s flag c
unfolding extension_at
extension-taken s flag c f e = rw (ne_eqb flag 0 f, eq-eqb c.refused 0 e)

-- it ends inside
pub extension-inside : (s : List ℕ) (flag : ℕ) (c : Cursor) → extension_at s flag c ≤ extension_bits s c.at
unfolding extension_at
extension-inside s flag c = split (is_set flag && eqb c.refused 0)
  where
    split : (t : Bool) → cond t (extension_bits s c.at) 0 ≤ extension_bits s c.at
    split true = omega arith
    split false = omega arith

-- behind a refusal there are none
pub extension-refused : (s : List ℕ) (flag : ℕ) (c : Cursor) → (c.refused ≡ 0 → ⊥) → 0 ≡ extension_at s flag c
unfolding extension_at
extension-refused s flag c e = rw (ne_eqb c.refused 0 e) (split (is_set flag))
  where
    split : (t : Bool) → 0 ≡ cond (t && false) (extension_bits s c.at) 0
    split true = refl
    split false = refl
