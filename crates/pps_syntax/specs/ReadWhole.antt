-- A set that reading accepted was inside its bytes all along: its fields took exactly the bits that writing them puts, then came the extension bits and the trailing bits.
use Rattle.std.specs.Prelude.{ℕ, ◌+◌, ◌-◌, ◌*◌, ◌%◌, ◌<◌, ◌≡◌, List, ◌∷◌, ◌++◌, cond, eqb, replicate}
use Rattle.std.proofs.Common.{arith}
use Rattle.bit_reader.specs.Reading.{cursor_at}
use Rattle.bit_reader.specs.Took.{Going}
use Rattle.codes.specs.Bytes.{bit_at, bit_list}
use Rattle.codes.specs.Holds.{Holds, holds-append}
use Rattle.pps_syntax.specs.Pps.{Pps, pps}
use Rattle.pps_syntax.specs.Rbsp.{ReadSet, extension_for}
use Rattle.pps_syntax.specs.TrailingTaken.{holds-there}
use Rattle.syntax.specs.Element.{Parsed, Consumed}
use Rattle.syntax.specs.Syntax.{parse, bits_for, symbols_for, canonical_for}

-- the fields of an RBSP, as the description reads them, and the place behind the extension bits
abbrev pub fields_read : List ℕ → Parsed Pps
fields_read rbsp = parse pps rbsp (cursor_at 0)

abbrev pub trailing_at : List ℕ → ReadSet → ℕ
trailing_at rbsp a = (fields_read rbsp).next.at + a.extension_count

pub record ReadWhole (rbsp : List ℕ) (a : ReadSet) : Type 0 where
  -- the set is what the description reads; its fields took exactly the bits that writing them puts, of which nothing is refused, and are fields that reading could have given
  pub set_is : a.set ≡ (fields_read rbsp).value
  pub fields : Consumed rbsp (cursor_at 0) (fields_read rbsp).next (symbols_for pps a.set) (canonical_for pps a.set)
  -- reading went on behind them, with a bit left
  pub going : Going rbsp (fields_read rbsp).next
  -- the extension bits, of which the last is a 1
  pub extension-count : a.extension_count ≡ extension_for rbsp (fields_read rbsp)
  pub extension-first : a.extension_first_bit ≡ cond (eqb a.extension_count 0) 0 (fields_read rbsp).next.at
  pub extension-last : 0 < a.extension_count → bit_at rbsp (trailing_at rbsp a - 1) ≡ 1
  -- the stop bit, and zeros to the end of the last byte taken, which is inside
  pub trailing : Holds rbsp (trailing_at rbsp a) (1 ∷ replicate (7 - trailing_at rbsp a % 8) 0) (a.bytes_taken * 8)

-- ---- the answer taken apart

-- So the bytes taken hold the bits of its fields, its extension bits and the trailing bits, and nothing else.
pub bytes_hold : (rbsp : List ℕ) (a : ReadSet) → ReadWhole rbsp a
    → Holds rbsp 0 (bits_for pps a.set ++ (bit_list rbsp (fields_read rbsp).next.at a.extension_count ++ (1 ∷ replicate (7 - trailing_at rbsp a % 8) 0))) (a.bytes_taken * 8)
bytes_hold rbsp a w =
    let at : ℕ = (fields_read rbsp).next.at in
    holds-append w.fields.took.bits (holds-append (holds-there rbsp at a.extension_count (omega (arith, w.trailing.reaches, w.trailing.inside))) w.trailing)
