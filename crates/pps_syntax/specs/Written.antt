-- Writing a picture parameter set: the symbols of its fields and of its extension, and the bytes that they come to (H.266 7.3.2.5, rbsp_trailing_bits()).
use Rattle.std.specs.Prelude.{ℕ, List, [], ◌∷◌, ◌++◌, Bool, true, false, cond, eqb, length, get_or}
use Rattle.codes.specs.Symbols.{Symbol, refusal_in, bits_in, putting, check}
use Rattle.bit_writer.specs.Packed.{payload}
use Rattle.syntax.specs.Elements.{is_set}
use Rattle.syntax.specs.Syntax.{symbols_for}
use Rattle.pps_syntax.specs.Pps.{Pps, pps}

-- extension bits end in a 1, or there are none: a final 0 would be read as the stop bit
abbrev pub end_in_one : List ℕ → Bool
end_in_one [] = true
end_in_one (b ∷ bs) = eqb (get_or (b ∷ bs) (length bs) 0) 1

abbrev pub no_bits : List ℕ → Bool
no_bits bs = eqb (length bs) 0

-- pps_extension_data_flag: 28 where the bits end in 0; without pps_extension_flag any bits are refused with 26
unfoldable pub extension_symbols : ℕ → List ℕ → List Symbol
extension_symbols flag bs = cond (is_set flag) (check (end_in_one bs) 28 ++ putting bs) (check (no_bits bs) 26)

-- the whole set, with its extension bits
unfoldable pub set_symbols : Pps → List ℕ → List Symbol
set_symbols r bs = symbols_for pps r ++ extension_symbols r.back.picture_header.pps_extension_flag bs

-- the first refusal, 0 where writing is refused nowhere
abbrev pub set_refusal : Pps → List ℕ → ℕ
set_refusal r bs = refusal_in (set_symbols r bs)

-- write_pps: the RBSP
abbrev pub set_rbsp : Pps → List ℕ → List ℕ
set_rbsp r bs = payload false (bits_in (set_symbols r bs))

-- write_pps_nal: 00 81, then the escaped RBSP
abbrev pub set_nal : Pps → List ℕ → List ℕ
set_nal r bs = 0x00 ∷ 0x81 ∷ payload true (bits_in (set_symbols r bs))
