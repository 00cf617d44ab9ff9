-- Worked examples of the NAL unit header, computed: one table, one theorem.
use Rattle.std.specs.Prelude.{ℕ, ◌≡◌, refl, List, [], ◌∷◌, map, Result, Ok, Err}
use Rattle.codes.specs.Bytes.{bits_at, bit_at}
use Rattle.h266.specs.Header.{header_of, fields_of}
use Rattle.h266.specs.declared.VvcNalHeader.{VvcNalHeader}
use Rattle.refusal.specs.declared.Refusal.{Refusal}
use Rattle.refusal.specs.declared.Refusal.TheVariants.{NalTooShort}

abbrev Answer : Type 0
Answer = Result VvcNalHeader Refusal

abbrev header : ℕ → ℕ → ℕ → ℕ → ℕ → Answer
header f r l t i =
    Ok (record { forbidden_zero_bit = f; nuh_reserved_zero_bit = r; nuh_layer_id = l; nal_unit_type = t; nuh_temporal_id_plus1 = i })

record Example : Type 0 where
  nal : List ℕ
  wanted : Answer

abbrev example : List ℕ → Answer → Example
example nal w = record { nal = nal; wanted = w }

table : List Example
table =
    example [] (Err NalTooShort)
    ∷ example (0x00 ∷ []) (Err NalTooShort)
    ∷ example (0x00 ∷ 0x81 ∷ []) (header 0 0 0 16 1)
    ∷ example (0x00 ∷ 0x79 ∷ 0xff ∷ []) (header 0 0 0 15 1)
    ∷ example (0x80 ∷ 0x00 ∷ []) (header 1 0 0 0 0)
    ∷ example (0x40 ∷ 0xff ∷ []) (header 0 1 0 31 7)
    ∷ example (0xff ∷ 0x86 ∷ []) (header 1 1 63 16 6)
    ∷ []

all : map (λ (e : Example). header_of e.nal) table ≡ map (λ (e : Example). e.wanted) table
unfolding table header_of fields_of bits_at bit_at
all = refl
