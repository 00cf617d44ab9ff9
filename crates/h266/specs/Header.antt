-- nal_unit_header() of H.266 7.3.1.2.
use Rattle.std.specs.Prelude.{ℕ, ◌+◌, ◌*◌, ◌/◌, ◌%◌, ◌^◌, ◌≤◌, ◌<◌, ◌≡◌, List, cond, ltb, length, get_or, Result, Ok, Err}
use Rattle.std.proofs.Common.{div-one, arith, lt-ltb, le-ltb}
use Rattle.codes.specs.Bytes.{bits_at}
use Rattle.codes.specs.Windows.{byte-field}
use Rattle.refusal.specs.declared.Refusal.{Refusal}
use Rattle.refusal.specs.declared.Refusal.TheVariants.{NalTooShort}
use Rattle.h266.specs.declared.VvcNalHeader.{VvcNalHeader}

-- the five fields in their order: f(1), u(1), u(6), u(5), u(3)
unfoldable pub fields_of : List ℕ → VvcNalHeader
fields_of nal =
    record {
      forbidden_zero_bit = bits_at nal 0 1;
      nuh_reserved_zero_bit = bits_at nal 1 1;
      nuh_layer_id = bits_at nal 2 6;
      nal_unit_type = bits_at nal 8 5;
      nuh_temporal_id_plus1 = bits_at nal 13 3;
    }

-- a NAL unit of fewer than 2 bytes has no header
unfoldable pub header_of : List ℕ → Result VvcNalHeader Refusal
header_of nal = cond (ltb (length nal) 2) (Err NalTooShort) (Ok (fields_of nal))

pub header-none : (nal : List ℕ) → length nal < 2 → Err NalTooShort ≡ header_of nal
unfolding header_of
header-none nal h = rw (lt-ltb (length nal) 2 h)

-- the fields from the two bytes
pub header_made : (nal : List ℕ) → 2 ≤ length nal → get_or nal 0 0 < 256 → get_or nal 1 0 < 256
    → Ok (record {
      forbidden_zero_bit = get_or nal 0 0 / 128 % 2;
      nuh_reserved_zero_bit = get_or nal 0 0 / 64 % 2;
      nuh_layer_id = get_or nal 0 0 % 64;
      nal_unit_type = get_or nal 1 0 / 8 % 32;
      nuh_temporal_id_plus1 = get_or nal 1 0 % 8;
    }) ≡ header_of nal
unfolding header_of fields_of
header_made nal h a b =
    let field : (i r n t : ℕ) → r + n + t ≡ 8 → i < 2 → get_or nal i 0 < 256 → bits_at nal (i * 8 + r) n ≡ get_or nal i 0 / 2 ^ t % 2 ^ n =
    λ i r n t e l v. byte-field nal i r n t e (omega arith) (omega arith) v in
    rw (
      le-ltb (length nal) 2 h,
      field 0 0 1 7 (omega arith) (omega arith) a,
      field 0 1 1 6 (omega arith) (omega arith) a,
      field 0 2 6 0 (omega arith) (omega arith) a,
      field 1 0 5 3 (omega arith) (omega arith) b,
      field 1 5 3 0 (omega arith) (omega arith) b,
      div-one,
      div-one,
    )
