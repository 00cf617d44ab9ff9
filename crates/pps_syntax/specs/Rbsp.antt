-- Reading a picture parameter set: its RBSP (H.266 7.3.2.5, with the extension bits and rbsp_trailing_bits()), and the NAL unit around it.
use Rattle.std.specs.Prelude.{ℕ, ◌+◌, ◌-◌, ◌/◌, List, Bool, not, cond, ◌&&◌, eqb, ltb, length, drop}
use Rattle.codes.specs.Bytes.{bits_at}
use Rattle.nal.specs.Escape.{unescape}
use Rattle.bit_reader.specs.declared.Cursor.{Cursor}
use Rattle.bit_reader.specs.Extension.{extension_bits}
use Rattle.bit_reader.specs.Reading.{cursor_at, trailing_read}
use Rattle.syntax.specs.Element.{Parsed}
use Rattle.syntax.specs.Elements.{is_set}
use Rattle.syntax.specs.Syntax.{parse}
use Rattle.pps_syntax.specs.Pps.{Pps, pps}

-- a set that was read: its fields and lists, the extension bits by their first bit and their number (0 and 0 where there are none), and the bytes of the RBSP that it took
pub record ReadSet : Type 0 where
  pub set : Pps
  pub extension_first_bit : ℕ
  pub extension_count : ℕ
  pub bytes_taken : ℕ

pub data ReadAnswer : Type 0 where
  accepted : ReadSet → ReadAnswer
  refused : ℕ → ReadAnswer

-- pps_extension_data_flag is taken while more_rbsp_data() holds, where pps_extension_flag is set
unfoldable pub extension_for : List ℕ → Parsed Pps → ℕ
extension_for s p = cond (is_set p.value.back.picture_header.pps_extension_flag && eqb p.next.refused 0) (extension_bits s p.next.at) 0

-- the cursor behind the extension bits
abbrev pub behind_extension : Cursor → ℕ → Cursor
behind_extension c n = record { at = c.at + n; refused = c.refused }

-- what is said of a set whose fields, extension and trailing bits were read
unfoldable pub answered : Pps → ℕ → ℕ → Cursor → ReadAnswer
answered r at n d =
    cond (eqb d.refused 0)
    (accepted (record { set = r; extension_first_bit = cond (eqb n 0) 0 at; extension_count = n; bytes_taken = d.at / 8 }))
    (refused d.refused)

unfoldable pub read_rbsp : List ℕ → ReadAnswer
read_rbsp rbsp =
    let p : Parsed Pps = parse pps rbsp (cursor_at 0) in
    let n : ℕ = extension_for rbsp p in
    answered p.value p.next.at n (trailing_read rbsp (behind_extension p.next n))

-- The tests before the first field, in docs/BEHAVIOUR.md's order: a NAL unit of 2 bytes (1), of type 16 (2), of at most 65,535 bytes (3); a work buffer (4) and tables (5) that are long enough
unfoldable pub before_fields : List ℕ → ℕ → Bool → ℕ
before_fields nal work_length tables_long =
    cond (ltb (length nal) 2) 1
    (cond (not (eqb (bits_at nal 8 5) 16)) 2
    (cond (ltb 65535 (length nal)) 3
    (cond (ltb work_length (length nal - 2)) 4
    (cond (not tables_long) 5 0))))

-- the payload without its escape bytes
unfoldable pub rbsp_of : List ℕ → List ℕ
rbsp_of nal = unescape (drop 2 nal)

unfoldable pub read_nal : List ℕ → ℕ → Bool → ReadAnswer
read_nal nal work_length tables_long =
    let n : ℕ = before_fields nal work_length tables_long in
    cond (eqb n 0) (read_rbsp (rbsp_of nal)) (refused n)
