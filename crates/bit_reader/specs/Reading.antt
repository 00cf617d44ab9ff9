-- What the readers give: u(n), ue(v) and se(v) of H.266 7.2 and 9.2, and rbsp_trailing_bits() of 7.3.2.
-- Reading past the end gives 0 bits, and the place stays at the end (docs/BEHAVIOUR.md).
use Rattle.std.specs.Prelude.{ℕ, zero, suc, ◌+◌, ◌-◌, ◌*◌, ◌/◌, ◌%◌, ◌^◌, min, max, List, Bool, true, false, cond, ltb, eqb}
use Rattle.codes.specs.Bytes.{bit_count, bit_at, bits_at}
use Rattle.codes.specs.ExpGolomb.{signed_of}
use Rattle.bit_reader.specs.declared.Cursor.{Cursor}
use Rattle.bit_reader.specs.declared.BitsRead.{BitsRead}
use Rattle.bit_reader.specs.declared.ByteRead.{ByteRead}
use Rattle.bit_reader.specs.declared.SignedRead.{SignedRead}

-- a cursor with no refusal
abbrev pub cursor_at : ℕ → Cursor
cursor_at at = record { at = at; refused = 0 }

-- a cursor refused with the number n where it stands
abbrev pub refusal : Cursor → ℕ → Cursor
refusal c n = record { at = c.at; refused = n }

-- nothing is read once there is a refusal
unfoldable pub unless_refused : Cursor → BitsRead → BitsRead
unless_refused c r = cond (eqb c.refused 0) r (record { value = 0; next = c })

-- n bits on from a position, and no further than the end
unfoldable pub onward : List ℕ → ℕ → ℕ → ℕ
onward s at n = min (at + n) (max at (bit_count s))

-- u(n)
unfoldable pub u_read : List ℕ → Cursor → ℕ → BitsRead
u_read s c n = unless_refused c (record { value = bits_at s c.at n; next = cursor_at (onward s c.at n) })

-- u(n) of at most 8 bits, as a byte
unfoldable pub byte_read : List ℕ → Cursor → ℕ → ByteRead
byte_read s c n = record { value = (u_read s c n).value; next = (u_read s c n).next }

-- a run of zero bits ends at a 1 bit and at the end
unfoldable pub stops : List ℕ → ℕ → Bool
stops s at = cond (ltb at (bit_count s)) (eqb (bit_at s at) 1) true

-- leading_zero_bits of 9.2: the run of zero bits from a position on, of which at most f are counted
unfoldable pub zeros_at : List ℕ → ℕ → ℕ → ℕ
zeros_at s at zero = 0
zeros_at s at (suc f) = elim (stops s at) [ true ↦ 0 | false ↦ suc (zeros_at s (at + 1) f) ]

-- ue(v) behind a run of z zeros: code_num = 2^z − 1 + read_bits( z ), read after the 1 bit that ends the run; as many zeros as the width are refused with 6
unfoldable pub ue_after : ℕ → List ℕ → Cursor → ℕ → BitsRead
ue_after width s c z =
    cond (ltb z width)
    (record { value = 2 ^ z - 1 + bits_at s (c.at + z + 1) z; next = cursor_at (onward s c.at (z * 2 + 1)) })
    (record { value = 0; next = refusal c 6 })

-- ue(v) whose code numbers have at most `width` bits
unfoldable pub ue_within : ℕ → List ℕ → Cursor → BitsRead
ue_within width s c = unless_refused c (ue_after width s c (zeros_at s c.at width))

-- ue(v), of 32 bits
unfoldable pub ue_read : List ℕ → Cursor → BitsRead
ue_read s c = ue_within 32 s c

-- se(v): the signed value of the code number (table 9-3)
unfoldable pub se_read : List ℕ → Cursor → SignedRead
se_read s c = record { value = signed_of (ue_read s c).value; next = (ue_read s c).next }

-- rbsp_trailing_bits(): a 1, then zeros up to the next byte
unfoldable pub trailing_read : List ℕ → Cursor → Cursor
trailing_read s c =
    cond (eqb c.refused 0)
    (cond (ltb c.at (bit_count s))
    (cond (eqb (bit_at s c.at) 1)
    (cond (eqb (bits_at s (c.at + 1) (7 - c.at % 8)) 0) (cursor_at (c.at / 8 * 8 + 8)) (refusal c 23))
    (refusal c 23))
    (refusal c 22))
    c

-- a test that refuses with n where it fails; the first refusal stays
unfoldable pub demanded : Bool → ℕ → Cursor → Cursor
demanded ok n c = cond ok c (cond (eqb c.refused 0) (refusal c n) c)
