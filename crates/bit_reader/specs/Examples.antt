-- Worked examples of the readers, computed: one table, one theorem.
use Rattle.std.specs.Prelude.{ℕ, ◌≡◌, refl, List, [], ◌∷◌, map, ℤ, pos, negsuc}
use Rattle.codes.specs.Bytes.{bit_at, bits_at}
use Rattle.codes.specs.ExpGolomb.{signed_of}
use Rattle.bit_reader.specs.Reading.{cursor_at, unless_refused, onward, u_read, stops, zeros_at, ue_after, ue_within, ue_read, se_read, trailing_read}
use Rattle.bit_reader.specs.Extension.{ones, taken_while_more, extension_bits}
use Rattle.bit_reader.specs.declared.Cursor.{Cursor}
use Rattle.bit_reader.specs.declared.BitsRead.{BitsRead}
use Rattle.bit_reader.specs.declared.SignedRead.{SignedRead}

-- what is read of which bytes from which bit, and what must come out
data Example : Type 0 where
  u : ℕ → List ℕ → ℕ → BitsRead → Example
  ue : List ℕ → ℕ → BitsRead → Example
  se : List ℕ → ℕ → SignedRead → Example
  trailing : List ℕ → ℕ → Cursor → Example
  extension : List ℕ → ℕ → ℕ → Example

data Outcome : Type 0 where
  bits : BitsRead → Outcome
  signed : SignedRead → Outcome
  place : Cursor → Outcome
  count : ℕ → Outcome

run : Example → Outcome
run (u n s at r) = bits (u_read s (cursor_at at) n)
run (ue s at r) = bits (ue_read s (cursor_at at))
run (se s at r) = signed (se_read s (cursor_at at))
run (trailing s at r) = place (trailing_read s (cursor_at at))
run (extension s at r) = count (extension_bits s at)

wanted : Example → Outcome
wanted (u n s at r) = bits r
wanted (ue s at r) = bits r
wanted (se s at r) = signed r
wanted (trailing s at r) = place r
wanted (extension s at r) = count r

read : ℕ → ℕ → BitsRead
read v at = record { value = v; next = cursor_at at }

read_signed : ℤ → ℕ → SignedRead
read_signed v at = record { value = v; next = cursor_at at }

refused_at : ℕ → ℕ → Cursor
refused_at at n = record { at = at; refused = n }

-- 1 010 011 00100 00101: 0, 1, 2, 3, 4 (H.266 table 9-2)
codes : List ℕ
codes = 0xa6 ∷ 0x42 ∷ 0x80 ∷ []

table : List Example
table =
    ue codes 0 (read 0 1)
    ∷ ue codes 1 (read 1 4)
    ∷ ue codes 4 (read 2 7)
    ∷ ue codes 7 (read 3 12)
    ∷ ue codes 12 (read 4 17)
    ∷ se codes 0 (read_signed (pos 0) 1)
    ∷ se codes 1 (read_signed (pos 1) 4)
    ∷ se codes 4 (read_signed (negsuc 0) 7)
    ∷ se codes 7 (read_signed (pos 2) 12)
    ∷ se codes 12 (read_signed (negsuc 1) 17)
    ∷ ue [] 0 (read 0 0)
    ∷ ue (0 ∷ []) 3 (read 31 8)
    ∷ ue (1 ∷ []) 0 (read 127 8)
    ∷ ue (0 ∷ 0 ∷ 0 ∷ 1 ∷ 0xff ∷ 0xff ∷ 0xff ∷ 0xfe ∷ []) 0 (read 0xffff_fffe 63)
    ∷ ue (0 ∷ 0 ∷ 0 ∷ 0 ∷ 0xff ∷ []) 0 (record { value = 0; next = refused_at 0 6 })
    ∷ u 32 (0xde ∷ 0xad ∷ 0xbe ∷ 0xef ∷ []) 0 (read 0xdead_beef 32)
    ∷ u 12 (0xde ∷ 0xad ∷ []) 8 (read 0xad0 16)
    ∷ trailing (0x84 ∷ 0x08 ∷ []) 12 (cursor_at 16)
    ∷ trailing (0x84 ∷ 0x14 ∷ []) 11 (refused_at 11 23)
    ∷ trailing (0x84 ∷ 0x14 ∷ []) 12 (refused_at 12 23)
    ∷ trailing (0x84 ∷ []) 8 (refused_at 8 22)
    ∷ extension (0x84 ∷ 0x18 ∷ []) 12 0
    ∷ extension (0x84 ∷ 0x16 ∷ []) 12 2
    ∷ extension (0x09 ∷ 0x84 ∷ 0x16 ∷ 0xff ∷ 0 ∷ 0 ∷ []) 0 31
    ∷ []

all : map run table ≡ map wanted table
unfolding run wanted read read_signed refused_at codes table bit_at bits_at signed_of unless_refused onward u_read stops zeros_at ue_after ue_within ue_read se_read trailing_read ones taken_while_more extension_bits
all = refl
