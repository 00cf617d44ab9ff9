-- What a reader gives, as code has it: a value or a refusal, and the place behind it. The definitions have a cursor in its stead.
use Rattle.std.specs.Prelude.{ℕ, ◌≡◌, List, Result, IfOk, Bool, ℤ}
use Rattle.std.proofs.Common.{Bor}
use Rattle.refusal.specs.declared.Refusal.{Refusal}
use Rattle.refusal.specs.Numbers.{refused}
use Rattle.bit_reader.specs.declared.BitReader.{BitReader}
use Rattle.bit_reader.specs.declared.Cursor.{Cursor}
use Rattle.bit_reader.specs.declared.BitsRead.{BitsRead}
use Rattle.bit_reader.specs.declared.SignedRead.{SignedRead}
use Rattle.bit_reader.specs.Reading.{cursor_at, u_read, ue_read, se_read, trailing_read, demanded}

-- a value, and the cursor behind it
pub record Parsed (A : Type 0) : Type 0 where
  pub value : A
  pub next : Cursor

abbrev pub parsed : {A : Type 0} → A → Cursor → Parsed A
parsed v c = record { value = v; next = c }

abbrev pub bits_parsed : BitsRead → Parsed ℕ
bits_parsed r = parsed r.value r.next

abbrev pub signed_parsed : SignedRead → Parsed ℤ
signed_parsed r = parsed r.value r.next

-- where a reader stands
abbrev pub cursor_of : BitReader → Cursor
cursor_of r = cursor_at r.bit_pos

-- a reader that begins at a cursor
abbrev pub reader_at : Bor (List ℕ) → Cursor → BitReader
reader_at s c = record { bytes = s; bit_pos = c.at }

-- A reader went from one place to another over the same bytes. It came to what `read` says of them: to its value, or to its refusal.
pub record Gives {A : Type 0} (read : List ℕ → Cursor → Parsed A) (from to : BitReader) (x : Result A Refusal) : Type 0 where
  pub bytes : to.bytes ≡ from.bytes
  pub next : (read from.bytes.now (cursor_of from)).next ≡ record { at = to.bit_pos; refused = refused x }
  pub value : IfOk x (λ v. (read from.bytes.now (cursor_of from)).value ≡ v)

-- the value alone
abbrev pub value_read : {A : Type 0} → (List ℕ → Cursor → Parsed A) → BitReader → A
value_read read from = (read from.bytes.now (cursor_of from)).value

-- ---- the readers
abbrev pub u_parsed : ℕ → List ℕ → Cursor → Parsed ℕ
u_parsed n s c = bits_parsed (u_read s c n)

abbrev pub ue_parsed : List ℕ → Cursor → Parsed ℕ
ue_parsed s c = bits_parsed (ue_read s c)

abbrev pub se_parsed : List ℕ → Cursor → Parsed ℤ
se_parsed s c = signed_parsed (se_read s c)

abbrev pub trailing_parsed : List ℕ → Cursor → Parsed (Unit {0})
trailing_parsed s c = parsed tt (trailing_read s c)

-- ---- readers made of others
-- what is read is held as another value
abbrev pub held_as : {A B : Type 0} → (A → B) → (List ℕ → Cursor → Parsed A) → List ℕ → Cursor → Parsed B
held_as f read s c = parsed (f (read s c).value) (read s c).next

-- a test of the value, refused with n where it fails
abbrev pub tested : {A : Type 0} → (A → Bool) → ℕ → (List ℕ → Cursor → Parsed A) → List ℕ → Cursor → Parsed A
tested ok n read s c = parsed (read s c).value (demanded (ok (read s c).value) n (read s c).next)
