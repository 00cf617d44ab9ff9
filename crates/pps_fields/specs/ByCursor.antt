-- What the readers over a cursor give, for any number of a refusal.
use Rattle.std.specs.Prelude.{ℕ, Bool}
use Rattle.bit_reader.specs.declared.BitsRead.{BitsRead}
use Rattle.bit_reader.specs.Reading.{demanded}

-- a number that was read, with a test of it (the ranges of H.266 7.4.3.5): refused with n where it fails
unfoldable pub tested : (ℕ → Bool) → ℕ → BitsRead → BitsRead
tested ok n r = record { value = r.value; next = demanded (ok r.value) n r.next }
