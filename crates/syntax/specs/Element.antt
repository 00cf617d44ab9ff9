-- One element of a syntax, with what reading and writing make of it and the laws that tie the two.
-- An element is a syntax element of H.266 (a flag, a u(n), a ue(v), …), or a whole syntax structure that is used as one.
use Rattle.std.specs.Prelude.{ℕ, ◌≡◌, refl, List, Bool, true}
use Rattle.codes.specs.Bits.{Binary}
use Rattle.codes.specs.Holds.{Holds}
use Rattle.codes.specs.Symbols.{Symbol, refusal_in, bits_in}
use Rattle.bit_reader.specs.declared.Cursor.{Cursor}
pub use Rattle.bit_reader.specs.Gives.{Parsed, parsed}
use Rattle.bit_reader.specs.Reading.{cursor_at}
use Rattle.bit_reader.specs.Took.{Going, Took}

-- reading from c to d took exactly the bits of these symbols, which refuse nothing, and its value passes as one that reading gives
pub record Consumed (s : List ℕ) (c d : Cursor) (symbols : List Symbol) (canonical : Bool) : Type 0 where
  pub took : Took s c (bits_in symbols) d
  pub accepted : refusal_in symbols ≡ 0
  pub given : canonical ≡ true

-- `still` says whether it is known to stand still behind a refusal, which only a reader that returns at once asks for
pub record ElementOf (still : Bool) (A : Type 0) : Type 0 where
  -- reading, from a byte string at a cursor
  pub read : List ℕ → Cursor → Parsed A
  -- writing a value: the bits that are put and the refusals, in order
  pub symbols : A → List Symbol
  -- whether reading could have given the value
  pub canonical : A → Bool
  -- only 0 and 1 are put
  pub binary : (v : A) → Binary (bits_in (symbols v))
  -- a read that ends with a bit left took what writing its value puts
  pub taken : (s : List ℕ) (c : Cursor) → Going s (read s c).next → Consumed s c (read s c).next (symbols (read s c).value) (canonical (read s c).value)
  -- what writing puts for a value that reading could have given is read as that value
  pub back : (s : List ℕ) (at to : ℕ) (v : A) → refusal_in (symbols v) ≡ 0 → canonical v ≡ true → Holds s at (bits_in (symbols v)) to
      → read s (cursor_at at) ≡ parsed v (cursor_at to)
  -- behind a refusal nothing is read
  pub stuck : still ≡ true → (s : List ℕ) (c : Cursor) → (c.refused ≡ 0 → ⊥) → (read s c).next ≡ c

-- those of H.266's syntax tables stand still
abbrev pub Element : Type 0 → Type 0
Element A = ElementOf true A

-- such an element where it does not matter
abbrev pub any : {still : Bool} {A : Type 0} → Element A → ElementOf still A
any e =
    record {
      read = e.read;
      symbols = e.symbols;
      canonical = e.canonical;
      binary = e.binary;
      taken = e.taken;
      back = e.back;
      stuck = λ t. e.stuck refl;
    }
