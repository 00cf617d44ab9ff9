-- Worked examples: an RBSP, and the payload that escaping makes of it; a payload, and the RBSP that unescaping makes of it.
use Rattle.std.specs.Prelude.{ℕ, List, [], ◌∷◌, map, ◌≡◌, refl}
use Rattle.nal.specs.Escape.{zero_run, is_escape, needs_escape, unescape_from, unescape, escape_byte, escape_run, escape_end, escape_from, escape}

-- the function, its input, and what it must give
pub record Example : Type 0 where
  pub by : List ℕ → List ℕ
  pub input : List ℕ
  pub wanted : List ℕ

abbrev escaped : List ℕ → List ℕ → Example
escaped rbsp ebsp = record { by = escape; input = rbsp; wanted = ebsp }

abbrev unescaped : List ℕ → List ℕ → Example
unescaped ebsp rbsp = record { by = unescape; input = ebsp; wanted = rbsp }

unfoldable pub examples : List Example
examples =
    escaped [] []
    ∷ escaped (0x00 ∷ []) (0x00 ∷ [])
    ∷ escaped (0x00 ∷ 0x00 ∷ []) (0x00 ∷ 0x00 ∷ 0x03 ∷ [])
    ∷ escaped (0x00 ∷ 0x00 ∷ 0x00 ∷ []) (0x00 ∷ 0x00 ∷ 0x03 ∷ 0x00 ∷ [])
    ∷ escaped (0x00 ∷ 0x00 ∷ 0x00 ∷ 0x00 ∷ []) (0x00 ∷ 0x00 ∷ 0x03 ∷ 0x00 ∷ 0x00 ∷ 0x03 ∷ [])
    ∷ escaped (0x00 ∷ 0x00 ∷ 0x01 ∷ 0x81 ∷ []) (0x00 ∷ 0x00 ∷ 0x03 ∷ 0x01 ∷ 0x81 ∷ [])
    ∷ escaped (0x00 ∷ 0x00 ∷ 0x02 ∷ []) (0x00 ∷ 0x00 ∷ 0x03 ∷ 0x02 ∷ [])
    ∷ escaped (0x00 ∷ 0x00 ∷ 0x03 ∷ []) (0x00 ∷ 0x00 ∷ 0x03 ∷ 0x03 ∷ [])
    ∷ escaped (0x00 ∷ 0x00 ∷ 0x04 ∷ []) (0x00 ∷ 0x00 ∷ 0x04 ∷ [])
    ∷ escaped (0x00 ∷ 0x01 ∷ 0x00 ∷ 0x01 ∷ []) (0x00 ∷ 0x01 ∷ 0x00 ∷ 0x01 ∷ [])
    ∷ unescaped (0x00 ∷ 0x00 ∷ 0x03 ∷ []) (0x00 ∷ 0x00 ∷ [])
    ∷ unescaped (0x00 ∷ 0x00 ∷ 0x03 ∷ 0x03 ∷ []) (0x00 ∷ 0x00 ∷ 0x03 ∷ [])
    ∷ unescaped (0x00 ∷ 0x00 ∷ 0x03 ∷ 0x04 ∷ []) (0x00 ∷ 0x00 ∷ 0x04 ∷ [])
    ∷ unescaped (0x00 ∷ 0x00 ∷ 0x00 ∷ 0x03 ∷ []) (0x00 ∷ 0x00 ∷ 0x00 ∷ [])
    ∷ unescaped (0x00 ∷ 0x00 ∷ 0x01 ∷ []) (0x00 ∷ 0x00 ∷ 0x01 ∷ [])
    ∷ unescaped (0x00 ∷ 0x03 ∷ 0x00 ∷ 0x00 ∷ 0x03 ∷ 0x00 ∷ 0x00 ∷ 0x03 ∷ []) (0x00 ∷ 0x03 ∷ 0x00 ∷ 0x00 ∷ 0x00 ∷ 0x00 ∷ [])
    ∷ []

abbrev run : Example → List ℕ
run e = e.by e.input

pub examples_hold : map run examples ≡ map (λ e. e.wanted) examples
unfolding examples escape escape_from escape_byte escape_run escape_end needs_escape unescape unescape_from is_escape zero_run
examples_hold = refl
