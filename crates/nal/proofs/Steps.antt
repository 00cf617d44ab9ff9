-- One turn of a loop over the bytes s, at the place i: what unescaping and escaping make of the rest from there.
use Prim.Native.Nat.{ℕ, ◌+◌, ◌≤◌, ◌<◌}
use native.Mathlib.Numerals.{add-one}
use native.Mathlib.Omega.{arith}
use mathlib.Core.Bool.{true, false}
use mathlib.Core.List.{List, [], ◌∷◌}
use mathlib.Core.Path.{◌≡◌, refl, ◌∙◌}
use lib.ListN.{length, get_or, set, drop, length-set}
use lib.Seq.{drop-cons, drop-length}
use Rattle.nal.proofs.Putting.{Putting, put_byte, put_two, put-room, put-done}
use Rattle.tables.specs.Tables.{over as laid_over}
use Rattle.nal.specs.Escape.{escape, zero_run, is_escape, needs_escape, unescape_from, escape_from}
use Rattle.nal.specs.Laws.{unescape_from-end, unescape_from-kept, unescape_from_dropped, unescape_from-over, escape_end-none, escape_end_three, escape_from-end, escape_from_plain, escape_from-escaped, escape_from-over}

module _ (s : List ℕ) (z i : ℕ) (inside : i < length s) where
  at_byte : (f : List ℕ → List ℕ) → f (drop i s) ≡ f (get_or s i 0 ∷ drop (i + 1) s)
  at_byte f = rw (add-one, drop-cons s i 0)

  pub unescape-kept : is_escape z (get_or s i 0) ≡ false → unescape_from z (drop i s) ≡ get_or s i 0 ∷ unescape_from (zero_run z (get_or s i 0)) (drop (i + 1) s)
  unescape-kept e = at_byte (unescape_from z) ∙ unescape_from-kept z (get_or s i 0) _ e

  pub unescape_dropped : is_escape z (get_or s i 0) ≡ true → unescape_from z (drop i s) ≡ unescape_from 0 (drop (i + 1) s)
  unescape_dropped e = at_byte (unescape_from z) ∙ unescape_from_dropped z (get_or s i 0) _ e

  pub unescape-over : 3 < get_or s i 0 → unescape_from z (drop i s) ≡ get_or s i 0 ∷ unescape_from 0 (drop (i + 1) s)
  unescape-over h = at_byte (unescape_from z) ∙ unescape_from-over z (get_or s i 0) _ h

  pub escape_plain : needs_escape z (get_or s i 0) ≡ false → escape_from z (drop i s) ≡ get_or s i 0 ∷ escape_from (zero_run z (get_or s i 0)) (drop (i + 1) s)
  escape_plain e = at_byte (escape_from z) ∙ escape_from_plain z (get_or s i 0) _ e

  pub escape-escaped : needs_escape z (get_or s i 0) ≡ true → escape_from z (drop i s) ≡ 3 ∷ get_or s i 0 ∷ escape_from (zero_run 0 (get_or s i 0)) (drop (i + 1) s)
  escape-escaped e = at_byte (escape_from z) ∙ escape_from-escaped z (get_or s i 0) _ e

  pub escape-over : 3 < get_or s i 0 → escape_from z (drop i s) ≡ get_or s i 0 ∷ escape_from 0 (drop (i + 1) s)
  escape-over h = at_byte (escape_from z) ∙ escape_from-over z (get_or s i 0) _ h

-- after the last byte
module _ (s : List ℕ) (z i : ℕ) (over : i ≡ length s) where
  at-end : (f : List ℕ → List ℕ) → f (drop i s) ≡ f []
  at-end f = rw (over, drop-length s)

  pub unescape-end : unescape_from z (drop i s) ≡ []
  unescape-end = at-end (unescape_from z) ∙ unescape_from-end z

  pub escape-end-none : z < 2 → escape_from z (drop i s) ≡ []
  escape-end-none h = at-end (escape_from z) ∙ escape_from-end z ∙ escape_end-none z h

  pub escape-end_three : 2 ≤ z → escape_from z (drop i s) ≡ 3 ∷ []
  escape-end_three h = at-end (escape_from z) ∙ escape_from-end z ∙ escape_end_three z h

-- ---- escape_into, at the place i of s with a run of z and n bytes put
pub record Escaping (s out₀ out : List ℕ) (z i n : ℕ) : Type 0 where
  pub putting : Putting (escape s) (escape_from z (drop i s)) out₀ out n

-- a turn: there is room for k bytes, and what holds behind them
pub record Turn (s out₀ out after : List ℕ) (z i n k : ℕ) : Type 0 where
  pub room : n + k ≤ length out
  pub behind : Escaping s out₀ after z (i + 1) (n + k)

module _ {s out₀ out : List ℕ} {z i n : ℕ} (p : Escaping s out₀ out z i n) (room : length (escape s) ≤ length out₀) where
  module _ (inside : i < length s) where
    pub put-over : 3 < get_or s i 0 → Turn s out₀ out (set out n (get_or s i 0)) 0 i n 1
    put-over h =
        let e = escape-over s z i inside h in
        record { room = omega (arith, put-room p.putting e room); behind = record { putting = put_byte p.putting e } }

    pub put_plain : needs_escape z (get_or s i 0) ≡ false → Turn s out₀ out (set out n (get_or s i 0)) (zero_run z (get_or s i 0)) i n 1
    put_plain h =
        let e = escape_plain s z i inside h in
        record { room = omega (arith, put-room p.putting e room); behind = record { putting = put_byte p.putting e } }

    pub put-escaped : needs_escape z (get_or s i 0) ≡ true → Turn s out₀ out (set (set out n 3) (n + 1) (get_or s i 0)) (zero_run 0 (get_or s i 0)) i n 2
    put-escaped h =
        let e = escape-escaped s z i inside h in
        record { room = omega (arith, put-room (put_byte p.putting e) refl room, length-set out n 3); behind = record { putting = put_two p.putting e } }

  module _ (over : i ≡ length s) where
    pub done-plain : z < 2 → (n ≡ length (escape s)) × (out ≡ laid_over (escape s) out₀)
    done-plain h = put-done p.putting (escape-end-none s z i over h) room

    pub room_three : 2 ≤ z → n < length out
    room_three h = put-room p.putting (escape-end_three s z i over h) room

    pub done_three : 2 ≤ z → (n + 1 ≡ length (escape s)) × (set out n 3 ≡ laid_over (escape s) out₀)
    done_three h = put-done (put_byte p.putting (escape-end_three s z i over h)) refl room
