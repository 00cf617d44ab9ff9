-- One step of escaping and of unescaping, in each of its cases, and escaping in parts.
use Rattle.std.specs.Prelude.{ℕ, ◌+◌, ◌≤◌, ◌<◌, min, Bool, true, false, ◌&&◌, List, [], ◌∷◌, ◌++◌, ◌≡◌, refl, leb, eqb}
use Rattle.std.proofs.Common.{arith, append_assoc, append-nil, sym, ap, ◌∙◌, leb-true, leb-false, le-leb, eqb-true, ne_eqb}
use Rattle.std.proofs.lemmas.Bool.{lt-leb, and_parts, and_right}
use Rattle.nal.specs.Escape.{zero_run, is_escape, needs_escape, unescape_from, escape_byte, escape_run, escape_end, escape_from, escape, escape_bytes, run_after}

-- ---- the run of zero bytes
pub zero_run-zero : (z : ℕ) → zero_run z 0 ≡ min 2 (z + 1)
unfolding zero_run
zero_run-zero z = refl

pub zero_run-other : (z b : ℕ) → 0 < b → zero_run z b ≡ 0
unfolding zero_run
zero_run-other z b h = rw (ne_eqb b 0 (λ e. absurd (omega arith)))

-- ---- which bytes are escaped, and which dropped

and-false : (p q : Bool) → (p && q) ≡ false → p ≡ true → q ≡ false
and-false true q e h = e
and-false false q e h = cc

pub needs_escape-no : (z b : ℕ) → needs_escape z b ≡ false → 2 ≤ z → 3 < b
unfolding needs_escape
needs_escape-no z b e h = leb-false b 3 (and-false (leb 2 z) (leb b 3) e (le-leb 2 z h))

pub needs_escape_yes : (z b : ℕ) → needs_escape z b ≡ true → (2 ≤ z) × (b ≤ 3)
unfolding needs_escape
needs_escape_yes z b e =
    let w = and_parts (leb 2 z) (leb b 3) e in (leb-true 2 z w.0, leb-true b 3 w.1)

pub needs_escape-over : (z b : ℕ) → 3 < b → needs_escape z b ≡ false
unfolding needs_escape
needs_escape-over z b h = and_right (leb 2 z) (leb b 3) (lt-leb b 3 h)

pub is_escape_yes : (z b : ℕ) → is_escape z b ≡ true → b ≡ 3
unfolding is_escape
is_escape_yes z b e = eqb-true b 3 (and_parts (leb 2 z) (eqb b 3) e).1

pub is_escape_three : (z : ℕ) → 2 ≤ z → is_escape z 3 ≡ true
unfolding is_escape
is_escape_three z h = rw (le-leb 2 z h)

pub is_escape-over : (z b : ℕ) → 3 < b → is_escape z b ≡ false
unfolding is_escape
is_escape-over z b h = and_right (leb 2 z) (eqb b 3) (ne_eqb b 3 (λ e. absurd (omega arith)))

pub is_escape_plain : (z b : ℕ) → needs_escape z b ≡ false → is_escape z b ≡ false
unfolding is_escape needs_escape
is_escape_plain z b e = go (leb 2 z) e
  where
    go : (t : Bool) → (t && leb b 3) ≡ false → (t && eqb b 3) ≡ false
    go true n = ne_eqb b 3 (λ q. let l : 3 < b = leb-false b 3 n in absurd (omega arith))
    go false n = refl

pub is_escape-first : (b : ℕ) → is_escape 0 b ≡ false
unfolding is_escape
is_escape-first b = refl

-- ---- a step of unescaping
pub unescape_from-end : (z : ℕ) → unescape_from z [] ≡ []
unfolding unescape_from
unescape_from-end z = refl

pub unescape_from-kept : (z b : ℕ) (bs : List ℕ) → is_escape z b ≡ false → unescape_from z (b ∷ bs) ≡ b ∷ unescape_from (zero_run z b) bs
unfolding unescape_from
unescape_from-kept z b bs e = rw e

pub unescape_from_dropped : (z b : ℕ) (bs : List ℕ) → is_escape z b ≡ true → unescape_from z (b ∷ bs) ≡ unescape_from 0 bs
unfolding unescape_from
unescape_from_dropped z b bs e =
    let q : b ≡ 3 = is_escape_yes z b e in rw (e, zero_run-other z b (omega arith))

pub unescape_from-over : (z b : ℕ) (bs : List ℕ) → 3 < b → unescape_from z (b ∷ bs) ≡ b ∷ unescape_from 0 bs
unescape_from-over z b bs h =
    unescape_from-kept z b bs (is_escape-over z b h) ∙ ap (λ (k : ℕ). b ∷ unescape_from k bs) (zero_run-other z b (omega arith))

-- ---- a step of escaping
pub escape_byte_plain : (z b : ℕ) → needs_escape z b ≡ false → escape_byte z b ≡ b ∷ []
unfolding escape_byte
escape_byte_plain z b e = rw e

pub escape_byte-escaped : (z b : ℕ) → needs_escape z b ≡ true → escape_byte z b ≡ 3 ∷ b ∷ []
unfolding escape_byte
escape_byte-escaped z b e = rw e

pub escape_run_plain : (z b : ℕ) → needs_escape z b ≡ false → escape_run z b ≡ zero_run z b
unfolding escape_run
escape_run_plain z b e = rw e

pub escape_run-escaped : (z b : ℕ) → needs_escape z b ≡ true → escape_run z b ≡ zero_run 0 b
unfolding escape_run
escape_run-escaped z b e = rw e

pub escape_end-none : (z : ℕ) → z < 2 → escape_end z ≡ []
unfolding escape_end
escape_end-none z h = rw (lt-leb 2 z h)

pub escape_end_three : (z : ℕ) → 2 ≤ z → escape_end z ≡ 3 ∷ []
unfolding escape_end
escape_end_three z h = rw (le-leb 2 z h)

pub escape_from-end : (z : ℕ) → escape_from z [] ≡ escape_end z
unfolding escape_from
escape_from-end z = refl

pub escape_from-next : (z b : ℕ) (bs : List ℕ) → escape_from z (b ∷ bs) ≡ escape_byte z b ++ escape_from (escape_run z b) bs
unfolding escape_from
escape_from-next z b bs = refl

pub escape_from_plain : (z b : ℕ) (bs : List ℕ) → needs_escape z b ≡ false → escape_from z (b ∷ bs) ≡ b ∷ escape_from (zero_run z b) bs
escape_from_plain z b bs e = rw (escape_from-next, escape_byte_plain z b e, escape_run_plain z b e)

pub escape_from-escaped : (z b : ℕ) (bs : List ℕ) → needs_escape z b ≡ true → escape_from z (b ∷ bs) ≡ 3 ∷ b ∷ escape_from (zero_run 0 b) bs
escape_from-escaped z b bs e = rw (escape_from-next, escape_byte-escaped z b e, escape_run-escaped z b e)

pub escape_from-over : (z b : ℕ) (bs : List ℕ) → 3 < b → escape_from z (b ∷ bs) ≡ b ∷ escape_from 0 bs
escape_from-over z b bs h =
    escape_from_plain z b bs (needs_escape-over z b h) ∙ ap (λ (k : ℕ). b ∷ escape_from k bs) (zero_run-other z b (omega arith))

-- ---- escaping in parts: first xs, then what follows, from the run that xs leaves
pub escape_from-append : (z : ℕ) (xs ys : List ℕ) → escape_from z (xs ++ ys) ≡ escape_bytes z xs ++ escape_from (run_after z xs) ys
unfolding escape_from escape_bytes run_after
escape_from-append z [] ys = refl
escape_from-append z (x ∷ xs) ys = rw (escape_from-append (escape_run z x) xs ys, append_assoc)

-- the whole: what is put byte by byte, and the end
pub escape_parts : (rbsp : List ℕ) → escape rbsp ≡ escape_bytes 0 rbsp ++ escape_end (run_after 0 rbsp)
unfolding escape
escape_parts rbsp = ap escape (sym (append-nil rbsp)) ∙ escape_from-append 0 rbsp [] ∙ ap (λ (l : List ℕ). escape_bytes 0 rbsp ++ l) (escape_from-end (run_after 0 rbsp))
