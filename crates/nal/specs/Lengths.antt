-- Unescaping makes nothing longer, and escaping makes three bytes of two at the most.
use Rattle.std.specs.Prelude.{ℕ, ◌+◌, ◌*◌, ◌≤◌, min, Bool, true, false, cond, List, [], ◌∷◌, ◌++◌, ◌≡◌, refl, leb, eqb, length}
use Rattle.std.proofs.Common.{arith, ap, leb-true, leb-false}
use Rattle.nal.specs.Escape.{zero_run, is_escape, needs_escape, unescape_from, unescape, escape_end, escape_from, escape}
use Rattle.nal.specs.Laws.{needs_escape_yes, escape_end-none, escape_end_three, escape_from-end, escape_from_plain, escape_from-escaped}

shorter : (z : ℕ) (bs : List ℕ) → length (unescape_from z bs) ≤ length bs
unfolding unescape_from
shorter z [] = omega arith
shorter z (b ∷ bs) = go (is_escape z b) (shorter (zero_run z b) bs)
  where
    go : (t : Bool) → length (unescape_from (zero_run z b) bs) ≤ length bs → length (cond t [] (b ∷ []) ++ unescape_from (zero_run z b) bs) ≤ length (b ∷ bs)
    go true h = omega arith
    go false h = omega arith

pub unescape-length : (ebsp : List ℕ) → length (unescape ebsp) ≤ length ebsp
unfolding unescape
unescape-length ebsp = shorter 0 ebsp

-- a run grows by one at the most
run-grows : (z b : ℕ) → zero_run z b ≤ min z 2 + 1
unfolding zero_run
run-grows z b = go (eqb b 0)
  where
    go : (t : Bool) → cond t (min 2 (z + 1)) 0 ≤ min z 2 + 1
    go true = omega arith
    go false = omega arith

end-longest : (z : ℕ) → length (escape_end z) * 2 ≤ min z 2
end-longest z = go (leb 2 z) refl
  where
    go : (t : Bool) → leb 2 z ≡ t → length (escape_end z) * 2 ≤ min z 2
    go true e = omega (arith, leb-true 2 z e, ap length (escape_end_three z (leb-true 2 z e)))
    go false e = omega (arith, ap length (escape_end-none z (leb-false 2 z e)))

-- each zero before a byte pays half of the escape that may follow it
longest : (z : ℕ) (bs : List ℕ) → length (escape_from z bs) * 2 ≤ length bs * 3 + min z 2
longest z [] = rw escape_from-end (omega (arith, end-longest z))
longest z (b ∷ bs) = go (needs_escape z b) refl (λ k. longest k bs)
  where
    go : (t : Bool) → needs_escape z b ≡ t → ((k : ℕ) → length (escape_from k bs) * 2 ≤ length bs * 3 + min k 2) → length (escape_from z (b ∷ bs)) * 2 ≤ length (b ∷ bs) * 3 + min z 2
    go true e ih = omega (arith, (needs_escape_yes z b e).0, ih (zero_run 0 b), run-grows 0 b, ap length (escape_from-escaped z b bs e))
    go false e ih = omega (arith, ih (zero_run z b), run-grows z b, ap length (escape_from_plain z b bs e))

pub escape-length : (rbsp : List ℕ) → length (escape rbsp) * 2 ≤ length rbsp * 3
unfolding escape
escape-length rbsp = omega (arith, longest 0 rbsp)
