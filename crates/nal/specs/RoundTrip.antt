-- Unescaping takes out what escaping put in, and nothing else.
use Rattle.std.specs.Prelude.{ℕ, Bool, true, false, List, [], ◌∷◌, ◌≡◌, refl, leb}
use Rattle.std.proofs.Common.{ap, leb-true, leb-false}
use Rattle.nal.specs.Escape.{zero_run, needs_escape, unescape_from, unescape, escape_end, escape_from, escape}
use Rattle.nal.specs.Laws.{needs_escape_yes, is_escape_three, is_escape_plain, is_escape-first, unescape_from-end, unescape_from-kept, unescape_from_dropped, escape_end-none, escape_end_three, escape_from-end, escape_from_plain, escape_from-escaped}

end_back : (z : ℕ) → unescape_from z (escape_end z) ≡ []
end_back z = go (leb 2 z) refl
  where
    go : (t : Bool) → leb 2 z ≡ t → unescape_from z (escape_end z) ≡ []
    go true e = rw (escape_end_three z (leb-true 2 z e), unescape_from_dropped z 3 [] (is_escape_three z (leb-true 2 z e)), unescape_from-end)
    go false e = rw (escape_end-none z (leb-false 2 z e), unescape_from-end)

pub unescape_from-escape_from : (z : ℕ) (bs : List ℕ) → unescape_from z (escape_from z bs) ≡ bs
unescape_from-escape_from z [] = rw escape_from-end (end_back z)
unescape_from-escape_from z (b ∷ bs) = go (needs_escape z b) refl (λ k. unescape_from-escape_from k bs)
  where
    go : (t : Bool) → needs_escape z b ≡ t → ((k : ℕ) → unescape_from k (escape_from k bs) ≡ bs) → unescape_from z (escape_from z (b ∷ bs)) ≡ b ∷ bs
    go true e ih =
        rw (escape_from-escaped z b bs e, unescape_from_dropped z 3 _ (is_escape_three z (needs_escape_yes z b e).0), unescape_from-kept 0 b _ (is_escape-first b))
        (ap (λ (l : List ℕ). b ∷ l) (ih (zero_run 0 b)))
    go false e ih =
        rw (escape_from_plain z b bs e, unescape_from-kept z b _ (is_escape_plain z b e))
        (ap (λ (l : List ℕ). b ∷ l) (ih (zero_run z b)))

pub unescape-escape : (rbsp : List ℕ) → unescape (escape rbsp) ≡ rbsp
unfolding unescape escape
unescape-escape rbsp = unescape_from-escape_from 0 rbsp
