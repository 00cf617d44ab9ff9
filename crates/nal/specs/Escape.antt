-- Emulation prevention (H.266 7.3.1.1, 7.4.2.1). Where a payload holds 00 00 03, the 03 is an emulation_prevention_three_byte, which
-- keeps the payload free of start codes and is no part of the RBSP. A run of zero bytes, z, is counted 0, 1, or 2 for two and more.
use Rattle.std.specs.Prelude.{ℕ, ◌+◌, min, Bool, ◌&&◌, cond, List, [], ◌∷◌, ◌++◌, leb, eqb}

-- The run of zero bytes that ends with b, after a run of z (the Rust's zero_run).
unfoldable pub zero_run : ℕ → ℕ → ℕ
zero_run z b = cond (eqb b 0) (min 2 (z + 1)) 0

-- Unescaping drops b: it is 03 after 00 00 (7.3.1.1).
unfoldable pub is_escape : ℕ → ℕ → Bool
is_escape z b = leb 2 z && eqb b 3

-- Escaping puts 03 before b: it is a byte up to 03 after 00 00 (7.4.2.1).
unfoldable pub needs_escape : ℕ → ℕ → Bool
needs_escape z b = leb 2 z && leb b 3

-- The RBSP of what is left of a payload after a run of z.
unfoldable pub unescape_from : ℕ → List ℕ → List ℕ
unescape_from z [] = []
unescape_from z (b ∷ bs) = cond (is_escape z b) [] (b ∷ []) ++ unescape_from (zero_run z b) bs

-- The RBSP of a payload (the Rust's ebsp_to_rbsp).
unfoldable pub unescape : List ℕ → List ℕ
unescape ebsp = unescape_from 0 ebsp

-- What escaping puts for one byte b after a run of z.
unfoldable pub escape_byte : ℕ → ℕ → List ℕ
escape_byte z b = cond (needs_escape z b) (3 ∷ b ∷ []) (b ∷ [])

-- The run of zero bytes that this leaves.
unfoldable pub escape_run : ℕ → ℕ → ℕ
escape_run z b = zero_run (cond (needs_escape z b) 0 z) b

-- What escaping puts at the end of the payload, after a run of z.
unfoldable pub escape_end : ℕ → List ℕ
escape_end z = cond (leb 2 z) (3 ∷ []) []

-- The payload of what is left of an RBSP after a run of z.
unfoldable pub escape_from : ℕ → List ℕ → List ℕ
escape_from z [] = escape_end z
escape_from z (b ∷ bs) = escape_byte z b ++ escape_from (escape_run z b) bs

-- The payload of an RBSP (the Rust's rbsp_to_ebsp). Difference from the standard, as in the Rust: 03 is appended
-- after two final zeros only; 7.4.2.1 appends it after a single final 00 too.
unfoldable pub escape : List ℕ → List ℕ
escape rbsp = escape_from 0 rbsp

-- For a writer that escapes byte by byte: what is put for the bytes so far, before the end.
unfoldable pub escape_bytes : ℕ → List ℕ → List ℕ
escape_bytes z [] = []
escape_bytes z (b ∷ bs) = escape_byte z b ++ escape_bytes (escape_run z b) bs

-- The run of zero bytes after these.
unfoldable pub run_after : ℕ → List ℕ → ℕ
run_after z [] = z
run_after z (b ∷ bs) = run_after (escape_run z b) bs
