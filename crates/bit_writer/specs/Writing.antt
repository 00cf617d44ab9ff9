-- What writing does to a sink and to the lent output behind it. A sink takes bits, high bit first, and puts each byte that is whole
-- at its place in the output, escaped as it is made if the sink escapes (H.266 7.4.2.1, `nal`'s own definition) or as it is.
use Rattle.std.specs.Prelude.{ℕ, ◌+◌, ◌-◌, ◌*◌, ◌%◌, ◌^◌, min, Bool, cond, List, [], ◌∷◌, ◌++◌, ◌≡◌, refl, ltb, set, replicate}
use Rattle.std.proofs.Common.{ap, sym, ◌∙◌}
use Rattle.codes.specs.Symbols.{Symbol, bit, refuse, first, putting}
use Rattle.nal.specs.Escape.{escape_byte, escape_run, escape_end}
use Rattle.bit_writer.specs.declared.Sink.{Sink}

-- a sink, and the output that it writes to
pub record Writing : Type 0 where
  pub sink : Sink
  pub out : List ℕ

abbrev pub sink_over : Sink → List ℕ → Writing
sink_over s o = record { sink = s; out = o }

-- a sink that has put nothing: its first byte goes to place p of the output
abbrev pub fresh : Bool → ℕ → Sink
fresh e p = record { escape = e; zeros = 0; put = p; cur = 0; have = 0; refused = 0 }

-- ---- bytes
-- One byte as it is. A store outside the output does nothing; the count goes no further than 2^63, which no output reaches.
unfoldable pub put_raw : Writing → ℕ → Writing
put_raw w b =
    let s = w.sink in
    sink_over (record { escape = s.escape; zeros = s.zeros; put = min (2 ^ 63) (s.put + 1); cur = s.cur; have = s.have; refused = s.refused })
    (set w.out s.put b)

-- several, one behind the other
unfoldable pub put_raws : Writing → List ℕ → Writing
put_raws w [] = w
put_raws w (b ∷ bs) = put_raws (put_raw w b) bs

-- what is put for the byte b of an RBSP after a run of z zero bytes
unfoldable pub coded : Bool → ℕ → ℕ → List ℕ
coded e z b = cond e (escape_byte z b) (b ∷ [])

-- the run of zero bytes behind it; a sink that does not escape has no use for it
unfoldable pub coded_run : Bool → ℕ → ℕ → ℕ
coded_run e z b = cond e (escape_run z b) z

-- the sink behind a whole byte, with a run of z zero bytes
abbrev pub behind_byte : Writing → ℕ → Writing
behind_byte w z =
    let s = w.sink in
    sink_over (record { escape = s.escape; zeros = z; put = s.put; cur = 0; have = 0; refused = s.refused }) w.out

-- the byte b, now whole
unfoldable pub put_byte : Writing → ℕ → Writing
put_byte w b = behind_byte (put_raws w (coded w.sink.escape w.sink.zeros b)) (coded_run w.sink.escape w.sink.zeros b)

-- the end of the payload: an escaped one gets 03 after two final zeros
unfoldable pub finished : Writing → Writing
finished w = put_raws w (cond w.sink.escape (escape_end w.sink.zeros) [])

-- ---- bits
-- how many bits of the byte that is being made are there
abbrev pub place : Sink → ℕ
place s = s.have % 8

-- the bits of that byte with one more behind them; only the low bit of b counts
abbrev pub joined : ℕ → ℕ → ℕ
joined cur b = cur % 128 * 2 + b % 2

-- the sink with n bits of a byte, which spell cur
abbrev pub holding : Writing → ℕ → ℕ → Writing
holding w cur n =
    let s = w.sink in
    sink_over (record { escape = s.escape; zeros = s.zeros; put = s.put; cur = cur; have = n; refused = s.refused }) w.out

-- one bit: it joins the byte that is being made, and the eighth makes it whole
unfoldable pub put_bit : Writing → ℕ → Writing
put_bit w b =
    cond (ltb (place w.sink) 7)
    (holding w (joined w.sink.cur b) (place w.sink + 1))
    (put_byte w (joined w.sink.cur b))

-- bits, one behind the other
unfoldable pub feed : Writing → List ℕ → Writing
feed w [] = w
feed w (b ∷ bs) = feed (put_bit w b) bs

-- rbsp_trailing_bits() of 7.3.2 after n bits: a 1, then zeros to the end of the byte
unfoldable pub trailing_bits : ℕ → List ℕ
trailing_bits n = 1 ∷ replicate (7 - n % 8) 0

-- ---- symbols
-- the same with r for its refusal
abbrev pub with_refusal : Writing → ℕ → Writing
with_refusal w r =
    let s = w.sink in
    sink_over (record { escape = s.escape; zeros = s.zeros; put = s.put; cur = s.cur; have = s.have; refused = r }) w.out

-- a bit is put; of refusals the first stays
unfoldable pub step : Writing → Symbol → Writing
step w (bit b) = put_bit w b
step w (refuse n) = with_refusal w (first w.sink.refused n)

-- what a stream of symbols leaves. After a refusal bits go on being put, and nobody looks at them
unfoldable pub play : Writing → List Symbol → Writing
play w [] = w
play w (x ∷ xs) = play (step w x) xs

-- the trailing bits, and the end of the payload
unfoldable pub closed : Writing → Writing
closed w = finished (play w (putting (trailing_bits w.sink.have)))

-- ---- one stream behind another
pub feed-none : (w : Writing) → feed w [] ≡ w
unfolding feed
feed-none w = refl

pub feed-more : (w : Writing) (b : ℕ) (bs : List ℕ) → feed w (b ∷ bs) ≡ feed (put_bit w b) bs
unfolding feed
feed-more w b bs = refl

pub feed-append : (w : Writing) (xs ys : List ℕ) → feed w (xs ++ ys) ≡ feed (feed w xs) ys
unfolding feed
feed-append w [] ys = refl
feed-append w (x ∷ xs) ys = feed-append (put_bit w x) xs ys

pub play-append : (w : Writing) (xs ys : List Symbol) → play w (xs ++ ys) ≡ play (play w xs) ys
unfolding play
play-append w [] ys = refl
play-append w (x ∷ xs) ys = play-append (step w x) xs ys

pub play-none : (w : Writing) → play w [] ≡ w
unfolding play
play-none w = refl

pub play-bits : (w : Writing) (bs : List ℕ) → play w (putting bs) ≡ feed w bs
unfolding play step feed
play-bits w [] = refl
play-bits w (b ∷ bs) = play-bits (put_bit w b) bs

-- one function called after another
pub play_then : (w₀ : Writing) {w₁ w₂ : Writing} (xs ys : List Symbol) → w₁ ≡ play w₀ xs → w₂ ≡ play w₁ ys → w₂ ≡ play w₀ (xs ++ ys)
play_then w₀ xs ys p q = q ∙ ap (λ (w : Writing). play w ys) p ∙ sym (play-append w₀ xs ys)
