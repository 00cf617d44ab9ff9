-- The closing theorem: what a whole run leaves, from a fresh sink to the end of the payload. It holds of both kinds of output, escaped and
-- plain, and of an output of any length: its refusal is the stream's first; its count is exact; the output has the bytes as far as it reaches.
use Rattle.std.specs.Prelude.{ℕ, zero, suc, ◌+◌, ◌*◌, ◌/◌, ◌^◌, ◌≤◌, ◌<◌, min, Bool, true, false, cond, List, [], ◌∷◌, ◌++◌, ◌≡◌, refl, ltb, length, set, take, drop}
use Rattle.std.proofs.Common.{add-zero, zero-add, zero-mul, arith, append-nil, sym, ap, ap₂, ◌∙◌, length-append, length-take, length-drop, take-append-drop, ltb-true, ltb-false}
use Rattle.std.proofs.lemmas.List.Edits.{sets}
use Rattle.std.proofs.Math.Seq.{length-sets, set_out}
use Rattle.codes.specs.Symbols.{Symbol, first-left, refusal_in, bits_in}
use Rattle.tables.specs.Tables.{sets_append}
use Rattle.nal.specs.Escape.{escape_byte, escape_run, escape_bytes, run_after, escape_end, escape}
use Rattle.nal.specs.Laws.{escape_parts}
use Rattle.bit_writer.specs.Writing.{Writing, sink_over, fresh, put_raw, put_raws, coded, coded_run, behind_byte, put_byte, finished, feed, feed-none, feed-append, trailing_bits, with_refusal, play, play-bits, closed}
use Rattle.bit_writer.specs.Packed.{spelled, spelled-lt, pack, aligned, aligned-length, packed, payload}
use Rattle.bit_writer.specs.Chunks.{feed-whole, byte_leaves}
use Rattle.bit_writer.specs.Played.{feed-refusal, played, place_after, trailing-place}

-- What a run leaves that puts bytes from the front of the output o on.
pub record Ran (w : Writing) (refusal : ℕ) (bytes o : List ℕ) : Type 0 where
  pub refused : w.sink.refused ≡ refusal
  pub count : w.sink.put ≡ min (2 ^ 63) (length bytes)
  pub written : w.out ≡ sets o 0 bytes

-- ---- bits to bytes
put_bytes : Writing → List ℕ → Writing
put_bytes w [] = w
put_bytes w (b ∷ bs) = put_bytes (put_byte w b) bs

eights : (bs : List ℕ) (w : Writing) → length bs ≡ 8 → w.sink.cur ≡ 0 → w.sink.have ≡ 0 → feed w bs ≡ put_byte w (spelled bs)
eights bs w l c h =
    let z : w.sink.cur * 2 ^ length bs ≡ 0 = ap (λ (k : ℕ). k * 2 ^ length bs) c ∙ zero-mul (2 ^ length bs) in
    let lt : spelled bs < 2 ^ 8 = rw l at (spelled-lt bs) in
    feed-whole bs w (omega arith) ∙ ap (put_byte w) (omega (arith, z, lt))

feed-pack : (n : ℕ) (bs : List ℕ) (w : Writing) → length bs ≡ 8 * n → w.sink.cur ≡ 0 → w.sink.have ≡ 0 → feed w bs ≡ put_bytes w (pack n bs)
unfolding pack put_bytes
feed-pack zero [] w l c h = feed-none w
feed-pack zero (b ∷ bs) w l c h = absurd (omega arith)
feed-pack (suc n) bs w l c h =
    let v = spelled (take 8 bs) in
    let s = byte_leaves w v in
    ap (feed w) (sym (take-append-drop 8 bs)) ∙ feed-append w (take 8 bs) (drop 8 bs)
    ∙ ap (λ (x : Writing). feed x (drop 8 bs)) (eights (take 8 bs) w (simp length-take (omega arith)) c h)
    ∙ feed-pack n (drop 8 bs) (put_byte w v) (simp length-drop (omega arith)) s.0 s.1

-- ---- bytes to the output
-- a sink behind a whole byte at place p of the output o, which counts no further than 2^63
abbrev standing : Bool → ℕ → ℕ → ℕ → List ℕ → Writing
standing e r z p o = sink_over (record { escape = e; zeros = z; put = min (2 ^ 63) p; cur = 0; have = 0; refused = r }) o

-- no output reaches a place that is not counted
far : (o : List ℕ) (p b : ℕ) → length o ≤ 2 ^ 63 → set o (min (2 ^ 63) p) b ≡ set o p b
far o p b h = split (ltb p (2 ^ 63)) refl
  where
    split : (t : Bool) → ltb p (2 ^ 63) ≡ t → set o (min (2 ^ 63) p) b ≡ set o p b
    split true e = let l : min (2 ^ 63) p ≡ p = omega (arith, ltb-true p (2 ^ 63) e) in ap (λ (k : ℕ). set o k b) l
    split false e =
        let l : 2 ^ 63 ≤ p = ltb-false p (2 ^ 63) e in
        set_out o (min (2 ^ 63) p) b (omega arith) ∙ sym (set_out o p b (omega arith))

raws_at : (bs : List ℕ) (e : Bool) (r z p : ℕ) (o : List ℕ) → length o ≤ 2 ^ 63 → put_raws (standing e r z p o) bs ≡ standing e r z (p + length bs) (sets o p bs)
unfolding put_raws put_raw
raws_at [] e r z p o h = ap (λ (k : ℕ). standing e r z k o) (sym (add-zero p))
raws_at (b ∷ bs) e r z p o h =
    let k : min (2 ^ 63) (min (2 ^ 63) p + 1) ≡ min (2 ^ 63) (suc p) = omega arith in
    ap₂ (λ (n : ℕ) (l : List ℕ). put_raws (sink_over (record { escape = e; zeros = z; put = n; cur = 0; have = 0; refused = r }) l) bs) k (far o p b h)
    ∙ raws_at bs e r z (suc p) (set o p b) (omega (arith, length-sets o p (b ∷ [])))
    ∙ ap (λ (n : ℕ). standing e r z n (sets (set o p b) (suc p) bs)) (omega arith)

-- what is put for bytes after a run of z zeros, and the run behind them
codes : Bool → ℕ → List ℕ → List ℕ
codes e z [] = []
codes e z (b ∷ bs) = coded e z b ++ codes e (coded_run e z b) bs

codes_run : Bool → ℕ → List ℕ → ℕ
codes_run e z [] = z
codes_run e z (b ∷ bs) = codes_run e (coded_run e z b) bs

byte_at : (e : Bool) (r z p : ℕ) (o : List ℕ) (b : ℕ) → length o ≤ 2 ^ 63
    → put_byte (standing e r z p o) b ≡ standing e r (coded_run e z b) (p + length (coded e z b)) (sets o p (coded e z b))
unfolding put_byte
byte_at e r z p o b h = ap (λ (w : Writing). behind_byte w (coded_run e z b)) (raws_at (coded e z b) e r z p o h)

bytes-at : (bs : List ℕ) (e : Bool) (r z p : ℕ) (o : List ℕ) → length o ≤ 2 ^ 63
    → put_bytes (standing e r z p o) bs ≡ standing e r (codes_run e z bs) (p + length (codes e z bs)) (sets o p (codes e z bs))
unfolding put_bytes codes codes_run
bytes-at [] e r z p o h = ap (λ (k : ℕ). standing e r z k o) (sym (add-zero p))
bytes-at (b ∷ bs) e r z p o h =
    let c = coded e z b in
    let d = codes e (coded_run e z b) bs in
    ap (λ (w : Writing). put_bytes w bs) (byte_at e r z p o b h)
    ∙ bytes-at bs e r (coded_run e z b) (p + length c) (sets o p c) (omega (arith, length-sets o p c))
    ∙ ap₂ (λ (n : ℕ) (l : List ℕ). standing e r (codes_run e (coded_run e z b) bs) n l) (omega (arith, length-append c d)) (sym (sets_append c d o p))

-- the end of the payload
tail : Bool → ℕ → List ℕ
tail e z = cond e (escape_end z) []

finished-at : (e : Bool) (r z p : ℕ) (o : List ℕ) → length o ≤ 2 ^ 63 → finished (standing e r z p o) ≡ standing e r z (p + length (tail e z)) (sets o p (tail e z))
unfolding finished tail
finished-at e r z p o h = raws_at (tail e z) e r z p o h

-- `nal`'s escaping, or the bytes as they are
codes-escaped : (bs : List ℕ) (z : ℕ) → (codes true z bs ≡ escape_bytes z bs) × (codes_run true z bs ≡ run_after z bs)
unfolding codes codes_run coded coded_run escape_bytes run_after
codes-escaped [] z = (refl, refl)
codes-escaped (b ∷ bs) z =
    let ih = codes-escaped bs (escape_run z b) in
    (ap (λ (l : List ℕ). escape_byte z b ++ l) ih.0, ih.1)

codes_plain : (bs : List ℕ) (z : ℕ) → codes false z bs ≡ bs
unfolding codes coded coded_run
codes_plain [] z = refl
codes_plain (b ∷ bs) z = ap (λ (l : List ℕ). b ∷ l) (codes_plain bs z)

codes_all : (e : Bool) (bs : List ℕ) → codes e 0 bs ++ tail e (codes_run e 0 bs) ≡ cond e (escape bs) bs
unfolding tail
codes_all true bs =
    let c = codes-escaped bs 0 in
    ap₂ (λ (l : List ℕ) (z : ℕ). l ++ escape_end z) c.0 c.1 ∙ sym (escape_parts bs)
codes_all false bs = append-nil (codes false 0 bs) ∙ codes_plain bs 0

bytes-finished : (bs : List ℕ) (e : Bool) (r p : ℕ) (o : List ℕ) → length o ≤ 2 ^ 63
    → finished (put_bytes (standing e r 0 p o) bs) ≡ standing e r (codes_run e 0 bs) (p + length (cond e (escape bs) bs)) (sets o p (cond e (escape bs) bs))
bytes-finished bs e r p o h =
    let c = codes e 0 bs in
    let t = tail e (codes_run e 0 bs) in
    let l : length (c ++ t) ≡ length c + length t = length-append c t in
    ap finished (bytes-at bs e r 0 p o h)
    ∙ finished-at e r (codes_run e 0 bs) (p + length c) (sets o p c) (omega (arith, length-sets o p c))
    ∙ ap₂ (λ (n : ℕ) (x : List ℕ). standing e r (codes_run e 0 bs) n x) (omega (arith, l)) (sym (sets_append c t o p))
    ∙ ap (λ (x : List ℕ). standing e r (codes_run e 0 bs) (p + length x) (sets o p x)) (codes_all e bs)

-- ---- a whole run
-- the trailing bits, by the place at which the sink stands
closed-bits : (w : Writing) (bs : List ℕ) (r : ℕ) → w.sink.have ≡ 0 → closed (with_refusal (feed w bs) r) ≡ finished (with_refusal (feed w (aligned bs)) r)
unfolding closed aligned
closed-bits w bs r z =
    let t : trailing_bits (feed w bs).sink.have ≡ trailing_bits (length bs) = trailing-place _ _ (place_after bs w ∙ omega arith) in
    ap finished (play-bits (with_refusal (feed w bs) r) (trailing_bits (feed w bs).sink.have)
    ∙ feed-refusal (trailing_bits (feed w bs).sink.have) (feed w bs) r
    ∙ ap (λ (x : Writing). with_refusal x r) (ap (feed (feed w bs)) t ∙ sym (feed-append w bs (trailing_bits (length bs)))))

pub closing : (e : Bool) (p : ℕ) (o : List ℕ) (xs : List Symbol) → p ≤ 2 ^ 63 → length o ≤ 2 ^ 63
    → (w : Writing) → w ≡ closed (play (sink_over (fresh e p) o) xs)
    → (w.sink.refused ≡ refusal_in xs) × (w.sink.put ≡ min (2 ^ 63) (p + length (payload e (bits_in xs)))) × (w.out ≡ sets o p (payload e (bits_in xs)))
unfolding payload packed
closing e p o xs g h w q =
    let bs = bits_in xs in
    let r = refusal_in xs in
    let a = aligned bs in
    let w₀ = sink_over (fresh e p) o in
    let m : p ≡ min (2 ^ 63) p = omega arith in
    let d : w ≡ standing e r (codes_run e 0 (packed bs)) (p + length (payload e bs)) (sets o p (payload e bs)) =
    q ∙ ap closed (played xs w₀ ∙ ap (with_refusal (feed w₀ bs)) (first-left r))
    ∙ closed-bits w₀ bs r refl ∙ ap finished (sym (feed-refusal a w₀ r) ∙ feed-pack (length a / 8) a (with_refusal w₀ r) (aligned-length bs) refl refl)
    ∙ ap (λ (k : ℕ). finished (put_bytes (sink_over (record { escape = e; zeros = 0; put = k; cur = 0; have = 0; refused = r }) o) (packed bs))) m
    ∙ bytes-finished (packed bs) e r p o h in
    (ap (λ (x : Writing). x.sink.refused) d, ap (λ (x : Writing). x.sink.put) d, ap (λ (x : Writing). x.out) d)

-- from the front of the output
pub plain_ran : (e : Bool) (o : List ℕ) (xs : List Symbol) {w₁ w₂ : Writing} → length o ≤ 2 ^ 63
    → w₁ ≡ play (sink_over (fresh e 0) o) xs → w₂ ≡ closed w₁ → Ran w₂ (refusal_in xs) (payload e (bits_in xs)) o
plain_ran e o xs {w₁} {w₂} h p q =
    let c = closing e 0 o xs (omega arith) h w₂ (q ∙ ap closed p) in
    record { refused = c.0; count = c.1 ∙ ap (min (2 ^ 63)) (zero-add _); written = c.2 }

-- behind the two bytes of a NAL unit's header
pub nal_ran : (a b : ℕ) (o : List ℕ) (xs : List Symbol) {w₁ w₂ : Writing} → length o ≤ 2 ^ 63
    → w₁ ≡ play (sink_over (fresh true 2) (sets o 0 (a ∷ b ∷ []))) xs → w₂ ≡ closed w₁ → Ran w₂ (refusal_in xs) (a ∷ b ∷ payload true (bits_in xs)) o
nal_ran a b o xs {w₁} {w₂} h p q =
    let c = closing true 2 (sets o 0 (a ∷ b ∷ [])) xs (omega arith) (omega (arith, length-sets o 0 (a ∷ b ∷ []))) w₂ (q ∙ ap closed p) in
    record { refused = c.0; count = c.1 ∙ ap (min (2 ^ 63)) (omega arith); written = c.2 }
