-- A sink is a writer beside a refusal, which bits do not look at.
use Rattle.std.specs.Prelude.{ℕ, List, [], ◌++◌, Bool, true, false, cond, ◌≡◌, refl}
use Rattle.std.proofs.Common.{ne_eqb, sym, ap, ap₂, ◌∙◌}
use Rattle.codes.specs.Symbols.{putting, check, checked, first, refusal-append, bits_in_append, refusal-check, bits_in_check, refusal-putting, bits_in_putting, first-left, first-right}
use Rattle.nal.specs.Escape.{escape_end}
use Rattle.bit_writer.specs.declared.BitWriter.{BitWriter}
use Rattle.bit_writer.specs.declared.Sink.{Sink}
use Rattle.bit_writer.specs.Writing.{Writing, sink_over, with_refusal, feed, play, play-bits, trailing_bits, finished, closed}
use Rattle.bit_writer.specs.Played.{raws_refusal, feed-refusal, played}
use Rattle.bit_writer.specs.Stop.{play_on}
use Rattle.bit_writer.specs.Written.{sink_of, writer_of, written}
use Rattle.bit_writer.proofs.Ended.{feed_on}

-- ---- what looks at no refusal
finished-refusal : (w : Writing) (r : ℕ) → finished (with_refusal w r) ≡ with_refusal (finished w) r
unfolding finished
finished-refusal w r = raws_refusal (cond w.sink.escape (escape_end w.sink.zeros) []) w r

closed-refusal : (w : Writing) (r : ℕ) → closed (with_refusal w r) ≡ with_refusal (closed w) r
unfolding closed
closed-refusal w r =
    let bs = trailing_bits w.sink.have in
    ap finished (play-bits (with_refusal w r) bs ∙ feed-refusal bs w r ∙ ap (λ (x : Writing). with_refusal x r) (sym (play-bits w bs)))
    ∙ finished-refusal (play w (putting bs)) r

-- bits behind a test, which are put whether or not it fails
played_tested : (w : Writing) (ok : Bool) (n : ℕ) (bs : List ℕ) → play w (checked ok n bs) ≡ with_refusal (feed w bs) (first w.sink.refused (cond ok 0 n))
unfolding checked
played_tested w ok n bs =
    let xs = check ok n in
    let b = bits_in_append xs (putting bs) ∙ ap₂ (λ (k l : List ℕ). k ++ l) (bits_in_check ok n) (bits_in_putting bs) in
    let r = refusal-append xs (putting bs) ∙ ap₂ first (refusal-check ok n) (refusal-putting bs) ∙ first-right (cond ok 0 n) in
    played (xs ++ putting bs) w ∙ ap₂ (λ (l : List ℕ) (k : ℕ). with_refusal (feed w l) (first w.sink.refused k)) b r

module _ (s : Sink) (o l : List ℕ) {v w : BitWriter} {t : Sink} (from : v ≡ writer_of s) where
  -- a writer made of the sink, and a sink made of it
  over : (f : Writing → Writing) (r : ℕ) → written w l ≡ f (written v o) → t ≡ sink_of w r → sink_over t l ≡ with_refusal (f (with_refusal (sink_over s o) 0)) r
  over f r e q = ap (λ (x : Sink). sink_over x l) q ∙ ap (λ (x : Writing). with_refusal x r) (e ∙ ap (λ (x : BitWriter). f (written x o)) from)

  fed : (bs : List ℕ) (r : ℕ) → written w l ≡ feed (written v o) bs → t ≡ sink_of w r → sink_over t l ≡ with_refusal (feed (sink_over s o) bs) r
  fed bs r e q = over (λ (x : Writing). feed x bs) r e q ∙ ap (λ (x : Writing). with_refusal x r) (feed-refusal bs (sink_over s o) 0)

  pub bits-kept : (bs : List ℕ) → written w l ≡ play_on (written v o) (putting bs) → t ≡ sink_of w s.refused → sink_over t l ≡ play (sink_over s o) (putting bs)
  bits-kept bs e q =
      fed bs s.refused (e ∙ sym (feed_on (written v o) bs refl)) q ∙ sym (feed-refusal bs (sink_over s o) s.refused) ∙ sym (play-bits (sink_over s o) bs)

  pub finish-kept : written w l ≡ finished (written v o) → t ≡ sink_of w s.refused → sink_over t l ≡ finished (sink_over s o)
  finish-kept e q =
      over finished s.refused e q ∙ ap (λ (x : Writing). with_refusal x s.refused) (finished-refusal (sink_over s o) 0)
      ∙ sym (finished-refusal (sink_over s o) s.refused)

  pub close-kept : written w l ≡ closed (written v o) → t ≡ sink_of w s.refused → sink_over t l ≡ closed (sink_over s o)
  close-kept e q =
      over closed s.refused e q ∙ ap (λ (x : Writing). with_refusal x s.refused) (closed-refusal (sink_over s o) 0)
      ∙ sym (closed-refusal (sink_over s o) s.refused)

  pub tested-kept : (ok : Bool) (bs : List ℕ) (r : ℕ) → r ≡ first s.refused (cond ok 0 25) → written w l ≡ feed (written v o) bs → t ≡ sink_of w r
      → sink_over t l ≡ play (sink_over s o) (checked ok 25 bs)
  tested-kept ok bs r h e q = fed bs r e q ∙ ap (with_refusal (feed (sink_over s o) bs)) h ∙ sym (played_tested (sink_over s o) ok 25 bs)

-- ---- the refusal that is kept
pub late : (r : ℕ) (ok : Bool) → (r ≡ 0 → ⊥) → r ≡ first r (cond ok 0 25)
unfolding first
late r ok h = rw (ne_eqb r 0 h)

pub passes : (r : ℕ) (ok : Bool) → ok ≡ true → r ≡ first r (cond ok 0 25)
passes r ok e = sym (ap (λ (t : Bool). first r (cond t 0 25)) e ∙ first-right r)

pub refuses : (r : ℕ) (ok : Bool) → r ≡ 0 → ok ≡ false → 25 ≡ first r (cond ok 0 25)
refuses r ok z e = sym (ap₂ (λ (n : ℕ) (t : Bool). first n (cond t 0 25)) z e ∙ first-left 25)
