-- The extension bits, and the trailing bits behind them.
use Rattle.std.specs.Prelude.{ℕ, ◌+◌, ◌≡◌, Ok, Err}
use Rattle.std.proofs.Common.{ap, ap₂, ◌∙◌}
use Rattle.refusal.specs.declared.Refusal.{Refusal}
use Rattle.bit_reader.specs.declared.BitReader.{BitReader}
use Rattle.bit_reader.specs.Gives.{Parsed, parsed, cursor_of, Gives, trailing_parsed}
use Rattle.bit_reader.specs.Reading.{trailing_read}
use Rattle.bit_reader.proofs.Gives.{given, given_back, refuses, refused_back}
use Rattle.pps_syntax.specs.Rbsp.{behind_extension}
use Rattle.pps_parts.specs.Ends.{extension_at, end_read}

module _ (flag : ℕ) {p q : BitReader} {bits : ℕ} (h : bits ≡ extension_at p.bytes.now flag (cursor_of p)) where
  pub end-given : Gives trailing_parsed (record p { bit_pos = p.bit_pos + bits }) q (Ok tt) → Gives (end_read flag) p q (Ok bits)
  unfolding end_read
  end-given g =
      given g.bytes
      (ap₂ parsed h (ap (λ (r : Parsed (Unit {0})). r.next) (given_back g) ∙ ap (λ (n : ℕ). trailing_read p.bytes.now (behind_extension (cursor_of p) n)) h))

  pub end-refused : {e : Refusal} → Gives trailing_parsed (record p { bit_pos = p.bit_pos + bits }) q (Err e) → Gives (end_read flag) p q (Err e)
  unfolding end_read
  end-refused g = refuses g.bytes (refused_back g ∙ ap (λ (n : ℕ). trailing_read p.bytes.now (behind_extension (cursor_of p) n)) h)
