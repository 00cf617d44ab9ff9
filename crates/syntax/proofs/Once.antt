-- Two records that reading could have given, written as the same bits, are the same.
use Rattle.std.specs.Prelude.{ℕ, ◌<◌, ◌^◌, ◌≡◌, List, Bool, true, length}
use Rattle.std.proofs.Common.{sym, ap, subst, ◌∙◌, zero-add}
use Rattle.codes.specs.Holds.{Holds, holds-left}
use Rattle.bit_reader.specs.Reading.{cursor_at}
use Rattle.bit_writer.specs.Packed.{packed, aligned}
use Rattle.bit_writer.specs.Writing.{trailing_bits}
use Rattle.bit_writer.specs.ReadBack.{packed-holds}
use Rattle.syntax.specs.Element.{Parsed, parsed}
use Rattle.syntax.proofs.Round.{written_then_read, binary_for}
use Rattle.syntax.specs.Syntax.{SyntaxOf, parse, bits_for, refusal_for, canonical_for, Whole}

-- The bound on their number of bits keeps positions below 2^64.
pub same_bits : {still : Bool} {R : Type 0} (d : SyntaxOf still R) → Whole d → (r q : R) → refusal_for d r ≡ 0 → canonical_for d r ≡ true → refusal_for d q ≡ 0 → canonical_for d q ≡ true
    → bits_for d r ≡ bits_for d q → length (bits_for d r) < 2 ^ 63 → r ≡ q
unfolding aligned
same_bits {R = R} d w r q a b c e same l =
    let s = packed (bits_for d r) in
    let n = length (bits_for d r) in
    let holds : Holds s 0 (bits_for d r) n = rw zero-add at (holds-left (bits_for d r) (trailing_bits n) (packed-holds (bits_for d r) (binary_for d r) l)) in
    let one : parse d s (cursor_at 0) ≡ parsed r (cursor_at n) = written_then_read d w s 0 n r a b holds in
    let two : parse d s (cursor_at 0) ≡ parsed q (cursor_at n) = written_then_read d w s 0 n q c e (subst (λ (x : List ℕ). Holds s 0 x n) same holds) in
    ap (λ (p : Parsed R). p.value) (sym one ∙ two)
