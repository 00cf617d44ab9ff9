-- How a function that writes is shown to follow a description: what is known of its calls, one step for each, the last call first.
use Rattle.std.specs.Prelude.{◌≡◌, Bool, true, false}
use Rattle.std.proofs.Math.Path.{sym, ap}
use Rattle.std.proofs.Common.{◌∙◌}
use Rattle.codes.specs.Coded.{only_if}
use Rattle.codes.specs.Symbols.{check-none}
use Rattle.bit_writer.specs.Writing.{Writing, play}
use Rattle.syntax.specs.Element.{ElementOf}
use Rattle.syntax.specs.Elements.{Same, or_else}
use Rattle.syntax.proofs.Elements.{absent_of}

-- the guarded writers: an element that is written where `on`, and passed over elsewhere
pub writes-or : {still : Bool} {A : Type 0} (on : Bool) (e : ElementOf still A) (same : Same A) (value v : A) (w : Writing) {x : Writing} → x ≡ play w (only_if on (e.symbols v))
    → x ≡ play w ((or_else on e (absent_of same value 0)).symbols v)
unfolding or_else
writes-or true e same value v w h = h
writes-or false e same value v w h = h ∙ ap (play w) (sym (check-none (same.test v value)))
