-- How a function that writes up to a refusal is shown to follow a description: one step for each call, the last call first.
use Rattle.std.specs.Prelude.{◌≡◌, Bool, true, false}
use Rattle.std.proofs.Math.Path.{sym, ap}
use Rattle.std.proofs.Common.{◌∙◌}
use Rattle.codes.specs.Coded.{only_if}
use Rattle.codes.specs.Symbols.{check-none}
use Rattle.bit_writer.specs.Stop.{play_on}
use Rattle.bit_writer.specs.Writing.{Writing}
use Rattle.syntax.specs.Element.{ElementOf}
use Rattle.syntax.specs.Elements.{Same, or_else}
use Rattle.syntax.proofs.Elements.{absent_of}

-- an element that is written where `on`, and passed over elsewhere
pub stops-or : {still : Bool} {A : Type 0} (on : Bool) (e : ElementOf still A) (same : Same A) (value v : A) (w : Writing) {x : Writing} → x ≡ play_on w (only_if on (e.symbols v))
    → x ≡ play_on w ((or_else on e (absent_of same value 0)).symbols v)
unfolding or_else
stops-or true e same value v w h = h
stops-or false e same value v w h = h ∙ ap (play_on w) (sym (check-none (same.test v value)))
