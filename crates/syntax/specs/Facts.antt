-- What it says of a record that writing it is refused nowhere and that reading could have given it: a fact for each element and each test, in order.
use Rattle.std.specs.Prelude.{◌≡◌, Bool, true}
use Rattle.codes.specs.Symbols.{refusal_in, check}
use Rattle.syntax.specs.Syntax.{SyntaxOf, done, element, on_writing, on_reading, symbols_for, refusal_for, canonical_for}
use Rattle.syntax.specs.Round.{and_parts, refusal_parts}

module _ {still : Bool} {R : Type 0} where
  unfoldable pub Facts : SyntaxOf still R → R → Type 0
  Facts (done e) r = Unit {0}
  Facts (element e place k) r = ((refusal_in (e.symbols (place r)) ≡ 0) × (e.canonical (place r) ≡ true)) × Facts (k (place r)) r
  Facts (on_writing test n k) r = (refusal_in (check (test r) n) ≡ 0) × Facts k r
  Facts (on_reading ok n l k) r = (ok ≡ true) × Facts k r

  pub facts : (d : SyntaxOf still R) (r : R) → refusal_for d r ≡ 0 → canonical_for d r ≡ true → Facts d r
  unfolding Facts symbols_for canonical_for
  facts (done e) r h c = tt
  facts (element e place k) r h c =
      let a = refusal_parts (e.symbols (place r)) (symbols_for (k (place r)) r) h in
      let b = and_parts (e.canonical (place r)) (canonical_for (k (place r)) r) c in
      ((a.0, b.0), facts (k (place r)) r a.1 b.1)
  facts (on_writing test n k) r h c =
      let a = refusal_parts (check (test r) n) (symbols_for k r) h in
      (a.0, facts k r a.1 c)
  facts (on_reading ok n l k) r h c =
      let a = and_parts ok (canonical_for k r) c in
      (a.0, facts k r h a.1)
