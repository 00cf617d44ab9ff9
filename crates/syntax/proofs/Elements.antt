-- The elements that H.266's syntax tables are made of: u(n), a flag, ue(v), se(v), with a limit, or absent under a condition.
use Rattle.std.specs.Prelude.{ℕ, Bool}
use Rattle.std.specs.Bool.{beq}
use Rattle.syntax.specs.Element.{ElementOf, Element}
use Rattle.syntax.specs.Elements.{flag, ue, Same, sameℕ, inferred, is_set, one_if, one_set, or_else}

-- ---- an element with no bits

-- writing any other value than the inferred one is refused with n; where n is 0 it is passed over
abbrev pub absent_of : {still : Bool} {A : Type 0} → Same A → A → ℕ → ElementOf still A
absent_of same value n = inferred same value (λ v. same.test v value) (same.self value) n

abbrev pub absent : {A : Type 0} → Same A → A → ℕ → Element A
absent same value n = absent_of same value n

-- a presence flag that the record holds beside the syntax: set where the syntax has the part, else refused with n
abbrev pub presence : Bool → ℕ → Element ℕ
presence there n = inferred sameℕ (one_if there) (λ v. beq (is_set v) there) (one_set there) n

-- ---- one element or another, by a condition

-- coded where `on`; else 0 is inferred, and writing passes over whatever the record holds
abbrev pub flag_if : Bool → Element ℕ
flag_if on = or_else on flag (absent sameℕ 0 0)

abbrev pub ue_if : Bool → Element ℕ
ue_if on = or_else on ue (absent sameℕ 0 0)
