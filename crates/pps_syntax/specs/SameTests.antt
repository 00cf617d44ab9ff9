-- A test of the description and a check of `partition` say the same, the one of what is right and the other of what is wrong.
use Rattle.std.specs.Prelude.{ℕ, ◌≡◌, refl, Bool, true, false, not, ◌&&◌, ◌||◌, ltb, leb}
use Rattle.std.proofs.Common.{sym, ap, ◌∙◌, ltb-true, ltb-false, leb-true, leb-false, lt-ltb, le-ltb, le-leb}
use Rattle.std.specs.Bool.{beq}
use Rattle.std.proofs.lemmas.Bool.{lt-leb}
use Rattle.syntax.specs.Lists.{not-true}

-- where the test held, the check passes
pub passes : (ok bad : Bool) → not ok ≡ bad → ok ≡ true → bad ≡ false
passes ok bad same e = sym same ∙ ap not e

-- below a limit, and up to one
pub not-under : (v limit : ℕ) → not (ltb v limit) ≡ leb limit v
not-under v limit = split (ltb v limit) refl
  where
    split : (b : Bool) → ltb v limit ≡ b → not b ≡ leb limit v
    split true e = sym (lt-leb limit v (ltb-true v limit e))
    split false e = sym (le-leb limit v (ltb-false v limit e))

pub not_within : (v limit : ℕ) → not (leb v limit) ≡ ltb limit v
not_within v limit = split (leb v limit) refl
  where
    split : (b : Bool) → leb v limit ≡ b → not b ≡ ltb limit v
    split true e = sym (le-ltb limit v (leb-true v limit e))
    split false e = sym (lt-ltb limit v (leb-false v limit e))

-- a test that is made only where `on`
pub not_where : (on ok bad : Bool) → not ok ≡ bad → not (not on || ok) ≡ (on && bad)
not_where true ok bad e = e
not_where false ok bad e = refl

pub twice : (b : Bool) → not (not b) ≡ b
twice true = refl
twice false = refl

-- the default advance, with slices to come, stays in the grid
pub not-inside : (deltas more : Bool) (t tiles : ℕ) → not (not (not deltas && more) || ltb t tiles) ≡ (not deltas && (more && leb tiles t))
not-inside true more t tiles = refl
not-inside false true t tiles = not-under t tiles
not-inside false false t tiles = refl

pub same_flag : (a b : Bool) → beq a b ≡ true → a ≡ b
same_flag true true e = refl
same_flag true false e = absurd (not-true e)
same_flag false true e = absurd (not-true e)
same_flag false false e = refl

-- a pair that grows to the left: the answers for a list of checks, one for each
infixr 6 ◌⨟◌
abbrev pub ◌⨟◌ : {A B : Type 0} → A → B → A × B
◌⨟◌ a b = (a, b)
