-- What holds at the head of a loop that clears a table, of any kind of element.
use mathlib.Core.Path.{◌≡◌, refl, ◌∙◌}
use mathlib.Core.List.{List, ◌++◌}
use Prim.Native.Nat.{ℕ, ◌+◌, ◌<◌, ◌≤◌}
use native.Mathlib.Omega.{arith}
use lib.ListN.{length, set, drop, length-set}
use Rattle.tables.specs.Tables.{blank, blank-begins, blank-grows, blank-whole}

pub record Clearing {A : Type 0} (v : A) (old new : List A) (i : ℕ) : Type 0 where
  pub inside : i ≤ length old
  pub front : new ≡ blank i v ++ drop i old
  pub same : length new ≡ length old

pub begins : {A : Type 0} (v : A) (old : List A) → Clearing v old old 0
begins v old = record { inside = omega arith; front = blank-begins v old; same = refl }

pub goes_on : {A : Type 0} (v : A) (old new : List A) (i : ℕ) → Clearing v old new i → i < length old → Clearing v old (set new i v) (i + 1)
goes_on v old new i h l =
    record { inside = omega arith; front = rw h.front (blank-grows i v old l); same = length-set new i v ∙ h.same }

pub ends : {A : Type 0} (v : A) (old new : List A) (i : ℕ) → Clearing v old new i → length old ≤ i → new ≡ blank (length old) v
ends v old new i h l = h.front ∙ blank-whole i v old (omega (arith, h.inside))
