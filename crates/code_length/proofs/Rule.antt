-- The length rule as a test of a table's entry.
use Prim.Native.Nat.{ℕ, ◌<◌}
use mathlib.Core.Path.{◌≡◌}
use mathlib.Core.Bool.{Bool}
use lib.Dec.{eqb, T, eqb→eq}
use lib.ListN.{length, get_or}
use mathlib.Core.List.{List}
use Rattle.tables.specs.Rule.{every, rule_at}
use Rattle.codes.specs.ExpGolomb.{ue_length}

unfoldable pub is_length : ℕ → ℕ → Bool
is_length v bits = eqb bits (ue_length v)

pub entry-is : (table : List ℕ) (v : ℕ) → v < length table → T (every is_length 0 table) → get_or table v 0 ≡ ue_length v
unfolding is_length
entry-is table v h t = eqb→eq (get_or table v 0) (ue_length v) (rule_at is_length table t v h)
