use lib.Dec.{leb}
use mathlib.Core.Path.{refl, ◌∙◌}
use mathlib.Core.Bool.{◌||◌}
use Rattle.std.specs.List.{list_any}
use Rattle.std.proofs.Common.{rules, tests}
use Rattle.std.proofs.lemmas.Iterator.{YieldsList-from_slice}
use Rattle.std.proofs.lemmas.Iterator.Search.{any_from_yields_List}
use Rattle.std.proofs.lemmas.List.Recursion.{same_from_clauses}
use Prim.Native.Nat.{ℕ}
use mathlib.Core.List.{List}
use mathlib.Core.Path.{◌≡◌}
use Rattle.partition.specs.Entry.{some_at_least}
use Rattle.tile_sizes.proofs.some_at_least.Goals as goal

as_std : (limit : ℕ) (xs : List ℕ) → list_any (leb limit) xs ≡ some_at_least limit xs
unfolding some_at_least
as_std limit xs = same_from_clauses (list_any (leb limit)) (some_at_least limit) (λ x b. leb limit x || b) refl (λ _ _. refl) (λ _ _. refl) xs

pub returns : goal.returns
returns c =
    let xs = c.args.sizes_minus1.now in
    any_from_yields_List (leb c.args.limit.0) _ _ _ c.any.ensures.ran (YieldsList-from_slice xs cc) (λ x b q k. search (rules, tests)) ∙ as_std c.args.limit.0 xs
