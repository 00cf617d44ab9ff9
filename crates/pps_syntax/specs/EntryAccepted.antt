-- One entry of the slice loop: where writing it is refused nowhere and reading could have given it, it passes every check of the questions.
use Prim.Native.Nat.{ℕ, zero, suc, ◌<◌}
use Rattle.std.specs.Prelude.{◌≡◌, false}
use Rattle.std.proofs.Math.Path.{refl}
use mathlib.Core.List.{List, [], ◌∷◌}
use Rattle.std.proofs.Math.Dec.{ltb, leb}
use Rattle.codes.specs.Symbols.{refusal_in, check}
use Rattle.partition.specs.Entry.{some_at_least}
use Rattle.pps_syntax.specs.SameTests.{passes, not-under}
use Rattle.syntax.specs.Elements.{ue, limited, check-held}
use Rattle.syntax.specs.Lists.{many, not-true}
use Rattle.syntax.specs.Round.{refusal_parts}

-- ---- from an element that was accepted to a check that passes
-- numbers below a limit
pub limited-below : (limit v n : ℕ) (l : 0 < n) → refusal_in ((limited ue (λ x. ltb x limit) n l).symbols v) ≡ 0 → leb limit v ≡ false
limited-below limit v n l h =
    passes (ltb v limit) (leb limit v) (not-under v limit) (check-held (ltb v limit) n l (refusal_parts (check (ltb v limit) n) (ue.symbols v) h).0)

pub all-below : (k limit : ℕ) (vs : List ℕ) (n m : ℕ) (l : 0 < n) → 0 < m → refusal_in ((many k (limited ue (λ x. ltb x limit) n l) m).symbols vs) ≡ 0 → some_at_least limit vs ≡ false
unfolding many some_at_least
all-below k limit [] n m l o h = refl
all-below zero limit (v ∷ vs) n m l o h = absurd (not-true (check-held false m o h))
all-below (suc k) limit (v ∷ vs) n m l o h =
    let a = refusal_parts ((limited ue (λ x. ltb x limit) n l).symbols v) ((many k (limited ue (λ x. ltb x limit) n l) m).symbols vs) h in
    rw (limited-below limit v n l a.0) (all-below k limit vs n m l o a.1)
