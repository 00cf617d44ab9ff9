-- A rule of a constant table, at each of its entries, from one test that is computed over the whole table.
use Rattle.std.proofs.Common.{◌∙◌, subst, sym, add-zero, zero-add, add-suc, suc-add, le_of_suc-le-suc, not-suc-le-zero}
use Rattle.std.specs.Prelude.{Bool, true, false, ◌&&◌, List, [], ◌∷◌, ℕ, zero, suc, ◌+◌, ◌<◌, T, length, get_or}

-- the test passes at each entry and its place, the places counted from i on
abbrev pub every : (ℕ → ℕ → Bool) → ℕ → List ℕ → Bool
every test i [] = true
every test i (x ∷ xs) = test i x && every test (suc i) xs

head_of : (a b : Bool) → T (a && b) → T a
head_of true b t = tt
head_of false b t = t

tail_of : (a b : Bool) → T (a && b) → T b
tail_of true b t = t
tail_of false b t = absurd t

rule_from : (test : ℕ → ℕ → Bool) (xs : List ℕ) (i : ℕ) → T (every test i xs) → (k : ℕ) → k < length xs → T (test (i + k) (get_or xs k 0))
rule_from test [] i t k h = absurd (not-suc-le-zero h)
rule_from test (x ∷ xs) i t zero h = subst (λ (m : ℕ). T (test m x)) (sym (add-zero i)) (head_of (test i x) (every test (suc i) xs) t)
rule_from test (x ∷ xs) i t (suc k) h =
    subst (λ (m : ℕ). T (test m (get_or xs k 0))) (suc-add i k ∙ sym (add-suc i k))
    (rule_from test xs (suc i) (tail_of (test i x) (every test (suc i) xs) t) k (le_of_suc-le-suc h))

pub rule_at : (test : ℕ → ℕ → Bool) (xs : List ℕ) → T (every test 0 xs) → (k : ℕ) → k < length xs → T (test k (get_or xs k 0))
rule_at test xs t k h = subst (λ (m : ℕ). T (test m (get_or xs k 0))) (zero-add k) (rule_from test xs 0 t k h)
