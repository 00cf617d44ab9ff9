-- Writing's refusals beside a list of checks: what each element and test of a description refuses with, and one step for each of them.
use Rattle.std.specs.Prelude.{ℕ, ◌≤◌, ◌<◌, ◌≡◌, refl, List, [], ◌∷◌, ◌++◌, Bool, true, false, not, cond, ◌&&◌, ◌||◌, ltb, leb, length}
use Rattle.std.proofs.Common.{ap, ap₂, ◌∙◌, arith, leb-false, lt-ltb, ne_eqb}
use Rattle.codes.specs.Coded.{ue_symbols}
use Rattle.codes.specs.ExpGolomb.{ue_code}
use Rattle.codes.specs.Symbols.{Symbol, first, first-left, first-right, refusal_in, check, refusal-append, refusal-check, refusal-putting}
use Rattle.partition.specs.Checks.{Check, refuse, Numbered}
use Rattle.partition.specs.Entry.{some_at_least}
use Rattle.pps_syntax.specs.SameTests.{not-under}
use Rattle.syntax.specs.Element.{ElementOf}
use Rattle.syntax.specs.Elements.{ue, limited, Same, or_else, checked-refusal}
use Rattle.syntax.proofs.Elements.{absent}
use Rattle.syntax.specs.Lists.{many, none}

-- a refusal stays
first_stays : (n m : ℕ) → 0 < n → first n m ≡ n
unfolding first
first_stays n m l = rw (ne_eqb n 0 (λ e. omega arith))

-- ---- checks, and what follows them
-- The number of the first check that fails; where none does, that of what comes behind them.
unfoldable pub first_number : List Check → ℕ → ℕ
first_number [] behind = behind
first_number (c ∷ cs) behind = cond c.bad c.number (first_number cs behind)

-- at the end of the checks, and of writing too
pub number-none : (behind : ℕ) → behind ≡ first_number [] behind
unfolding first_number
number-none behind = refl

pub ends : refusal_in [] ≡ first_number [] 0
ends = refusal-putting [] ∙ number-none 0

-- first these checks' number, then another's
pub number-first : (cs : List Check) → Numbered cs → (behind : ℕ) → first (first_number cs 0) behind ≡ first_number cs behind
unfolding first_number Numbered
number-first [] l m = first-left m
number-first (c ∷ cs) l m = split c.bad (number-first cs l.1 m)
  where
    split : (b : Bool) → first (first_number cs 0) m ≡ first_number cs m → first (cond b c.number (first_number cs 0)) m ≡ cond b c.number (first_number cs m)
    split true ih = first_stays c.number m l.0
    split false ih = ih

-- ---- one step
-- symbols that refuse just where a check fails; behind them its failure is ruled out
pub step : (xs ys : List Symbol) (n : ℕ) (bad : Bool) (cs : List Check) (behind : ℕ) → 0 < n → refusal_in xs ≡ cond bad n 0
    → (bad ≡ false → refusal_in ys ≡ first_number cs behind) → refusal_in (xs ++ ys) ≡ first_number (refuse n bad ∷ cs) behind
unfolding first_number
step xs ys n bad cs m l e k = refusal-append xs ys ∙ ap (λ (x : ℕ). first x (refusal_in ys)) e ∙ split bad k
  where
    split : (b : Bool) → (b ≡ false → refusal_in ys ≡ first_number cs m) → first (cond b n 0) (refusal_in ys) ≡ cond b n (first_number cs m)
    split true k = first_stays n (refusal_in ys) l
    split false k = first-left (refusal_in ys) ∙ k refl

-- symbols that refuse nothing
pub quiet : (xs ys : List Symbol) (n : ℕ) → refusal_in xs ≡ 0 → refusal_in ys ≡ n → refusal_in (xs ++ ys) ≡ n
quiet xs ys n e k = refusal-append xs ys ∙ ap (λ (x : ℕ). first x (refusal_in ys)) e ∙ first-left (refusal_in ys) ∙ k

-- symbols behind which nothing is refused
pub then_quiet : (xs ys : List Symbol) (n : ℕ) → refusal_in ys ≡ 0 → refusal_in xs ≡ n → refusal_in (xs ++ ys) ≡ n
then_quiet xs ys n e k = refusal-append xs ys ∙ ap (λ (x : ℕ). first (refusal_in xs) x) e ∙ first-right (refusal_in xs) ∙ k

-- ---- what elements and tests refuse with
pub check-refuses : (ok : Bool) (n : ℕ) (bad : Bool) → not ok ≡ bad → refusal_in (check ok n) ≡ cond bad n 0
check-refuses ok n bad e = refusal-check ok n ∙ rw (← e) (turned ok)
  where
    turned : (b : Bool) → cond b 0 n ≡ cond (not b) n 0
    turned true = refl
    turned false = refl

pub ue-quiet : (v : ℕ) → v < 4294967295 → refusal_in (ue_symbols v) ≡ 0
ue-quiet v h = checked-refusal (ltb v 4294967295) 25 (ue_code v) ∙ rw (lt-ltb v 4294967295 h)

-- a code behind a test, where the test leaves only values that have one
pub limited-refuses : {still : Bool} (e : ElementOf still ℕ) (ok : ℕ → Bool) (n v : ℕ) (l : 0 < n) (bad : Bool) → not (ok v) ≡ bad → (bad ≡ false → refusal_in (e.symbols v) ≡ 0)
    → refusal_in ((limited e ok n l).symbols v) ≡ cond bad n 0
limited-refuses e ok n v l bad q k = refusal-append (check (ok v) n) (e.symbols v) ∙ ap (λ (x : ℕ). first x (refusal_in (e.symbols v))) (check-refuses (ok v) n bad q) ∙ split bad k
  where
    split : (b : Bool) → (b ≡ false → refusal_in (e.symbols v) ≡ 0) → first (cond b n 0) (refusal_in (e.symbols v)) ≡ cond b n 0
    split true k = first_stays n (refusal_in (e.symbols v)) l
    split false k = first-left (refusal_in (e.symbols v)) ∙ k refl

pub below-refuses : (limit n v : ℕ) (l : 0 < n) → limit ≤ 4294967295 → refusal_in ((limited ue (λ x. ltb x limit) n l).symbols v) ≡ cond (leb limit v) n 0
below-refuses limit n v l h = limited-refuses ue (λ x. ltb x limit) n v l (leb limit v) (not-under v limit) (λ q. ue-quiet v (omega (arith, leb-false limit v q)))

-- as many of them as are asked for
pub many-refuses : (limit n m : ℕ) (l : 0 < n) (vs : List ℕ) → limit ≤ 4294967295 → refusal_in ((many (length vs) (limited ue (λ x. ltb x limit) n l) m).symbols vs) ≡ cond (some_at_least limit vs) n 0
unfolding many some_at_least
many-refuses limit n m l [] h = refusal-putting []
many-refuses limit n m l (v ∷ vs) h =
    refusal-append ((limited ue (λ x. ltb x limit) n l).symbols v) ((many (length vs) (limited ue (λ x. ltb x limit) n l) m).symbols vs)
    ∙ ap₂ first (below-refuses limit n v l h) (many-refuses limit n m l vs h) ∙ split (leb limit v)
  where
    split : (b : Bool) → first (cond b n 0) (cond (some_at_least limit vs) n 0) ≡ cond (b || some_at_least limit vs) n 0
    split true = first_stays n (cond (some_at_least limit vs) n 0) l
    split false = first-left (cond (some_at_least limit vs) n 0)

-- an element where `on`, and one that passes over everything elsewhere
pub or-refuses : {still : Bool} {A : Type 0} (on : Bool) (x y : ElementOf still A) (v : A) (n : ℕ) (bad : Bool) → (on ≡ true → refusal_in (x.symbols v) ≡ cond bad n 0) → refusal_in (y.symbols v) ≡ 0
    → refusal_in ((or_else on x y).symbols v) ≡ cond (on && bad) n 0
unfolding or_else
or-refuses true x y v n bad k q = k refl
or-refuses false x y v n bad k q = q

pub or_quiet : {still : Bool} {A : Type 0} (on : Bool) (x y : ElementOf still A) (v : A) → (on ≡ true → refusal_in (x.symbols v) ≡ 0) → refusal_in (y.symbols v) ≡ 0 → refusal_in ((or_else on x y).symbols v) ≡ 0
unfolding or_else
or_quiet true x y v k q = k refl
or_quiet false x y v k q = q

-- a test with no number
pub no_number : (ok : Bool) → ◌≡◌ {A = ℕ} (cond ok 0 0) 0
no_number true = refl
no_number false = refl

pub absent-quiet : {A : Type 0} (same : Same A) (value v : A) → refusal_in ((absent same value 0).symbols v) ≡ 0
absent-quiet same value v = refusal-check (same.test v value) 0 ∙ no_number (same.test v value)

pub none-quiet : {A : Type 0} (vs : List A) → refusal_in ((none 0).symbols vs) ≡ 0
none-quiet [] = refusal-putting []
none-quiet (v ∷ vs) = refusal-check false 0
