-- Tables by value: what they hold, then zeros.
use Rattle.std.specs.Prelude.{ℕ, zero, suc, ◌+◌, ◌-◌, ◌≤◌, ◌≡◌, refl, List, ◌++◌, length, drop, replicate}
use Rattle.std.proofs.Common.{ap, ◌∙◌, arith, length-append}
use Rattle.std.proofs.lemmas.List.Edits.{sets, sets-eq}

unfoldable pub zeros : ℕ → List ℕ
zeros n = replicate n 0

-- A table of n places: these numbers, then zeros.
unfoldable pub table_of : ℕ → List ℕ → List ℕ
table_of n ss = ss ++ zeros (n - length ss)

drop-zeros : (n k : ℕ) → drop k (zeros n) ≡ zeros (n - k)
unfolding zeros
drop-zeros n zero = let e : n - 0 ≡ n = omega arith in rw e
drop-zeros zero (suc k) = let e : 0 - suc k ≡ 0 = omega arith in rw e
drop-zeros (suc n) (suc k) = let e : suc n - suc k ≡ n - k = omega arith in rw e (drop-zeros n k)

-- a table of zeros, its front written over
pub filled-table : (n : ℕ) (ss out : List ℕ) → out ≡ ss ++ drop (length ss) (replicate n 0) → out ≡ table_of n ss
unfolding table_of zeros
filled-table n ss out e = e ∙ ap (λ (l : List ℕ). ss ++ l) (drop-zeros n (length ss))

zeros-length : (n : ℕ) → length (zeros n) ≡ n
unfolding zeros
zeros-length zero = refl
zeros-length (suc n) = ap suc (zeros-length n)

-- .. place by place
pub filled-places : (n : ℕ) (ss : List ℕ) → length ss ≤ n → sets (zeros n) 0 ss ≡ table_of n ss
unfolding table_of
filled-places n ss h =
    let z : 0 + length ss ≡ length ss = omega arith in
    sets-eq ss (zeros n) 0 (omega (arith, zeros-length n)) ∙ rw z (ap (λ (l : List ℕ). ss ++ l) (drop-zeros n (length ss)))

pub table-length : (n : ℕ) (ss : List ℕ) → length ss ≤ n → length (table_of n ss) ≡ n
unfolding table_of
table-length n ss h = omega (arith, length-append ss (zeros (n - length ss)), zeros-length (n - length ss))
