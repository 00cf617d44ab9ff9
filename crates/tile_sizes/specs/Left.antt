-- The sizes of an axis one after the other: the next of them, and those that are left.
use Rattle.std.specs.Prelude.{◌≡◌, refl, List, [], ◌∷◌, ◌++◌, Bool, true, false, ℕ, zero, suc, ◌+◌, ◌-◌, ◌/◌, ◌%◌, ◌≤◌, ◌<◌, min, ltb, length, get_or, drop, replicate}
use Rattle.std.proofs.Common.{◌∙◌, mod-eq_of_lt, add-one, arith, ltb-true, ltb-false, length-append}
use Rattle.std.proofs.Math.Nat.{div-eq-sub-div, mod-eq-sub-mod, div-eq_of_lt, zero-div, zero-mod, div-zero, mod-zero}
use Rattle.std.proofs.lemmas.List.{length-replicate}
use Rattle.partition.specs.Sizes.{sum, explicit_sizes, uniform_size, tail_size, uniform_sizes, axis_sizes, Fit}
use Rattle.partition.proofs.Sizes.{length-sizes}
use Rattle.tile_sizes.specs.Answers.{next_size}

-- ---- one size after the other

-- The sizes that are left: the explicit ones from here on, and what fills the rest.
unfoldable pub sizes_left : List ℕ → ℕ → ℕ → List ℕ
sizes_left es u remaining = explicit_sizes es ++ uniform_sizes u (remaining - sum (explicit_sizes es))

pub none_left : (u : ℕ) → uniform_sizes u 0 ≡ []
unfolding uniform_sizes tail_size
none_left u = rw (zero-div u, zero-mod u)

pub uniform_step : (u n : ℕ) → 1 ≤ u → 1 ≤ n → uniform_sizes u n ≡ min u n ∷ uniform_sizes u (n - min u n)
unfolding uniform_sizes tail_size
uniform_step u n hu hn = split (ltb n u) refl
  where
    one : n < u → (r : ℕ) → r ≡ n → replicate (r / u) u ++ tail_size (r % u) ≡ r ∷ []
    one h zero e = absurd (omega arith)
    one h (suc r) e = let l : suc r < u = omega arith in rw (div-eq_of_lt l, mod-eq_of_lt l)

    split : (b : Bool) → ltb n u ≡ b → uniform_sizes u n ≡ min u n ∷ uniform_sizes u (n - min u n)
    split true q =
        let h : n < u = ltb-true n u q in
        let m : min u n ≡ n = omega arith in
        let z : n - n ≡ 0 = omega arith in
        rw (m, z, zero-div u, zero-mod u) (one h n refl)
    split false q =
        let h : u ≤ n = ltb-false n u q in
        let m : min u n ≡ u = omega arith in
        let d : n / u ≡ suc ((n - u) / u) = div-eq-sub-div hu h ∙ add-one ((n - u) / u) in
        rw (m, d, mod-eq-sub-mod h)

pub next_fits : (es : List ℕ) (u n : ℕ) → 1 ≤ u → 1 ≤ n → Fit es n → (1 ≤ next_size es u n) × (next_size es u n ≤ n) × Fit (drop 1 es) (n - next_size es u n)
unfolding next_size sum explicit_sizes
next_fits [] u n hu hn f = (omega arith, omega arith, omega arith)
next_fits (e ∷ es) u n hu hn f = (omega arith, omega arith, omega arith)

pub next-left : (es : List ℕ) (u n : ℕ) → 1 ≤ u → 1 ≤ n → Fit es n → sizes_left es u n ≡ next_size es u n ∷ sizes_left (drop 1 es) u (n - next_size es u n)
unfolding sizes_left next_size sum explicit_sizes
next-left [] u n hu hn f =
    let z : n - 0 ≡ n = omega arith in
    let y : n - min u n - 0 ≡ n - min u n = omega arith in
    rw (z, y) (uniform_step u n hu hn)
next-left (e ∷ es) u n hu hn f = let z : n - (suc e + sum (explicit_sizes es)) ≡ n - suc e - sum (explicit_sizes es) = omega arith in rw z

pub end-left : (es : List ℕ) (u n : ℕ) → n ≡ 0 → Fit es n → sizes_left es u n ≡ []
unfolding sizes_left sum explicit_sizes
end-left [] u n h f = let z : n - 0 ≡ 0 = omega arith in rw z (none_left u)
end-left (e ∷ es) u n h f = absurd (omega arith)

-- ---- the uniform size, read off the end

pub last-is : (es : List ℕ) → 1 ≤ length es → get_or es (length es - 1) 0 + 1 ≡ uniform_size es
unfolding uniform_size
last-is [] h = absurd (omega arith)
last-is (e ∷ []) h = omega arith
last-is (e ∷ f ∷ es) h = let z : suc (suc (length es)) - 1 ≡ suc (suc (length es) - 1) = omega arith in rw z (last-is (f ∷ es) (omega arith))

uniform_fits : (es : List ℕ) (total : ℕ) → 1 ≤ length es → Fit es total → uniform_size es ≤ total
unfolding uniform_size sum explicit_sizes
uniform_fits [] total h f = absurd (omega arith)
uniform_fits (e ∷ []) total h f = omega arith
uniform_fits (e ∷ k ∷ es) total h f = uniform_fits (k ∷ es) total (omega arith) (omega arith)

pub last_fits : (es : List ℕ) (total : ℕ) → 1 ≤ length es → Fit es total → get_or es (length es - 1) 0 + 1 ≤ total
last_fits es total h f = omega (arith, last-is es h, uniform_fits es total h f)

-- ---- how many

tail-length : (r : ℕ) → length (tail_size r) ≡ min 1 r
unfolding tail_size
tail-length zero = omega arith
tail-length (suc r) = omega arith

pub uniform_length : (u n : ℕ) → length (uniform_sizes u n) ≡ n / u + min 1 (n % u)
unfolding uniform_sizes
uniform_length u n = omega (arith, length-append (replicate (n / u) u) (tail_size (n % u)), length-replicate (n / u) u, tail-length (n % u))

-- the explicit ones, and those that fill the rest
pub axis-length : (es : List ℕ) (total : ℕ) → length (axis_sizes es total) ≡ length es + length (uniform_sizes (uniform_size es) (total - sum (explicit_sizes es)))
axis-length es total = omega (arith, length-sizes es total, uniform_length (uniform_size es) (total - sum (explicit_sizes es)))

pub none-length : (u n : ℕ) → n ≡ 0 → length (uniform_sizes u n) ≡ 0
none-length u n e = rw (e, none_left u)

-- a uniform size of 0 leaves the rest one size
pub tail_alone : (u n : ℕ) → u ≡ 0 → (n ≡ 0 → ⊥) → 1 ≡ length (uniform_sizes u n)
tail_alone u n e h = rw e (omega (arith, uniform_length 0 n, div-zero n, mod-zero n, h))
