-- What a decoder makes of a list of bits that starts with a code, whatever follows: so no code is the front part of another.
use Rattle.std.specs.Prelude.{ℕ, zero, suc, ◌+◌, ◌-◌, ◌*◌, ◌/◌, ◌%◌, ◌^◌, ◌≤◌, ◌<◌, ◌≡◌, refl, List, [], ◌∷◌, ◌++◌, ℤ, replicate, take, drop}
use Rattle.std.proofs.Common.{sym, ap, ◌∙◌, append_assoc, mod-eq_of_lt, pow-suc, one-mul, arith, take_at, drop_at}
use Rattle.std.proofs.lemmas.List.{length-replicate}
use Rattle.std.proofs.Math.Pow.{high}
use Rattle.codes.specs.Bits.{to_bits, to_bits-length, number, number-to_bits}
use Rattle.codes.specs.ExpGolomb.{floor_log2, log2_between, ue_code, signed_of, code_num, signed-code, se_code}

-- leading_zero_bits of 9.2: the zeros in front of the first 1
unfoldable pub leading_zero_bits : List ℕ → ℕ
leading_zero_bits [] = 0
leading_zero_bits (zero ∷ bs) = suc (leading_zero_bits bs)
leading_zero_bits (suc b ∷ bs) = 0

-- code_num of 9.2: leading_zero_bits zeros, and as many bits and one more as a number, less 1
unfoldable pub ue_value : List ℕ → ℕ
ue_value bs = number (take (suc (leading_zero_bits bs)) (drop (leading_zero_bits bs) bs)) - 1

leading_run : (k : ℕ) (bs : List ℕ) → leading_zero_bits (replicate k 0 ++ (1 ∷ bs)) ≡ k
unfolding leading_zero_bits
leading_run zero bs = refl
leading_run (suc k) bs = ap suc (leading_run k bs)

-- the first bit of a number is 1
top_bit : (k n : ℕ) → 2 ^ k ≤ n → n < 2 ^ suc k → to_bits (suc k) n ≡ 1 ∷ to_bits k n
unfolding to_bits
top_bit k n a b =
    let s : n ≡ 1 * 2 ^ k + (n - 2 ^ k) = omega (arith, one-mul (2 ^ k)) in
    let d : n / 2 ^ k ≡ 1 = ap (λ (x : ℕ). x / 2 ^ k) s ∙ high 1 k (omega (arith, pow-suc 2 k)) in
    ap (λ (x : ℕ). x % 2 ∷ to_bits k n) d

pub code-zeros : (v : ℕ) (rest : List ℕ) → leading_zero_bits (ue_code v ++ rest) ≡ floor_log2 (v + 1)
unfolding ue_code
code-zeros v rest =
    let k = floor_log2 (v + 1) in
    let b = log2_between (v + 1) (omega arith) in
    ap (λ (l : List ℕ). leading_zero_bits ((replicate k 0 ++ l) ++ rest)) (top_bit k (v + 1) b.0 b.1)
    ∙ ap leading_zero_bits (append_assoc (replicate k 0) (1 ∷ to_bits k (v + 1)) rest) ∙ leading_run k (to_bits k (v + 1) ++ rest)

-- a code, whatever follows it, is decoded to its value
pub ue_decodes : (v : ℕ) (rest : List ℕ) → ue_value (ue_code v ++ rest) ≡ v
unfolding ue_value ue_code
ue_decodes v rest =
    let k = floor_log2 (v + 1) in
    let b = log2_between (v + 1) (omega arith) in
    let z : leading_zero_bits ((replicate k 0 ++ to_bits (suc k) (v + 1)) ++ rest) ≡ k = code-zeros v rest in
    let d : drop k ((replicate k 0 ++ to_bits (suc k) (v + 1)) ++ rest) ≡ to_bits (suc k) (v + 1) ++ rest =
    ap (drop k) (append_assoc (replicate k 0) (to_bits (suc k) (v + 1)) rest) ∙ drop_at (replicate k 0) _ k (length-replicate k 0) in
    let t : take (suc k) (to_bits (suc k) (v + 1) ++ rest) ≡ to_bits (suc k) (v + 1) = take_at (to_bits (suc k) (v + 1)) rest (suc k) (to_bits-length (suc k) (v + 1)) in
    let n : number (to_bits (suc k) (v + 1)) ≡ v + 1 = number-to_bits (suc k) (v + 1) ∙ mod-eq_of_lt b.1 in
    let e : v + 1 - 1 ≡ v = omega arith in
    rw (z, d, t, n) e

-- no ue(v) code is the front part of another
pub ue_prefix_free : (v w : ℕ) (xs ys : List ℕ) → ue_code v ++ xs ≡ ue_code w ++ ys → v ≡ w
ue_prefix_free v w xs ys e = sym (ue_decodes v xs) ∙ ap ue_value e ∙ ue_decodes w ys

-- nor is any se(v) code
pub se_prefix_free : (v w : ℤ) (xs ys : List ℕ) → se_code v ++ xs ≡ se_code w ++ ys → v ≡ w
unfolding se_code
se_prefix_free v w xs ys e = sym (signed-code v) ∙ ap signed_of (ue_prefix_free (code_num v) (code_num w) xs ys e) ∙ signed-code w
