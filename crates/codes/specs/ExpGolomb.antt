-- The Exp-Golomb codes ue(v) and se(v) of H.266 9.2, of any width, as lists of bits.
use Rattle.std.specs.Prelude.{ℕ, zero, suc, ◌+◌, ◌-◌, ◌*◌, ◌/◌, ◌%◌, ◌^◌, ◌≤◌, ◌<◌, ◌≡◌, refl, List, ◌++◌, Bool, true, false, cond, ltb, eqb, ℤ, pos, negsuc, neg_ℤ, length, replicate}
use Rattle.std.proofs.Common.{sym, ap, ◌∙◌, pow-suc, arith, length-append, pow_pos, pow_mono, lt-ltb, le-ltb, ltb-true, ltb-false, eqb-true}
use Rattle.std.proofs.Math.Nat.{div-eq_of_lt}
use Rattle.std.proofs.lemmas.List.{length-replicate}
use Rattle.std.proofs.lemmas.Bool.{eqb-false}
use Rattle.codes.specs.Bits.{to_bits, to_bits-length, to_bits-append, to_bits-zero, Binary, binary-append, binary-to_bits, binary-zeros}

-- how often n is halved until 1 is left, at most f times
unfoldable pub halvings : ℕ → ℕ → ℕ
halvings zero n = 0
halvings (suc f) n = elim (ltb n 2) [ true ↦ 0 | false ↦ suc (halvings f (n / 2)) ]

-- Floor( Log2( n ) ) of H.266 5.8, 0 for n = 0
unfoldable pub floor_log2 : ℕ → ℕ
floor_log2 n = halvings n n

-- the code of v in ue(v): v + 1, behind one zero fewer than it has bits
unfoldable pub ue_code : ℕ → List ℕ
ue_code v = replicate (floor_log2 (v + 1)) 0 ++ to_bits (suc (floor_log2 (v + 1))) (v + 1)

-- the number of bits of that code
unfoldable pub ue_length : ℕ → ℕ
ue_length v = 2 * floor_log2 (v + 1) + 1

-- table 9-3: the value of se(v) whose code_num is k is (−1)^(k+1) Ceil(k ÷ 2)
unfoldable pub signed_of : ℕ → ℤ
signed_of k = cond (eqb (k % 2) 1) (pos (k / 2 + 1)) (neg_ℤ (pos (k / 2)))

-- and back: 0 is 0, k > 0 is 2k − 1, −k is 2k
unfoldable pub code_num : ℤ → ℕ
code_num (pos n) = 2 * n - 1
code_num (negsuc n) = 2 * (n + 1)

-- the code of v in se(v)
unfoldable pub se_code : ℤ → List ℕ
se_code v = ue_code (code_num v)

-- ---- Floor( Log2( n ) )
halvings_stop : (f n : ℕ) → n < 2 → halvings (suc f) n ≡ 0
unfolding halvings
halvings_stop f n h = rw (lt-ltb n 2 h, halvings)

halvings-go : (f n : ℕ) → 2 ≤ n → halvings (suc f) n ≡ suc (halvings f (n / 2))
unfolding halvings
halvings-go f n h = rw (le-ltb n 2 h, halvings)

halvings-is : (f k n : ℕ) → k ≤ f → 2 ^ k ≤ n → n < 2 ^ suc k → halvings f n ≡ k
unfolding halvings
halvings-is zero k n h a b = omega arith
halvings-is (suc f) zero n h a b = halvings_stop f n b
halvings-is (suc f) (suc k) n h a b =
    let p : 2 ^ suc k ≡ 2 ^ k * 2 = pow-suc 2 k in
    let q : 2 ^ suc (suc k) ≡ 2 ^ suc k * 2 = pow-suc 2 (suc k) in
    let l : 2 ≤ n = omega (arith, pow_pos k) in
    halvings-go f n l ∙ ap suc (halvings-is f k (n / 2) (omega arith) (omega arith) (omega arith))

index-lt : (k : ℕ) → k < 2 ^ k
index-lt zero = omega arith
index-lt (suc k) = omega (arith, pow-suc 2 k, index-lt k)

-- the one k with 2^k ≤ n < 2^(k + 1)
pub log2_is : (n k : ℕ) → 2 ^ k ≤ n → n < 2 ^ suc k → floor_log2 n ≡ k
unfolding floor_log2
log2_is n k a b = halvings-is n k n (omega (arith, index-lt k)) a b

abbrev Between : ℕ → ℕ → Type 0
Between k n = (2 ^ k ≤ n) × (n < 2 ^ suc k)

halvings-between : (f n : ℕ) → 0 < n → n ≤ f → Between (halvings f n) n
halvings-between zero n h l = absurd (omega arith)
halvings-between (suc f) n h l = split (halvings-between f (n / 2)) (ltb n 2) refl
  where
    split : (0 < n / 2 → n / 2 ≤ f → Between (halvings f (n / 2)) (n / 2)) → (t : Bool) → ltb n 2 ≡ t → Between (halvings (suc f) n) n
    split half true e = rw (halvings_stop f n (ltb-true n 2 e)) (omega arith, omega (arith, ltb-true n 2 e))
    split half false e =
        let g : 2 ≤ n = ltb-false n 2 e in
        let b = half (omega arith) (omega arith) in
        let k = halvings f (n / 2) in
        rw (halvings-go f n g) (omega (arith, b.0, pow-suc 2 k), omega (arith, b.1, pow-suc 2 (suc k)))

pub log2_between : (n : ℕ) → 0 < n → (2 ^ floor_log2 n ≤ n) × (n < 2 ^ suc (floor_log2 n))
unfolding floor_log2
log2_between n h = halvings-between n n h (omega arith)

pub log2_below : (n k : ℕ) → 0 < n → n < 2 ^ k → floor_log2 n < k
log2_below n k h l = split (ltb (floor_log2 n) k) refl
  where
    split : (t : Bool) → ltb (floor_log2 n) k ≡ t → floor_log2 n < k
    split true e = ltb-true (floor_log2 n) k e
    split false e = absurd (omega (arith, log2_between n h, pow_mono {i = k} {j = floor_log2 n} (ltb-false (floor_log2 n) k e)))

-- ---- code lengths, for every width: 2^k ≤ v + 1 < 2^(k + 1) takes 2k + 1 bits
pub ue-code-length : (v : ℕ) → length (ue_code v) ≡ ue_length v
unfolding ue_code ue_length
ue-code-length v =
    let k = floor_log2 (v + 1) in
    simp (length-append, length-replicate, to_bits-length) (omega arith)

pub ue-length-is : (k v : ℕ) → 2 ^ k ≤ v + 1 → v + 1 < 2 ^ suc k → ue_length v ≡ 2 * k + 1
unfolding ue_length
ue-length-is k v a b = rw (log2_is (v + 1) k a b)

pub ue-code-takes : (k v : ℕ) → 2 ^ k ≤ v + 1 → v + 1 < 2 ^ suc k → length (ue_code v) ≡ 2 * k + 1
ue-code-takes k v a b = ue-code-length v ∙ ue-length-is k v a b

-- the code is v + 1 in as many bits as the code has
pub ue-code-number : (k v : ℕ) → 2 ^ k ≤ v + 1 → v + 1 < 2 ^ suc k → ue_code v ≡ to_bits (k + suc k) (v + 1)
unfolding ue_code
ue-code-number k v a b =
    let z : (v + 1) / 2 ^ suc k ≡ 0 = div-eq_of_lt b in
    rw (log2_is (v + 1) k a b)
    (sym (to_bits-append k (suc k) (v + 1) ∙ ap (λ (x : ℕ). to_bits k x ++ to_bits (suc k) (v + 1)) z ∙ ap (λ (l : List ℕ). l ++ to_bits (suc k) (v + 1)) (to_bits-zero k)))

pub ue-binary : (v : ℕ) → Binary (ue_code v)
unfolding ue_code
ue-binary v =
    let k = floor_log2 (v + 1) in
    binary-append (replicate k 0) (to_bits (suc k) (v + 1)) (binary-zeros k) (binary-to_bits (suc k) (v + 1))

-- ---- se(v) through its code number
even_code : (n : ℕ) → code_num (neg_ℤ (pos n)) ≡ 2 * n
unfolding code_num
even_code zero = refl
even_code (suc n) = omega arith

odd_code : (n : ℕ) → code_num (pos (n + 1)) ≡ 2 * n + 1
unfolding code_num
odd_code n = omega arith

pub code-signed : (k : ℕ) → code_num (signed_of k) ≡ k
unfolding signed_of
code-signed k = split (eqb (k % 2) 1) refl
  where
    split : (t : Bool) → eqb (k % 2) 1 ≡ t → code_num (cond t (pos (k / 2 + 1)) (neg_ℤ (pos (k / 2)))) ≡ k
    split true e = omega (arith, odd_code (k / 2), eqb-true (k % 2) 1 e)
    split false e = omega (arith, even_code (k / 2), eqb-false (k % 2) 1 e)

signed_even : (k n : ℕ) → k ≡ 2 * n → signed_of k ≡ neg_ℤ (pos n)
unfolding signed_of
signed_even k n e =
    let h : k % 2 ≡ 0 = omega arith in
    let q : k / 2 ≡ n = omega arith in
    rw (h, q)

signed_odd : (k n : ℕ) → k ≡ 2 * n + 1 → signed_of k ≡ pos (suc n)
unfolding signed_of
signed_odd k n e =
    let h : k % 2 ≡ 1 = omega arith in
    let q : k / 2 + 1 ≡ suc n = omega arith in
    rw (h, q)

pub signed-code : (z : ℤ) → signed_of (code_num z) ≡ z
unfolding code_num
signed-code (pos zero) = signed_even 0 0 refl
signed-code (pos (suc n)) = signed_odd (2 * suc n - 1) n (omega arith)
signed-code (negsuc n) = signed_even (2 * (n + 1)) (suc n) (omega arith)

pub se-code-length : (z : ℤ) → length (se_code z) ≡ ue_length (code_num z)
unfolding se_code
se-code-length z = ue-code-length (code_num z)

pub se-code-takes : (k : ℕ) (z : ℤ) → 2 ^ k ≤ code_num z + 1 → code_num z + 1 < 2 ^ suc k → length (se_code z) ≡ 2 * k + 1
unfolding se_code
se-code-takes k z a b = ue-code-takes k (code_num z) a b
