-- Several bits of one byte at once: what feeding them leaves.
use Rattle.std.specs.Prelude.{ℕ, zero, suc, ◌+◌, ◌-◌, ◌*◌, ◌/◌, ◌%◌, ◌^◌, ◌≤◌, ◌<◌, List, [], ◌∷◌, ◌≡◌, refl, length}
use Rattle.std.proofs.Common.{add-zero, mul-one, add-mul, mul_assoc, mul_comm, pow-suc, mod-eq_of_lt, mod-lt, zero-mul, arith, sym, ap, ap₂, ◌∙◌, pow_pos, pow_mono, lt-ltb, le-ltb}
use Rattle.std.proofs.Math.Pow.{shr_mod}
use Rattle.codes.specs.Bits.{to_bits, to_bits-length, to_bits-append}
use Rattle.bit_writer.specs.Writing.{Writing, place, joined, holding, behind_byte, put_raw, put_raws, coded, coded_run, put_byte, put_bit, feed, feed-none, feed-more, feed-append}
use Rattle.bit_writer.specs.Packed.{spelled, spelled_none, spelled-cons, spelled-to_bits}

-- the bits of a byte, cur, with bs behind them
abbrev pub later : ℕ → List ℕ → ℕ
later cur bs = (cur * 2 ^ length bs + spelled bs) % 256

later-none : (cur : ℕ) → cur < 256 → later cur [] ≡ cur
later-none cur h = omega (arith, spelled_none, mul-one cur)

regroup : (cur c d p : ℕ) → cur ≡ c * 128 + d → cur * (p * 2) ≡ d * 2 * p + c * p * 256
regroup cur c d p e =
    let a : cur * (p * 2) ≡ cur * p * 2 = sym (mul_assoc cur p 2) in
    let b : cur * p ≡ c * 128 * p + d * p = ap (λ (k : ℕ). k * p) e ∙ add-mul (c * 128) d p in
    let g : c * 128 * p ≡ c * p * 128 = mul_assoc c 128 p ∙ ap (λ (k : ℕ). c * k) (mul_comm 128 p) ∙ sym (mul_assoc c p 128) in
    let h : d * 2 * p ≡ d * p * 2 = mul_assoc d 2 p ∙ ap (λ (k : ℕ). d * k) (mul_comm 2 p) ∙ sym (mul_assoc d p 2) in
    omega (arith, a, b, g, h)

later_more : (cur b : ℕ) (bs : List ℕ) → later (joined cur b) bs ≡ later cur (b ∷ bs)
later_more cur b bs =
    let p = 2 ^ length bs in
    let e : cur ≡ cur / 128 * 128 + cur % 128 = omega arith in
    let q : cur * 2 ^ suc (length bs) ≡ cur % 128 * 2 * p + cur / 128 * p * 256 = ap (λ (k : ℕ). cur * k) (pow-suc 2 (length bs)) ∙ regroup cur (cur / 128) (cur % 128) p e in
    let g : (cur % 128 * 2 + b % 2) * p ≡ cur % 128 * 2 * p + b % 2 * p = add-mul (cur % 128 * 2) (b % 2) p in
    omega (arith, spelled-cons b bs, q, g)

-- ---- one bit
pub bit_open : (w : Writing) (b : ℕ) → place w.sink < 7 → put_bit w b ≡ holding w (joined w.sink.cur b) (place w.sink + 1)
unfolding put_bit
bit_open w b h = rw (lt-ltb _ _ h)

pub bit-whole : (w : Writing) (b : ℕ) → 7 ≤ place w.sink → put_bit w b ≡ put_byte w (joined w.sink.cur b)
unfolding put_bit
bit-whole w b h = rw (le-ltb _ _ h)

-- ---- bits that leave the byte open
feed-behind : (bs : List ℕ) (w : Writing) → w.sink.cur < 256 → w.sink.have + length bs ≤ 7
    → feed w bs ≡ holding w (later w.sink.cur bs) (w.sink.have + length bs)
feed-behind [] w h l =
    feed-none w ∙ ap₂ (λ (c n : ℕ). holding w c n) (sym (later-none w.sink.cur h)) (sym (add-zero w.sink.have))
feed-behind (b ∷ bs) w h l =
    let e : place w.sink ≡ w.sink.have = mod-eq_of_lt (omega arith) in
    feed-more w b bs ∙ ap (λ (x : Writing). feed x bs) (bit_open w b (omega (arith, e)) ∙ ap (λ (n : ℕ). holding w (joined w.sink.cur b) (n + 1)) e)
    ∙ feed-behind bs (holding w (joined w.sink.cur b) (w.sink.have + 1)) (omega arith) (omega arith)
    ∙ ap₂ (λ (c n : ℕ). holding w c n) (later_more w.sink.cur b bs) (omega arith)

feed_open : (b : ℕ) (bs : List ℕ) (w : Writing) → place w.sink + suc (length bs) ≤ 7
    → feed w (b ∷ bs) ≡ holding w (later w.sink.cur (b ∷ bs)) (place w.sink + suc (length bs))
feed_open b bs w l =
    feed-more w b bs ∙ ap (λ (x : Writing). feed x bs) (bit_open w b (omega arith))
    ∙ feed-behind bs (holding w (joined w.sink.cur b) (place w.sink + 1)) (omega arith) (omega arith)
    ∙ ap₂ (λ (c n : ℕ). holding w c n) (later_more w.sink.cur b bs) (omega arith)

-- ---- bits that make it whole
raws_holding : (bs : List ℕ) (w : Writing) (cur n z : ℕ) → behind_byte (put_raws (holding w cur n) bs) z ≡ behind_byte (put_raws w bs) z
unfolding put_raws put_raw
raws_holding [] w cur n z = refl
raws_holding (b ∷ bs) w cur n z = raws_holding bs (put_raw w b) cur n z

-- the bits of the byte so far are in b already
byte-holding : (w : Writing) (cur n b : ℕ) → put_byte (holding w cur n) b ≡ put_byte w b
unfolding put_byte
byte-holding w cur n b = raws_holding (coded w.sink.escape w.sink.zeros b) w cur n (coded_run w.sink.escape w.sink.zeros b)

pub feed-whole : (bs : List ℕ) (w : Writing) → place w.sink + length bs ≡ 8 → feed w bs ≡ put_byte w (later w.sink.cur bs)
feed-whole [] w l = absurd (omega arith)
feed-whole (b ∷ []) w l =
    feed-more w b [] ∙ feed-none (put_bit w b) ∙ bit-whole w b (omega arith)
    ∙ ap (put_byte w) (sym (later-none (joined w.sink.cur b) (omega arith)) ∙ later_more w.sink.cur b [])
feed-whole (b ∷ a ∷ bs) w l =
    let v = joined w.sink.cur b in
    let n = place w.sink + 1 in
    feed-more w b (a ∷ bs) ∙ ap (λ (x : Writing). feed x (a ∷ bs)) (bit_open w b (omega arith))
    ∙ feed-whole (a ∷ bs) (holding w v n) (omega arith) ∙ byte-holding w v n (later v (a ∷ bs))
    ∙ ap (put_byte w) (later_more w.sink.cur b (a ∷ bs))

-- ---- the m low bits of a number
later-to_bits : (cur m x : ℕ) → later cur (to_bits m x) ≡ (cur * 2 ^ m + x % 2 ^ m) % 256
later-to_bits cur m x = rw (to_bits-length m x, spelled-to_bits m x)

pub chunk_open : (w : Writing) (m x : ℕ) → 0 < m → place w.sink + m < 8
    → feed w (to_bits m x) ≡ holding w ((w.sink.cur * 2 ^ m + x % 2 ^ m) % 256) (place w.sink + m)
unfolding to_bits
chunk_open w zero x h l = absurd (omega arith)
chunk_open w (suc m) x h l =
    let e : length (x / 2 ^ m % 2 ∷ to_bits m x) ≡ suc m = to_bits-length (suc m) x in
    feed_open (x / 2 ^ m % 2) (to_bits m x) w (omega (arith, e))
    ∙ ap₂ (λ (c n : ℕ). holding w c n) (later-to_bits w.sink.cur (suc m) x) (ap (λ (n : ℕ). place w.sink + n) e)

pub chunk_whole : (w : Writing) (m x : ℕ) → place w.sink + m ≡ 8 → feed w (to_bits m x) ≡ put_byte w ((w.sink.cur * 2 ^ m + x % 2 ^ m) % 256)
chunk_whole w m x l =
    feed-whole (to_bits m x) w (omega (arith, to_bits-length m x)) ∙ ap (put_byte w) (later-to_bits w.sink.cur m x)

-- the first m of k bits, then the others
pub chunk_first : (w : Writing) (k m v : ℕ) → m ≤ k → feed w (to_bits k v) ≡ feed (feed w (to_bits m (v / 2 ^ (k - m)))) (to_bits (k - m) v)
chunk_first w k m v h =
    let e : k ≡ m + (k - m) = omega arith in
    ap (λ (n : ℕ). feed w (to_bits n v)) e ∙ ap (feed w) (to_bits-append m (k - m) v) ∙ feed-append w (to_bits m (v / 2 ^ (k - m))) (to_bits (k - m) v)

-- a whole byte leaves none of the next
pub byte_leaves : (w : Writing) (b : ℕ) → ((put_byte w b).sink.cur ≡ 0) × ((put_byte w b).sink.have ≡ 0)
unfolding put_byte
byte_leaves w b = (refl, refl)

behind-whole : (w : Writing) (p x : ℕ) → w.sink.cur ≡ 0 → w.sink.have ≡ 0 → p < 8 → feed w (to_bits p x) ≡ holding w (x % 2 ^ p) p
behind-whole w p x c n h =
    let l = to_bits-length p x in
    let z : w.sink.cur * 2 ^ p ≡ 0 = ap (λ (k : ℕ). k * 2 ^ p) c ∙ zero-mul (2 ^ p) in
    let v : (w.sink.cur * 2 ^ p + x % 2 ^ p) % 256 ≡ x % 2 ^ p = omega (arith, z, mod-lt x (pow_pos p), pow_mono {i = p} {j = 8} (omega arith)) in
    feed-behind (to_bits p x) w (omega arith) (omega (arith, l))
    ∙ ap₂ (λ (k m : ℕ). holding w k m) (later-to_bits w.sink.cur p x ∙ v) (omega (arith, l))

-- Eight bits put one byte, and leave as many bits in the next as there were.
pub eight_bits : (w : Writing) (x : ℕ) → x < 256
    → feed w (to_bits 8 x) ≡ holding (put_byte w ((w.sink.cur * 2 ^ (8 - place w.sink) + x / 2 ^ place w.sink) % 256)) (x % 2 ^ place w.sink) (place w.sink)
eight_bits w x h =
    let p = place w.sink in
    let m = 8 - p in
    let e : 8 - m ≡ p = omega arith in
    let s : m + p ≡ 8 = omega arith in
    let f : x / 2 ^ p % 2 ^ m ≡ x / 2 ^ p = shr_mod m p (rw s h) in
    let b = (w.sink.cur * 2 ^ m + x / 2 ^ p) % 256 in
    chunk_first w 8 m x (omega arith) ∙ ap (λ (k : ℕ). feed (feed w (to_bits m (x / 2 ^ k))) (to_bits k x)) e
    ∙ ap (λ (u : Writing). feed u (to_bits p x)) (chunk_whole w m (x / 2 ^ p) (omega arith) ∙ ap (λ (k : ℕ). put_byte w ((w.sink.cur * 2 ^ m + k) % 256)) f)
    ∙ behind-whole (put_byte w b) p x (byte_leaves w b).0 (byte_leaves w b).1 (omega arith)

pub feed-zero : (w : Writing) (k v : ℕ) → k ≤ 0 → feed w (to_bits k v) ≡ w
unfolding to_bits
feed-zero w k v h = let e : k ≡ 0 = omega arith in ap (λ (n : ℕ). feed w (to_bits n v)) e ∙ feed-none w
