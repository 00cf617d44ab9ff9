-- What the functions for ue(v) and for the end make, from what the functions under them make.
use Prim.Native.Nat.{ℕ, suc, ◌+◌, ◌-◌, ◌*◌, ◌%◌, ◌^◌, ◌≤◌, ◌<◌}
use native.Mathlib.Numerals.{add-one}
use native.Mathlib.Omega.{arith}
use Rattle.std.proofs.Common.{pow-suc}
use mathlib.Core.Bool.{Bool}
use mathlib.Core.List.{List, [], ◌∷◌, ◌++◌}
use mathlib.Core.Path.{◌≡◌, sym, ap, ◌∙◌}
use lib.ListN.{replicate}
use Rattle.codes.specs.Bits.{to_bits, to_bits-zero}
use Rattle.codes.specs.ExpGolomb.{log2_is, ue_code, ue-code-number}
use Rattle.codes.specs.Symbols.{putting, check, checked}
use Rattle.bit_writer.specs.Writing.{Writing, feed, feed-append, trailing_bits, finished, closed, with_refusal}
use Rattle.bit_writer.specs.Stop.{play_on, on-bits, on_then}
use Rattle.refusal.specs.declared.Refusal.{Refusal}
use Rattle.refusal.specs.Numbers.{number}
use Rattle.bit_writer.proofs.Ended.{feed_on, refused_before}

module _ (w : Writing) where
  -- ---- ue(v)
  module _ (k z : ℕ) (a : 2 ^ z ≤ k + 1) (b : k + 1 < 2 * 2 ^ z) where
    below : k + 1 < 2 ^ suc z
    below = omega (arith, b, pow-suc 2 z)

    pub code-short : {t : Writing} → t ≡ feed w (to_bits (2 * z + 1) (k + 1)) → t ≡ feed w (ue_code k)
    code-short p =
        let n : 2 * z + 1 ≡ z + suc z = omega arith in
        p ∙ ap (λ (m : ℕ). feed w (to_bits m (k + 1))) n ∙ ap (feed w) (sym (ue-code-number z k a below))

    pub code-long : {t u : Writing} → t ≡ feed w (to_bits z 0) → u ≡ feed t (to_bits (z + 1) (k + 1)) → u ≡ feed w (ue_code k)
    unfolding ue_code
    code-long {t} p q =
        let r = to_bits (z + 1) (k + 1) in
        q ∙ ap (λ (x : Writing). feed x r) p ∙ sym (feed-append w (to_bits z 0) r)
        ∙ ap (λ (l : List ℕ). feed w (l ++ r)) (to_bits-zero z)
        ∙ ap (λ (n : ℕ). feed w (replicate z 0 ++ to_bits n (k + 1))) (add-one z)
        ∙ ap (λ (n : ℕ). feed w (replicate n 0 ++ to_bits (suc n) (k + 1))) (sym (log2_is (k + 1) z a below))

  -- behind its test
  pub tested-failed : (ok : Bool) (n : ℕ) (bs : List ℕ) (v : Writing) (e : Refusal) → with_refusal v (number e) ≡ play_on w (check ok n) → with_refusal v (number e) ≡ play_on w (checked ok n bs)
  unfolding checked
  tested-failed ok n bs v e p = refused_before w v e (check ok n) (putting bs) p

  pub tested-made : {t : Writing} (ok : Bool) (n : ℕ) (bs : List ℕ) → w.sink.refused ≡ 0 → w ≡ play_on w (check ok n) → t ≡ feed w bs → t ≡ play_on w (checked ok n bs)
  unfolding checked
  tested-made ok n bs z p q = on_then w (check ok n) (putting bs) p (q ∙ feed_on w bs z)

  -- ---- the end
  pub trailing-made : {t u : Writing} (n : ℕ) → w.sink.refused ≡ 0 → t ≡ play_on w (putting (1 % 2 ∷ [])) → u ≡ feed t (to_bits (7 - n % 8) 0) → u ≡ play_on w (putting (trailing_bits n))
  unfolding trailing_bits feed
  trailing-made n h p q =
      let z : List ℕ = replicate (7 - n % 8) 0 in
      q ∙ ap (λ (x : Writing). feed x (to_bits (7 - n % 8) 0)) (p ∙ sym (feed_on w (1 ∷ []) h))
      ∙ ap (feed (feed w (1 ∷ []))) (to_bits-zero (7 - n % 8)) ∙ feed_on w (1 ∷ z) h

  pub closed-made : {t u : Writing} → w.sink.refused ≡ 0 → t ≡ play_on w (putting (trailing_bits w.sink.have)) → u ≡ finished t → u ≡ closed w
  unfolding closed
  closed-made z p q = q ∙ ap finished (p ∙ on-bits w (trailing_bits w.sink.have) z)

pub ruleset closing = (trailing-made, closed-made)
