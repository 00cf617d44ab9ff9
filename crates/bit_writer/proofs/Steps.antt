-- A test whose outcome is a result.
use Rattle.std.specs.Prelude.{ℕ, ◌≡◌, refl, Bool, true, false, cond, [], ◌∷◌, eqb}
use Rattle.std.proofs.Common.{sym, ap, ◌∙◌, eqb-true}
use Rattle.codes.specs.Symbols.{refuse, first, first-left, first-right, check, check-true}
use Rattle.bit_writer.specs.Stop.{play_on, on_none, on-check}
use Rattle.bit_writer.specs.Writing.{Writing, with_refusal, step, play}

check-failed : (w : Writing) (n : ℕ) → with_refusal w (first w.sink.refused n) ≡ play w (check false n)
unfolding play step check
check-failed w n = split (eqb n 0) refl
  where
    split : (t : Bool) → eqb n 0 ≡ t → with_refusal w (first w.sink.refused n) ≡ play w (cond t [] (refuse n ∷ []))
    split true e = ap (with_refusal w) (ap (first w.sink.refused) (eqb-true n 0 e) ∙ first-right w.sink.refused)
    split false e = refl

module _ (w : Writing) (ok : Bool) (n : ℕ) where
  pub test_met : ok ≡ true → w ≡ play_on w (check ok n)
  test_met e = sym (ap (play_on w) (check-true ok n e) ∙ on_none w)

  pub test_failed : ok ≡ false → w.sink.refused ≡ 0 → with_refusal w n ≡ play_on w (check ok n)
  test_failed e h =
      ap (with_refusal w) (sym (ap (λ (r : ℕ). first r n) h ∙ first-left n))
      ∙ check-failed w n ∙ ap (λ (t : Bool). play w (check t n)) (sym e) ∙ sym (on-check w ok n)
