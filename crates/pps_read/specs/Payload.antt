-- Unescaping a payload into the work buffer, where nothing refuses it.
use Rattle.std.specs.Prelude.{ℕ, zero, suc, ◌-◌, ◌≤◌, List, [], ◌∷◌, ◌≡◌, refl, length, take, drop, Result, Ok}
use Rattle.std.proofs.Common.{ap, ◌∙◌, arith}
use Rattle.std.proofs.Math.ListN.{length-drop}
use Rattle.nal.specs.Answers.{unescape_answer, unescape_out, unescape-done}
use Rattle.refusal.specs.declared.Refusal.{Refusal}
use Rattle.pps_syntax.specs.Rbsp.{rbsp_of}
use Rattle.tables.specs.Tables.{over}

-- all of a list
whole : (l : List ℕ) (n : ℕ) → length l ≤ n → take n l ≡ l
whole [] zero h = refl
whole [] (suc n) h = refl
whole (x ∷ l) zero h = absurd (omega arith)
whole (x ∷ l) (suc n) h = ap (λ (r : List ℕ). x ∷ r) (whole l n (omega arith))

module _ (unit work : List ℕ) (a : 2 ≤ length unit) (b : length unit ≤ 65535) (c : length unit - 2 ≤ length work) where
  -- the part of the unit that is handed over
  abbrev pub payload : List ℕ
  payload = take (length unit - 2) (drop 2 unit)

  taken : (unescape_answer payload work ≡ Ok (length (rbsp_of unit))) × (unescape_out payload work ≡ over (rbsp_of unit) work)
  unfolding rbsp_of
  taken =
      rw (whole (drop 2 unit) (length unit - 2) (omega (arith, length-drop 2 unit)))
      (unescape-done (drop 2 unit) work (omega (arith, length-drop 2 unit)) (omega (arith, length-drop 2 unit)))

  -- it is not refused
  pub payload-count : {r : Result ℕ Refusal} → r ≡ unescape_answer payload work → r ≡ Ok (length (rbsp_of unit))
  payload-count e = e ∙ taken.0

  pub payload-out : {out : List ℕ} → out ≡ unescape_out payload work → out ≡ over (rbsp_of unit) work
  payload-out e = e ∙ taken.1
