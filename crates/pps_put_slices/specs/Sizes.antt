-- Lists of sizes minus 1, each a ue(v) below a limit.
use Rattle.std.specs.Prelude.{ℕ, ◌+◌, ◌≤◌, ◌<◌, ◌≡◌, refl, ltb, length}
use Rattle.std.proofs.Math.Path.{sym, ap}
use Rattle.std.proofs.Common.{◌∙◌, add-one, drop_of_length-le, drop-cons}
use mathlib.Core.List.{List, [], ◌∷◌, ◌++◌}
use Rattle.std.proofs.Math.ListN.{get_or, drop}
use Rattle.codes.specs.Coded.{ue_symbols}
use Rattle.codes.specs.Symbols.{Symbol, check}
use Rattle.bit_writer.specs.Writing.{Writing}
use Rattle.syntax.specs.Elements.{ue, limited}
use Rattle.syntax.specs.Lists.{many}
use Rattle.bit_writer.specs.Stop.{play_on, on_none, on-append}

-- one of them, refused with n where it is not below the limit
abbrev pub size_symbols : ℕ → ℕ → ℕ → List Symbol
size_symbols limit n v = check (ltb v limit) n ++ ue_symbols v

unfoldable pub sizes_symbols : ℕ → ℕ → List ℕ → List Symbol
sizes_symbols limit n [] = []
sizes_symbols limit n (v ∷ vs) = size_symbols limit n v ++ sizes_symbols limit n vs

-- the description's list of as many as there are
pub many-sizes : (limit n m : ℕ) (l : 0 < n) (vs : List ℕ) → (many (length vs) (limited ue (λ v. ltb v limit) n l) m).symbols vs ≡ sizes_symbols limit n vs
unfolding many sizes_symbols
many-sizes limit n m l [] = refl
many-sizes limit n m l (v ∷ vs) = ap (λ (s : List Symbol). size_symbols limit n v ++ s) (many-sizes limit n m l vs)

-- ---- a loop over them: what is left to put, behind what was put
module _ (w : Writing) (limit n : ℕ) (vs : List ℕ) (i : ℕ) where
  pub sizes-turn : {x : Writing} → i < length vs → x ≡ play_on w (size_symbols limit n (get_or vs i 0))
      → play_on x (sizes_symbols limit n (drop (i + 1) vs)) ≡ play_on w (sizes_symbols limit n (drop i vs))
  unfolding sizes_symbols
  sizes-turn h e =
      ap (λ (y : Writing). play_on y (sizes_symbols limit n (drop (i + 1) vs))) e
      ∙ sym (on-append w (size_symbols limit n (get_or vs i 0)) (sizes_symbols limit n (drop (i + 1) vs)))
      ∙ ap (λ (l : List ℕ). play_on w (sizes_symbols limit n l)) (ap (λ (m : ℕ). get_or vs i 0 ∷ drop m vs) (add-one i) ∙ sym (drop-cons vs i 0 h))

  pub sizes-end : length vs ≤ i → play_on w (sizes_symbols limit n (drop i vs)) ≡ w
  unfolding sizes_symbols
  sizes-end h = rw (drop_of_length-le vs h) (on_none w)
