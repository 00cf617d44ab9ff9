-- A loop over a list: what is left to put, behind what was put.
use Prim.Native.Nat.{ℕ, ◌+◌, ◌≤◌, ◌<◌}
use mathlib.Core.List.{List, ◌∷◌}
use Rattle.std.specs.Prelude.{◌≡◌, refl, length}
use Rattle.std.proofs.Math.Path.{sym, ap}
use Rattle.std.proofs.Common.{◌∙◌, add-one}
use Rattle.std.proofs.Math.ListN.{get_or, drop, drop_of_length-le}
use Rattle.std.proofs.Math.Seq.{drop-cons}
use Rattle.refusal.specs.declared.Refusal.{Refusal}
use Rattle.refusal.specs.Numbers.{number}
use Rattle.bit_writer.specs.declared.BitWriter.{BitWriter}
use Rattle.bit_writer.specs.Written.{written}
use Rattle.bit_writer.specs.Writing.{Writing, with_refusal}
use Rattle.bit_writer.specs.Stop.{play_on, on_none, on_then}
use Rattle.bit_writer.proofs.Ended.{refused_before}
use Rattle.syntax.specs.Element.{Element}
use Rattle.pps_put.specs.Each.{each}

module _ {A : Type 0} (w : Writing) (e : Element A) (xs : List A) (i : ℕ) (d : A) where
  drop_next : i < length xs → drop i xs ≡ get_or xs i d ∷ drop (i + 1) xs
  drop_next h = drop-cons xs i d h ∙ ap (λ (n : ℕ). get_or xs i d ∷ drop n xs) (sym (add-one i))

  pub each_turn : {v : Writing} → i < length xs → v ≡ play_on w (e.symbols (get_or xs i d)) → play_on v (each e (drop (i + 1) xs)) ≡ play_on w (each e (drop i xs))
  unfolding each
  each_turn h p = on_then w (e.symbols (get_or xs i d)) (each e (drop (i + 1) xs)) p refl ∙ ap (λ (l : List A). play_on w (each e l)) (sym (drop_next h))

  pub each_stop : (t : BitWriter) (o : List ℕ) (n : Refusal) → i < length xs → with_refusal (written t o) (number n) ≡ play_on w (e.symbols (get_or xs i d))
      → with_refusal (written t o) (number n) ≡ play_on w (each e (drop i xs))
  unfolding each
  each_stop t o n h p = refused_before w (written t o) n (e.symbols (get_or xs i d)) (each e (drop (i + 1) xs)) p ∙ ap (λ (l : List A). play_on w (each e l)) (sym (drop_next h))

pub each_end : {A : Type 0} (w : Writing) (e : Element A) (xs : List A) (i : ℕ) → length xs ≤ i → play_on w (each e (drop i xs)) ≡ w
unfolding each
each_end w e xs i h = rw (drop_of_length-le xs h) (on_none w)
