-- How a writer is shown to follow a description: what is known of its calls, one step for each, the first call first.
use Rattle.std.specs.Prelude.{ℕ, ◌<◌, ◌≡◌, List, [], Bool, true, false, Result}
use Rattle.std.specs.Result.{IsErrAnd}
use Rattle.std.proofs.Common.{sym, ap, ap₂, ◌∙◌}
use Rattle.codes.specs.Symbols.{check}
use Rattle.refusal.specs.declared.Refusal.{Refusal}
use Rattle.refusal.specs.Numbers.{number}
use Rattle.bit_writer.specs.declared.BitWriter.{BitWriter}
use Rattle.bit_writer.specs.Writing.{Writing, with_refusal}
use Rattle.bit_writer.specs.Stop.{play_on, on_none, on_then}
use Rattle.bit_writer.specs.Written.{written, ended}
use Rattle.bit_writer.proofs.Ended.{at_err, refused_before}
use Rattle.syntax.specs.Element.{Element}
use Rattle.syntax.specs.Elements.{or_else}
use Rattle.syntax.specs.Syntax.{Syntax, done, element, on_writing, on_reading, symbols_for}

-- a writer followed a description of the record r
pub record Follows {R : Type 0} (d : Syntax R) (r : R) (w v : Writing) : Type 0 where
  pub leaves : v ≡ play_on w (symbols_for d r)

-- at a return, and at the exit of a `?`
pub follows : {R : Type 0} (d : Syntax R) {r : R} {w v : Writing} → Follows d r w v → v ≡ play_on w (symbols_for d r)
follows d f = f.leaves

pub exit : {R A : Type 0} (d : Syntax R) {r : R} {w : Writing} {t : BitWriter} {o : List ℕ} (x : Result A Refusal) (e : Refusal) → IsErrAnd x (λ y. y ≡ e)
    → Follows d r w (with_refusal (written t o) (number e)) → ended t o x ≡ play_on w (symbols_for d r)
exit d {t = t} {o = o} x e h f = at_err t o x e h ∙ f.leaves

infixr 5 ◌⟫◌
module _ {R : Type 0} {r : R} {w u : Writing} where
  -- an element that a call has written
  pub ◌⟫◌ : {A : Type 0} {m : Element A} {place : R → A} {k : A → Syntax R} {v : Writing} → v ≡ play_on w (m.symbols (place r)) → Follows (k (place r)) r v u → Follows (element m place k) r w u
  unfolding symbols_for
  ◌⟫◌ {m = m} {place = place} {k = k} e f = record { leaves = on_then w (m.symbols (place r)) (symbols_for (k (place r)) r) e f.leaves }

  -- a test that a call has made
  pub tested : {test : R → Bool} {n : ℕ} {k : Syntax R} {v : Writing} → v ≡ play_on w (check (test r) n) → Follows k r v u → Follows (on_writing test n k) r w u
  unfolding symbols_for
  tested {test = test} {n = n} {k = k} e f = record { leaves = on_then w (check (test r) n) (symbols_for k r) e f.leaves }

  -- a test of reading, which writing passes over
  pub past : {ok : Bool} {n : ℕ} {l : 0 < n} {k : Syntax R} → Follows k r w u → Follows (on_reading ok n l k) r w u
  unfolding symbols_for
  past f = record { leaves = f.leaves }

-- a call that refused: nothing that was to come is put
module _ {R : Type 0} {r : R} {w : Writing} (t : BitWriter) (o : List ℕ) (e : Refusal) where
  pub stop : {A : Type 0} {m : Element A} {place : R → A} {k : A → Syntax R} → with_refusal (written t o) (number e) ≡ play_on w (m.symbols (place r)) → Follows (element m place k) r w (with_refusal (written t o) (number e))
  unfolding symbols_for
  stop {m = m} {place = place} {k = k} h = record { leaves = refused_before w (written t o) e (m.symbols (place r)) (symbols_for (k (place r)) r) h }

  pub fails : {test : R → Bool} {n : ℕ} {k : Syntax R} → with_refusal (written t o) (number e) ≡ play_on w (check (test r) n) → Follows (on_writing test n k) r w (with_refusal (written t o) (number e))
  unfolding symbols_for
  fails {test = test} {n = n} {k = k} h = record { leaves = refused_before w (written t o) e (check (test r) n) (symbols_for k r) h }

-- the end
pub end : {R : Type 0} {e r : R} {w : Writing} → Follows (done e) r w w
unfolding symbols_for
end {w = w} = record { leaves = sym (on_none w) }

-- ---- an element that is coded under a condition: it is written where `on`, else passed over
module _ {R A : Type 0} (e y : Element A) {on : Bool} {place : R → A} {k : A → Syntax R} {r : R} {w : Writing} where
  pub put : {v u : Writing} → on ≡ true → v ≡ play_on w (e.symbols (place r)) → Follows (k (place r)) r v u → Follows (element (or_else on e y) place k) r w u
  unfolding or_else
  put h p f = rw h (p ⟫ f)

  pub stop_in : (t : BitWriter) (o : List ℕ) (n : Refusal) → on ≡ true → with_refusal (written t o) (number n) ≡ play_on w (e.symbols (place r))
      → Follows (element (or_else on e y) place k) r w (with_refusal (written t o) (number n))
  unfolding or_else
  stop_in t o n h p = rw h (stop t o n p)

  pub skip : {u : Writing} → on ≡ false → y.symbols (place r) ≡ [] → Follows (k (place r)) r w u → Follows (element (or_else on e y) place k) r w u
  unfolding or_else
  skip h z f = rw h (sym (ap (play_on w) z ∙ on_none w) ⟫ f)

-- ---- such an element alone, and where the branches of an `if` around it meet
module _ {A : Type 0} (e y : Element A) {on : Bool} (x : A) (w : Writing) where
  pub written_on : {v : Writing} → on ≡ true → v ≡ play_on w (e.symbols x) → v ≡ play_on w ((or_else on e y).symbols x)
  unfolding or_else
  written_on h p = rw h p

  pub written_off : {v : Writing} → on ≡ false → v ≡ play_on w (y.symbols x) → v ≡ play_on w ((or_else on e y).symbols x)
  unfolding or_else
  written_off h p = rw h p

  pub passed_over : {v : Writing} → on ≡ false → y.symbols x ≡ [] → v ≡ w → v ≡ play_on w ((or_else on e y).symbols x)
  unfolding or_else
  passed_over h z p = rw h (p ∙ sym (ap (play_on w) z ∙ on_none w))

pub met : {t s : BitWriter} {o l : List ℕ} (v : Writing) → t ≡ s → o ≡ l → written s l ≡ v → written t o ≡ v
met v p q h = ap₂ written p q ∙ h
