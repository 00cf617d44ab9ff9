-- How a reader is shown to follow a description: what is known of its calls, one step for each, the first call first.
use Rattle.std.specs.Prelude.{ℕ, ◌<◌, ◌≡◌, List, Bool, true, false, Result, Ok, Err, IfOk, refl}
use Rattle.std.specs.Result.{IsErr, IsErrAnd}
use Rattle.std.proofs.Common.{sym, ap, subst, ◌∙◌}
use Rattle.refusal.specs.declared.Refusal.{Refusal}
use Rattle.refusal.specs.Numbers.{number, refused}
use Rattle.bit_reader.specs.declared.BitReader.{BitReader}
use Rattle.bit_reader.specs.Gives.{Parsed, cursor_of, Gives}
use Rattle.bit_reader.specs.Laws.{demanded-true, demanded-false}
use Rattle.bit_reader.specs.Reading.{refusal, demanded}
use Rattle.bit_reader.proofs.Gives.{given, given_back, refused_back, refuses, not-0, at_exit}
use Rattle.syntax.specs.Element.{Element}
use Rattle.syntax.specs.Elements.{or_else, or-true, or-false}
use Rattle.syntax.specs.Syntax.{Syntax, done, element, on_writing, on_reading, parse}
use Rattle.syntax.proofs.Round.{parse-stuck}

-- a reader followed a description
pub record Follows {R : Type 0} (d : Syntax R) (p r : BitReader) (x : Result R Refusal) : Type 0 where
  pub gives : Gives (parse d) p r x

-- at a return, and at the exit of a `?`
pub follows : {R : Type 0} (d : Syntax R) {p r : BitReader} {x : Result R Refusal} → Follows d p r x → Gives (parse d) p r x
follows d f = f.gives

pub exit : {R : Type 0} (d : Syntax R) {p r : BitReader} {x : Result R Refusal} {e : Refusal} → IsErr x × IsErrAnd x (λ y. y ≡ e) → Follows d p r (Err e) → Gives (parse d) p r x
exit d h f = at_exit h.1 f.gives

infixr 5 ◌⟫◌
module _ {R : Type 0} {p r : BitReader} {x : Result R Refusal} where
  -- what is read from a place gives, as what is read from where it was come to
  moved : (d : Syntax R) (e : Syntax R) (q : BitReader) → q.bytes ≡ p.bytes → parse d p.bytes.now (cursor_of p) ≡ parse e p.bytes.now (cursor_of q) → Gives (parse e) q r x → Gives (parse d) p r x
  moved d e q b h g =
      let same : parse e q.bytes.now (cursor_of q) ≡ parse d p.bytes.now (cursor_of p) = ap (λ (s : List ℕ). parse e s (cursor_of q)) (ap (λ y. y.now) b) ∙ sym h in
      record {
        bytes = g.bytes ∙ b;
        next = subst (λ (y : Parsed R). y.next ≡ record { at = r.bit_pos; refused = refused x }) same g.next;
        value = subst (λ (y : Parsed R). IfOk x (λ v. y.value ≡ v)) same g.value;
      }

  -- a call that gave a value: go on behind it
  pub ◌⟫◌ : {A : Type 0} {e : Element A} {place : R → A} {k : A → Syntax R} {q : BitReader} {v : A} → Gives e.read p q (Ok v) → Follows (k v) q r x → Follows (element e place k) p r x
  unfolding parse
  ◌⟫◌ {e = e} {place = place} {k = k} {q = q} {v = v} f g =
      record { gives = moved (element e place k) (k v) q f.bytes (sym (ap (λ y. parse (k y.value) p.bytes.now y.next) (given_back f))) g.gives }

  -- a test of writing, which reading passes over
  pub past : {test : R → Bool} {n : ℕ} {k : Syntax R} → Follows k p r x → Follows (on_writing test n k) p r x
  unfolding parse
  past {test} {n} {k} g = record { gives = moved (on_writing test n k) k p refl refl g.gives }

  -- a test that held
  pub held : {ok : Bool} {n : ℕ} {l : 0 < n} {k : Syntax R} → ok ≡ true → Follows k p r x → Follows (on_reading ok n l k) p r x
  unfolding parse
  held {ok} {n} {l} {k} e g = record { gives = moved (on_reading ok n l k) k p refl (ap (parse k p.bytes.now) (demanded-true ok n (cursor_of p) e)) g.gives }

module _ {R : Type 0} {p r : BitReader} {e : Refusal} where
  -- a call that refused: so does the whole
  pub stop : {A : Type 0} {m : Element A} {place : R → A} {k : A → Syntax R} → Gives m.read p r (Err e) → Follows (element m place k) p r (Err e)
  unfolding parse
  stop {A} {m} {k = k} f =
      let y = m.read p.bytes.now (cursor_of p) in
      let is : refusal (cursor_of r) (number e) ≡ y.next = refused_back f in
      record { gives = refuses f.bytes (is ∙ sym (parse-stuck (k y.value) refl p.bytes.now y.next (not-0 e r.bit_pos is))) }

-- a test that failed
pub fails : {R : Type 0} {p : BitReader} {e : Refusal} {ok : Bool} {n : ℕ} {l : 0 < n} {k : Syntax R} → ok ≡ false → number e ≡ n → Follows (on_reading ok n l k) p p (Err e)
unfolding parse
fails {p = p} {e = e} {ok = ok} {n = n} {k = k} f h =
    let is : refusal (cursor_of p) (number e) ≡ demanded ok n (cursor_of p) = rw h (sym (demanded-false ok n (cursor_of p) f refl)) in
    record { gives = refuses refl (is ∙ sym (parse-stuck k refl p.bytes.now (demanded ok n (cursor_of p)) (not-0 e p.bit_pos is))) }

-- the end
pub end : {R : Type 0} {p : BitReader} {v : R} → Follows (done v) p p (Ok v)
unfolding parse
end = record { gives = given refl refl }

-- ---- an element that is coded under a condition
module _ {A : Type 0} (on : Bool) (e y : Element A) {p q : BitReader} {x : Result A Refusal} where
  pub coded : on ≡ true → Gives e.read p q x → Gives (or_else on e y).read p q x
  coded h g = subst (λ (z : Element A). Gives z.read p q x) (sym (or-true on e y h)) g

  pub uncoded : on ≡ false → Gives y.read p q x → Gives (or_else on e y).read p q x
  uncoded h g = subst (λ (z : Element A). Gives z.read p q x) (sym (or-false on e y h)) g
