-- Laws of what a reader gives.
use Rattle.std.specs.Prelude.{ℕ, ◌%◌, ◌≤◌, ◌<◌, ◌≡◌, List, Bool, true, false, Result, Ok, Err, IfOk, ℤ, refl}
use Rattle.std.specs.Result.{IsErrAnd}
use Rattle.std.proofs.Common.{Bor, sym, subst, ap, ◌∙◌, arith, pow_mono, mod-eq_of_lt}
use Rattle.std.proofs.lemmas.Result.{err_from_is_err_and}
use Rattle.codes.specs.ExpGolomb.{signed_of}
use Rattle.refusal.specs.declared.Refusal.{Refusal}
use Rattle.refusal.specs.Numbers.{number, refused}
use Rattle.refusal.proofs.Numbers.{number_above0}
use Rattle.bit_reader.specs.declared.BitReader.{BitReader}
use Rattle.bit_reader.specs.declared.Cursor.{Cursor}
use Rattle.bit_reader.specs.Reading.{refusal, demanded, se_read}
use Rattle.bit_reader.specs.Gives.{Parsed, parsed, cursor_of, Gives, u_parsed, ue_parsed, se_parsed, tested, held_as, value_read}
use Rattle.bit_reader.specs.Laws.{u-below, ue-small, demanded-true, demanded-false, demanded-refused}

module _ {A : Type 0} {read : List ℕ → Cursor → Parsed A} {p q : BitReader} where
  -- a value, as the definition has it
  pub given : {v : A} → q.bytes ≡ p.bytes → parsed v (cursor_of q) ≡ read p.bytes.now (cursor_of p) → Gives read p q (Ok v)
  unfolding refused
  given b e = record { bytes = b; next = sym (ap (λ (r : Parsed A). r.next) e); value = sym (ap (λ (r : Parsed A). r.value) e) }

  pub given_back : {v : A} → Gives read p q (Ok v) → parsed v (cursor_of q) ≡ read p.bytes.now (cursor_of p)
  unfolding refused
  given_back g = rw (← g.next, ← g.value) refl

  -- a refusal
  pub refuses : {e : Refusal} → q.bytes ≡ p.bytes → refusal (cursor_of q) (number e) ≡ (read p.bytes.now (cursor_of p)).next → Gives read p q (Err e)
  unfolding refused
  refuses b h = record { bytes = b; next = sym h; value = tt }

  pub refused_back : {e : Refusal} → Gives read p q (Err e) → refusal (cursor_of q) (number e) ≡ (read p.bytes.now (cursor_of p)).next
  unfolding refused
  refused_back g = sym g.next

  -- from the same place over bytes known by another name
  pub over : {b : Bor (List ℕ)} {x : Result A Refusal} → p.bytes ≡ b → Gives read p q x → Gives read (record { bytes = b; bit_pos = p.bit_pos }) q x
  over {b} {x} e g = subst (λ (y : Bor (List ℕ)). Gives read (record { bytes = y; bit_pos = p.bit_pos }) q x) e g

  -- read in another way that comes to the same
  pub same-read : {other : List ℕ → Cursor → Parsed A} {x : Result A Refusal} → read p.bytes.now (cursor_of p) ≡ other p.bytes.now (cursor_of p) → Gives read p q x → Gives other p q x
  same-read {other} {x} e g =
      record {
        bytes = g.bytes;
        next = ap (λ (r : Parsed A). r.next) (sym e) ∙ g.next;
        value = subst (λ (r : Parsed A). IfOk x (λ v. r.value ≡ v)) e g.value;
      }

  -- the exit of a `?`
  pub at_exit : {x : Result A Refusal} {e : Refusal} → IsErrAnd x (λ y. y ≡ e) → Gives read p q (Err e) → Gives read p q x
  at_exit {x} h g = let y = err_from_is_err_and x h in rw (y.1, y.2) g

-- a refusal's number is not 0
pub not-0 : (e : Refusal) {c : Cursor} (at : ℕ) → record { at = at; refused = number e } ≡ c → c.refused ≡ 0 → ⊥
not-0 e at h o = omega (arith, number_above0 e, ap (λ (d : Cursor). d.refused) h)

-- a value held as another
module _ {A B : Type 0} (f : A → B) {read : List ℕ → Cursor → Parsed A} {p q : BitReader} where
  pub holds : {v : A} {w : B} → Gives read p q (Ok v) → w ≡ f v → Gives (held_as f read) p q (Ok w)
  unfolding refused
  holds g e = record { bytes = g.bytes; next = g.next; value = ap f g.value ∙ sym e }

  pub held_back : {w : B} → Gives (held_as f read) p q (Ok w) → Gives read p q (Ok (value_read read p))
  unfolding refused
  held_back g = record { bytes = g.bytes; next = g.next; value = refl }

  pub held-none_back : {e : Refusal} → Gives (held_as f read) p q (Err e) → Gives read p q (Err e)
  unfolding refused
  held-none_back g = record { bytes = g.bytes; next = g.next; value = tt }

  pub holds-none : {e : Refusal} → Gives read p q (Err e) → Gives (held_as f read) p q (Err e)
  unfolding refused
  holds-none g = record { bytes = g.bytes; next = g.next; value = tt }

-- a test of the value
module _ {A : Type 0} {read : List ℕ → Cursor → Parsed A} (ok : A → Bool) (n : ℕ) {p q : BitReader} where
  pub passes : {v : A} → Gives read p q (Ok v) → ok v ≡ true → Gives (tested ok n read) p q (Ok v)
  passes {v} g t =
      let e : parsed v (cursor_of q) ≡ read p.bytes.now (cursor_of p) = given_back g in
      given g.bytes (ap (λ (d : Cursor). parsed v d) (sym (demanded-true (ok v) n (cursor_of q) t)) ∙ ap (λ (r : Parsed A). parsed r.value (demanded (ok r.value) n r.next)) e)

  pub fails_test : {v : A} {e : Refusal} → Gives read p q (Ok v) → ok v ≡ false → n ≡ number e → Gives (tested ok n read) p q (Err e)
  fails_test {v} g t h =
      refuses g.bytes
      (ap (refusal (cursor_of q)) (sym h) ∙ sym (demanded-false (ok v) n (cursor_of q) t refl) ∙ ap (λ (r : Parsed A). demanded (ok r.value) n r.next) (given_back g))

  pub refused_before : {e : Refusal} → Gives read p q (Err e) → Gives (tested ok n read) p q (Err e)
  refused_before {e} g =
      let r = read p.bytes.now (cursor_of p) in
      let is : refusal (cursor_of q) (number e) ≡ r.next = refused_back g in
      refuses g.bytes (is ∙ sym (demanded-refused (ok r.value) n r.next (not-0 e q.bit_pos is)))

module _ {p q : BitReader} where
  -- at most 8 bits fit a byte
  pub small-fits : {n v : ℕ} → n ≤ 8 → Gives (u_parsed n) p q (Ok v) → Gives (u_parsed n) p q (Ok (v % 256))
  small-fits {n} {v} h g =
      let l : v < 256 = omega (arith, g.value, u-below p.bytes.now (cursor_of p) n, pow_mono {i = n} {j = 8} h) in
      rw (mod-eq_of_lt l) g

  pub number-small : {k : ℕ} → Gives ue_parsed p q (Ok k) → k < 4294967295
  number-small g = omega (arith, g.value, ue-small p.bytes.now (cursor_of p))

  pub signed : {k : ℕ} {v : ℤ} → Gives ue_parsed p q (Ok k) → v ≡ signed_of k → Gives se_parsed p q (Ok v)
  unfolding se_read refused
  signed g e = record { bytes = g.bytes; next = g.next; value = ap signed_of g.value ∙ sym e }

  pub signed_refused : {e : Refusal} → Gives ue_parsed p q (Err e) → Gives se_parsed p q (Err e)
  unfolding se_read refused
  signed_refused g = record { bytes = g.bytes; next = g.next; value = tt }
