-- A part of a description that a function of its own reads.
use Rattle.std.specs.Prelude.{ℕ, ◌≡◌, List, Result, Ok, Err, IfOk, refl}
use Rattle.std.proofs.Common.{sym, ap, subst, ◌∙◌}
use Rattle.refusal.specs.declared.Refusal.{Refusal}
use Rattle.refusal.specs.Numbers.{number, refused}
use Rattle.bit_reader.specs.declared.BitReader.{BitReader}
use Rattle.bit_reader.specs.declared.Cursor.{Cursor}
use Rattle.bit_reader.specs.Gives.{Parsed, cursor_of, Gives, value_read, held_as}
use Rattle.bit_reader.specs.Reading.{refusal}
use Rattle.bit_reader.proofs.Gives.{given_back, refused_back, refuses, not-0}
use Rattle.syntax.specs.Syntax.{Syntax, parse}
use Rattle.syntax.proofs.Round.{parse-stuck}
use Rattle.syntax.proofs.Steps.{Follows}

-- what is read first, and what is read behind it, is what the description says
pub record Begins {R A : Type 0} (d : Syntax R) (read : List ℕ → Cursor → Parsed A) (k : A → Syntax R) : Type 0 where
  pub splits : (s : List ℕ) (c : Cursor) → parse d s c ≡ parse (k (read s c).value) s (read s c).next

module _ {R A : Type 0} {d : Syntax R} {read : List ℕ → Cursor → Parsed A} {k : A → Syntax R} (b : Begins d read k) where
  -- the first part gave a value: the rest is read behind it
  pub read_behind : {p q : BitReader} {v : A} → Gives read p q (Ok v) → parse (k v) q.bytes.now (cursor_of q) ≡ parse d p.bytes.now (cursor_of p)
  read_behind {p} {q} {v} g =
      ap (λ y. parse (k v) y.now (cursor_of q)) g.bytes ∙ ap (λ (y : Parsed A). parse (k y.value) p.bytes.now y.next) (given_back g) ∙ sym (b.splits p.bytes.now (cursor_of p))

  pub behind : {p q r : BitReader} {x : Result R Refusal} {v : A} → Gives read p q (Ok v) → Follows (k v) q r x → Follows d p r x
  behind {p} {q} {r} {x} {v} g f =
      let same = read_behind g in
      record {
        gives =
            record {
              bytes = f.gives.bytes ∙ g.bytes;
              next = subst (λ (y : Parsed R). y.next ≡ record { at = r.bit_pos; refused = refused x }) same f.gives.next;
              value = subst (λ (y : Parsed R). IfOk x (λ v. y.value ≡ v)) same f.gives.value;
            };
      }

  -- it refused: so does the whole
  pub refused_there : {p r : BitReader} {e : Refusal} → Gives read p r (Err e) → Follows d p r (Err e)
  refused_there {p} {r} {e} g =
      let y : Parsed A = read p.bytes.now (cursor_of p) in
      let is : refusal (cursor_of r) (number e) ≡ y.next = refused_back g in
      let whole : (parse d p.bytes.now (cursor_of p)).next ≡ y.next = ap (λ (z : Parsed R). z.next) (b.splits p.bytes.now (cursor_of p)) ∙ parse-stuck (k y.value) refl p.bytes.now y.next (not-0 e r.bit_pos is) in
      record { gives = refuses g.bytes (is ∙ sym whole) }

-- ---- what was held in another form
module _ {A B : Type 0} (f : A → B) (read : List ℕ → Cursor → Parsed A) {p q : BitReader} where
  pub was_read : {w : B} → Gives (held_as f read) p q (Ok w) → Gives read p q (Ok (value_read read p))
  unfolding refused
  was_read g = record { bytes = g.bytes; next = g.next; value = refl }

  pub was_refused : {e : Refusal} → Gives (held_as f read) p q (Err e) → Gives read p q (Err e)
  unfolding refused
  was_refused g = record { bytes = g.bytes; next = g.next; value = tt }
