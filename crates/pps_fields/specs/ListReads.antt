-- Values read one behind the other into a lent table, up to a count or a refusal.
use Rattle.std.specs.Prelude.{ℕ, zero, suc, ◌+◌, ◌-◌, ◌≤◌, ◌<◌, ◌≡◌, List, [], ◌∷◌, map, Bool, true, false, cond, eqb, length, set, Ok, Err}
use Rattle.std.proofs.Math.Path.{refl}
use Rattle.std.proofs.Common.{sym, ap, ap₂, ◌∙◌, map-id, add-zero, zero-add, sub-eq-zero_of_le, add-one, arith, length-set}
use Rattle.std.proofs.Math.Nat.{sub-zero}
use Rattle.std.proofs.lemmas.List.Edits.{sets}
use borrow.Author.Tests.{eq-eqb, ne_eqb}
use Rattle.bit_reader.specs.declared.Cursor.{Cursor}
use Rattle.refusal.specs.declared.Refusal.{Refusal}
use Rattle.refusal.specs.Numbers.{number}
use Rattle.bit_reader.specs.declared.BitReader.{BitReader}
use Rattle.bit_reader.specs.Reading.{refusal}
use Rattle.bit_reader.specs.Gives.{Parsed, parsed, cursor_of, Gives, value_read}
use Rattle.bit_reader.proofs.Gives.{given, given_back, refuses, refused_back, not-0, over}
use Rattle.syntax.specs.Element.{ElementOf}
use Rattle.syntax.specs.Elements.{or_else}
use Rattle.syntax.specs.Lists.{many, none_of, cons_more}

module _ {A : Type 0} (read : List ℕ → Cursor → Parsed A) where
  -- `count` values, each read by `read`. Reading stops at a refusal; the value at which it stops is not in the list
  unfoldable pub list_read : ℕ → List ℕ → Cursor → Parsed (List A)
  list_read zero s c = parsed [] c
  list_read (suc k) s c =
      cond (eqb (read s c).next.refused 0)
      (parsed ((read s c).value ∷ (list_read k s (read s c).next).value) (list_read k s (read s c).next).next)
      (parsed [] (read s c).next)

  pub list-none : (s : List ℕ) (c : Cursor) → list_read 0 s c ≡ parsed [] c
  unfolding list_read
  list-none s c = refl

  pub list-more : (k : ℕ) (s : List ℕ) (c d : Cursor) (v : A) → parsed v d ≡ read s c → d.refused ≡ 0
      → list_read (suc k) s c ≡ parsed (v ∷ (list_read k s d).value) (list_read k s d).next
  unfolding list_read
  list-more k s c d v e h = rw (← e, eq-eqb d.refused 0 h)

  pub list-stops : (k : ℕ) (s : List ℕ) (c d : Cursor) (v : A) → parsed v d ≡ read s c → (d.refused ≡ 0 → ⊥) → list_read (suc k) s c ≡ parsed [] d
  unfolding list_read
  list-stops k s c d v e h = rw (← e, ne_eqb d.refused 0 h)

-- a list of the syntax is read so, whatever writing it makes of another length
pub list-many : {still : Bool} {A : Type 0} (count : ℕ) (e : ElementOf still A) (n : ℕ) (s : List ℕ) (c : Cursor) → list_read e.read count s c ≡ (many count e n).read s c
unfolding list_read many
list-many zero e n s c = refl
list-many {A} (suc k) e n s c = step (eqb (e.read s c).next.refused 0) (list-many k e n s (e.read s c).next)
  where
    step : (t : Bool)
        → list_read e.read k s (e.read s c).next ≡ (many k e n).read s (e.read s c).next
        → cond t (parsed ((e.read s c).value ∷ (list_read e.read k s (e.read s c).next).value) (list_read e.read k s (e.read s c).next).next) (parsed [] (e.read s c).next)
        ≡ cons_more e (λ _. many k e n) n t (e.read s c).value s (e.read s c).next
    step true h = ap (λ (r : Parsed (List A)). parsed ((e.read s c).value ∷ r.value) r.next) h
    step false h = refl

-- a list that is coded where `on`, its length being coded minus 1
pub many-counted : {still : Bool} {A : Type 0} (on : Bool) (n count : ℕ) (e : ElementOf still A) (k j : ℕ) (s : List ℕ) (c : Cursor) → count ≡ cond on (n + 1) 0
    → (many count e k).read s c ≡ (or_else on (many (suc n) e k) (none_of j)).read s c
unfolding many or_else
many-counted true n count e k j s c h = rw (h, add-one n)
many-counted false n count e k j s c h = rw h

-- ---- a loop that reads into a table
module _ {A B : Type 0} (read : List ℕ → Cursor → Parsed A) (put : A → B) (count from : ℕ) (p₀ : BitReader) (t₀ : List B) where
  abbrev whole : Parsed (List A)
  whole = list_read read count p₀.bytes.now (cursor_of p₀)

  -- i values are in their places; what is left to be read and stored makes the whole
  pub record Filling (i : ℕ) (p : BitReader) (t : List B) : Type 0 where
    pub bytes : p.bytes ≡ p₀.bytes
    pub within : i ≤ count
    pub long : length t ≡ length t₀
    pub next : whole.next ≡ (list_read read (count - i) p₀.bytes.now (cursor_of p)).next
    pub stored : length whole.value ≡ i + length (list_read read (count - i) p₀.bytes.now (cursor_of p)).value
    pub table : sets t₀ from (map put whole.value) ≡ sets t (from + i) (map put (list_read read (count - i) p₀.bytes.now (cursor_of p)).value)

  -- all that is read is in its place
  pub record Filled (n : ℕ) (c : Cursor) (t : List B) : Type 0 where
    pub next : c ≡ whole.next
    pub stored : n ≡ length whole.value
    pub table : t ≡ sets t₀ from (map put whole.value)

-- one less to be read
pub one_left : (count i : ℕ) → i < count → count - i ≡ suc (count - (i + 1))
one_left count i h = omega arith

module _ {A B : Type 0} {read : List ℕ → Cursor → Parsed A} {put : A → B} {count from : ℕ} {p₀ : BitReader} {t₀ : List B} where
  pub fill_begins : Filling read put count from p₀ t₀ 0 p₀ t₀
  fill_begins =
      record {
        bytes = refl;
        within = omega arith;
        long = refl;
        next = rw (sub-zero count);
        stored = rw (sub-zero count, zero-add (length (list_read read count p₀.bytes.now (cursor_of p₀)).value));
        table = rw (sub-zero count, add-zero from);
      }

  pub fill_more : {i : ℕ} {p q : BitReader} {t u : List B} {v : A} → Filling read put count from p₀ t₀ i p t → i < count → Gives read p q (Ok v) → u ≡ set t (from + i) (put v)
      → Filling read put count from p₀ t₀ (i + 1) q u
  fill_more {i} {p} {q} {t} {u} {v} f h g w =
      let s = p₀.bytes.now in
      let c = cursor_of p in
      let d = cursor_of q in
      let k = count - (i + 1) in
      let e : parsed v d ≡ read s c = given_back (over f.bytes g) in
      let step : list_read read (count - i) s c ≡ parsed (v ∷ (list_read read k s d).value) (list_read read k s d).next = rw (one_left count i h) (list-more read k s c d v e refl) in
      record {
        bytes = g.bytes ∙ f.bytes;
        within = omega arith;
        long = rw w (length-set t (from + i) (put v) ∙ f.long);
        next = f.next ∙ rw step;
        stored = f.stored ∙ ap (λ (r : Parsed (List A)). i + length r.value) step ∙ one_on i (length (list_read read k s d).value);
        table =
            f.table ∙ ap (λ (r : Parsed (List A)). sets t (from + i) (map put r.value)) step
            ∙ ap₂ (λ (x : List B) (n : ℕ). sets x n (map put (list_read read k s d).value)) (sym w) (omega arith);
      }
    where
      one_on : (i n : ℕ) → i + suc n ≡ i + 1 + n
      one_on i n = omega arith

  -- nothing is left
  closed : (i : ℕ) (p : BitReader) (d : Cursor) (t : List B) → Filling read put count from p₀ t₀ i p t → list_read read (count - i) p₀.bytes.now (cursor_of p) ≡ parsed [] d → Filled read put count from p₀ t₀ i d t
  closed i p d t f none =
      record { next = sym (f.next ∙ rw none); stored = sym (f.stored ∙ rw (none, add-zero i)); table = sym (f.table ∙ rw none) }

  pub fill_ends : {i : ℕ} {p : BitReader} {t : List B} → Filling read put count from p₀ t₀ i p t → count ≤ i → Filled read put count from p₀ t₀ i (cursor_of p) t
  fill_ends {i} {p} {t} f h = closed i p (cursor_of p) t f (rw (sub-eq-zero_of_le h) (list-none read p₀.bytes.now (cursor_of p)))

  pub fill_stops : {i : ℕ} {p q : BitReader} {t : List B} {e : Refusal} → Filling read put count from p₀ t₀ i p t → i < count → Gives read p q (Err e)
      → Filled read put count from p₀ t₀ i (refusal (cursor_of q) (number e)) t
  fill_stops {i} {p} {q} {t} {e} f h g =
      let s = p₀.bytes.now in
      let c = cursor_of p in
      let is : refusal (cursor_of q) (number e) ≡ (read s c).next = refused_back (over f.bytes g) in
      closed i p (refusal (cursor_of q) (number e)) t f
      (rw (one_left count i h) (list-stops read (count - (i + 1)) s c (read s c).next (read s c).value refl (not-0 e q.bit_pos is) ∙ ap (parsed []) (sym is)))

  -- x is what a contract calls the whole
  pub filled_as : {n : ℕ} {c : Cursor} {t : List B} {x : Parsed (List A)} → list_read read count p₀.bytes.now (cursor_of p₀) ≡ x → Filled read put count from p₀ t₀ n c t
      → (c ≡ x.next) × ((n ≡ length x.value) × (t ≡ sets t₀ from (map put x.value)))
  filled_as e f = rw (← e) (f.next, (f.stored, f.table))

-- numbers, stored as they are
pub filled_numbers : {read : List ℕ → Cursor → Parsed ℕ} {count from : ℕ} {p₀ : BitReader} {t₀ : List ℕ} {n : ℕ} {c : Cursor} {t : List ℕ} {x : Parsed (List ℕ)}
    → list_read read count p₀.bytes.now (cursor_of p₀) ≡ x → Filled read (λ v. v) count from p₀ t₀ n c t → (c ≡ x.next) × ((n ≡ length x.value) × (t ≡ sets t₀ from x.value))
filled_numbers e f = let g = filled_as e f in (g.0, (g.1.0, g.1.1 ∙ rw map-id))

-- the whole list, where no value was refused
pub filled-whole : {A B : Type 0} {read : List ℕ → Cursor → Parsed A} {put : A → B} {count from : ℕ} {p₀ p : BitReader} {t₀ t : List B} {i : ℕ} (x : List ℕ → Cursor → Parsed (List A))
    → list_read read count p₀.bytes.now (cursor_of p₀) ≡ x p₀.bytes.now (cursor_of p₀) → Filling read put count from p₀ t₀ i p t → count ≤ i
    → Gives x p₀ p (Ok (value_read x p₀)) × (length (value_read x p₀) ≡ count) × (t ≡ sets t₀ from (map put (value_read x p₀)))
filled-whole {count = count} {p₀ = p₀} {i = i} x e f h =
    let all = filled_as e (fill_ends f h) in
    (given f.bytes (ap (parsed (value_read x p₀)) all.0), omega (arith, all.1.0, f.within), all.1.1)

pub filled-list : {read : List ℕ → Cursor → Parsed ℕ} {count from : ℕ} {p₀ p : BitReader} {t₀ t : List ℕ} {i : ℕ} (x : List ℕ → Cursor → Parsed (List ℕ))
    → list_read read count p₀.bytes.now (cursor_of p₀) ≡ x p₀.bytes.now (cursor_of p₀) → Filling read (λ v. v) count from p₀ t₀ i p t → count ≤ i
    → Gives x p₀ p (Ok (value_read x p₀)) × (length (value_read x p₀) ≡ count) × (t ≡ sets t₀ from (value_read x p₀))
filled-list x e f h = let g = filled-whole x e f h in (g.0, g.1, g.2 ∙ rw map-id)

-- a value was refused
pub filled-stop : {A B : Type 0} {read : List ℕ → Cursor → Parsed A} {put : A → B} {count from : ℕ} {p₀ p q : BitReader} {t₀ t : List B} {i : ℕ} {e : Refusal} (x : List ℕ → Cursor → Parsed (List A))
    → list_read read count p₀.bytes.now (cursor_of p₀) ≡ x p₀.bytes.now (cursor_of p₀) → Filling read put count from p₀ t₀ i p t → i < count → Gives read p q (Err e) → Gives x p₀ q (Err e)
filled-stop x e f h g = refuses (g.bytes ∙ f.bytes) (filled_as e (fill_stops f h g)).0
