-- The list of ids: what the code counts and the bits it reads, as the description has them.
use Rattle.std.specs.Prelude.{ℕ, zero, suc, ◌+◌, ◌≤◌, min, ◌≡◌, refl, List, [], Bool, true, false, cond, eqb, leb, length, Result, Ok, Err}
use Rattle.std.specs.Result.{IsErr, IsErrAnd}
use Rattle.std.proofs.Common.{sym, ap, ◌∙◌, arith, eqb-true, eq-eqb, leb-true}
use Rattle.std.proofs.lemmas.List.Edits.{sets}
use Rattle.std.proofs.lemmas.Bool.{eqb-false}
use Rattle.refusal.specs.declared.Refusal.{Refusal}
use Rattle.bit_reader.specs.declared.BitReader.{BitReader}
use Rattle.bit_reader.specs.declared.BitsRead.{BitsRead}
use Rattle.bit_reader.specs.declared.Cursor.{Cursor}
use Rattle.bit_reader.specs.Gives.{Parsed, parsed, cursor_of, bits_parsed, Gives, value_read, held_as}
use Rattle.bit_reader.specs.Laws.{u_stays, u-made}
use Rattle.bit_reader.specs.Reading.{u_read}
use Rattle.bit_reader.proofs.Gives.{same-read, holds, holds-none, at_exit, refused_back, not-0}
use Rattle.pps_record.specs.declared.VvcPpsSubpicIdMapping.{VvcPpsSubpicIdMapping}
use Rattle.pps_syntax.specs.Record.{mapping_of}
use Rattle.pps_syntax.specs.SubpicIds.{SubpicIds, subpic_ids}
use Rattle.syntax.specs.Elements.{u, or_else}
use Rattle.syntax.specs.Lists.{many, none}
use Rattle.syntax.specs.Syntax.{parse, ◌>>=◌}
use Rattle.pps_fields.specs.ListReads.{list-none, list-stops, list-many, many-counted}

-- nothing is read once there is a refusal
many-refused : (count bits : ℕ) (s : List ℕ) (c : Cursor) → (c.refused ≡ 0 → ⊥) → (many count (u bits 27) 27).read s c ≡ parsed [] c
many-refused zero bits s c h = sym (list-many 0 (u bits 27) 27 s c) ∙ list-none (u bits 27).read s c
many-refused (suc k) bits s c h = sym (list-many (suc k) (u bits 27) 27 s c) ∙ list-stops (u bits 27).read k s c c 0 (ap bits_parsed (u_stays s c bits h)) h

-- and no id is refused
many-open : (count bits : ℕ) (s : List ℕ) (c : Cursor) → c.refused ≡ 0 → ((many count (u bits 27) 27).read s c).next.refused ≡ 0
unfolding many
many-open zero bits s c h = h
many-open (suc k) bits s c h =
    let d = (u_read s c bits).next in
    let o : d.refused ≡ 0 = ap (λ (r : BitsRead). r.next.refused) (sym (u-made s c bits _ _ h refl refl)) in
    rw (eq-eqb d.refused 0 o) (many-open k bits s d o)

-- so a list that is refused is empty
list-empty : (on : Bool) (count bits : ℕ) (s : List ℕ) (c : Cursor) → (((or_else on (many count (u bits 27) 27) (none 0)).read s c).next.refused ≡ 0 → ⊥)
    → ((or_else on (many count (u bits 27) 27) (none 0)).read s c).value ≡ []
unfolding or_else
list-empty false count bits s c h = refl
list-empty true count bits s c h = split (eqb c.refused 0) refl
  where
    split : (t : Bool) → eqb c.refused 0 ≡ t → ((many count (u bits 27) 27).read s c).value ≡ []
    split true e = absurd (h (many-open count bits s c (eqb-true c.refused 0 e)))
    split false e = ap (λ (r : Parsed (List ℕ)). r.value) (many-refused count bits s c (eqb-false c.refused 0 e))

-- the ids of a mapping: a coded length has at most 16 bits
pub ids-coded : (on : Bool) (num len : ℕ) {count : ℕ} {p q : BitReader} {x : Result (List ℕ) Refusal} → count ≡ cond on (num + 1) 0 → len ≤ 15
    → Gives (many count (u (min (len + 1) 32) 27) 27).read p q x → Gives (or_else on (many (suc num) (u (suc (min len 15)) 27) 27) (none 0)).read p q x
ids-coded on num len {count} {p} e h g =
    let bits : min (len + 1) 32 ≡ suc (min len 15) = omega arith in
    same-read (ap (λ (n : ℕ). (many count (u n 27) 27).read p.bytes.now (cursor_of p)) bits ∙ many-counted on num count (u (suc (min len 15)) 27) 27 0 p.bytes.now (cursor_of p) e) g

-- ---- the mapping, its ids in the table
pub ids-behind : (partitioned : Bool) (s : List ℕ) (c : Cursor) → ((parse (subpic_ids partitioned) s c).next.refused ≡ 0 → ⊥) → (parse (subpic_ids partitioned) s c).value.pps_subpic_id ≡ []
unfolding subpic_ids parse ◌>>=◌
ids-behind partitioned s c h = list-empty _ _ _ s _ h

module _ (partitioned : Bool) {p q : BitReader} where
  pub mapping_refused : {x : Result VvcPpsSubpicIdMapping Refusal} {e : Refusal} {t : List ℕ} → IsErr x × IsErrAnd x (λ y. y ≡ e) → Gives (parse (subpic_ids partitioned)) p q (Err e)
      → Gives (held_as mapping_of (parse (subpic_ids partitioned))) p q x × (t ≡ sets t 0 (value_read (parse (subpic_ids partitioned)) p).pps_subpic_id)
  mapping_refused {e = e} {t = t} h g =
      (at_exit h.1 (holds-none mapping_of g), ap (sets t 0) (sym (ids-behind partitioned p.bytes.now (cursor_of p) (not-0 e q.bit_pos (refused_back g)))))

  pub mapping_read : {m : SubpicIds} {n : ℕ} (t₀ : List ℕ) {t : List ℕ} → Gives (parse (subpic_ids partitioned)) p q (Ok m) → length m.pps_subpic_id ≡ n → t ≡ sets t₀ 0 m.pps_subpic_id
      → Gives (held_as mapping_of (parse (subpic_ids partitioned))) p q (Ok (record (mapping_of m) { num_subpic_ids = n })) × (t ≡ sets t₀ 0 (value_read (parse (subpic_ids partitioned)) p).pps_subpic_id)
  mapping_read {m} {n} t₀ g e f =
      (holds mapping_of g (ap (λ (k : ℕ). record (mapping_of m) { num_subpic_ids = k }) (sym e)), f ∙ ap (λ (v : SubpicIds). sets t₀ 0 v.pps_subpic_id) (sym g.value))

-- code reads at most 32 bits for an id; a coded length that was not refused has at most 16
pub id-bits : (count len : ℕ) (s : List ℕ) (c : Cursor) → (c.refused ≡ 0 → leb len 15 ≡ true)
    → (many count (u (min (len + 1) 32) 27) 27).read s c ≡ (many count (u (suc (min len 15)) 27) 27).read s c
id-bits count len s c held = split (eqb c.refused 0) refl
  where
    split : (t : Bool) → eqb c.refused 0 ≡ t → (many count (u (min (len + 1) 32) 27) 27).read s c ≡ (many count (u (suc (min len 15)) 27) 27).read s c
    split true e =
        let l = leb-true len 15 (held (eqb-true c.refused 0 e)) in
        let m : min (len + 1) 32 ≡ suc (min len 15) = omega arith in
        ap (λ (n : ℕ). (many count (u n 27) 27).read s c) m
    split false e = many-refused count (min (len + 1) 32) s c (eqb-false c.refused 0 e) ∙ sym (many-refused count (suc (min len 15)) s c (eqb-false c.refused 0 e))
