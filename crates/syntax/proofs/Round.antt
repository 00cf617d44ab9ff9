-- Reading and writing by one description agree, whatever the description. Proved once, by induction on it.
use Rattle.std.specs.Prelude.{ℕ, ◌+◌, ◌≡◌, Bool, true}
use Rattle.std.proofs.Math.Path.{refl, ap, subst}
use Rattle.std.proofs.Common.{sym, ◌∙◌, add-zero}
use mathlib.Core.List.{List, [], ◌++◌}
use Rattle.std.proofs.Math.ListN.{length}
use Rattle.codes.specs.Bits.{Binary}
use Rattle.codes.specs.Holds.{Holds, holds-left, holds-right}
use Rattle.codes.specs.Symbols.{bits_in, bits_in_append, check, bits_in_check, refusal-putting, bits_in_putting}
use Rattle.bit_reader.specs.declared.Cursor.{Cursor}
use Rattle.bit_reader.specs.Reading.{cursor_at, demanded}
use Rattle.bit_reader.specs.Laws.{demanded-true, demanded-refused}
use Rattle.bit_reader.specs.Took.{Going}
use Rattle.syntax.specs.Element.{parsed, Consumed, ElementOf}
use Rattle.syntax.specs.Syntax.{SyntaxOf, done, element, on_writing, on_reading, parse, symbols_for, bits_for, refusal_for, canonical_for, rebuilt, Faithful, Whole}
use Rattle.syntax.specs.Round.{and-true, and_parts, took-none, consumed-append, consumed-check, binary-symbols, refusal_parts, demanded-going, Accounted}

-- ---- symbols put together

module _ {still : Bool} {R : Type 0} where
  going_before : (d : SyntaxOf still R) (s : List ℕ) (c : Cursor) → Going s (parse d s c).next → Going s c
  unfolding parse
  going_before (done r) s c g = g
  going_before (element e place k) s c g = (e.taken s c (going_before (k (e.read s c).value) s (e.read s c).next g)).took.going
  going_before (on_writing test n k) s c g = going_before k s c g
  going_before (on_reading ok n l k) s c g = (demanded-going s ok n c l (going_before k s (demanded ok n c) g)).1

  accounted : (d : SyntaxOf still R) (P : R → Type 0) → Faithful d P → (s : List ℕ) (c : Cursor) → Going s (parse d s c).next → Accounted d P s c (parse d s c).value (parse d s c).next
  unfolding parse symbols_for canonical_for Faithful
  accounted (done r) P f s c g =
      record { consumed = record { took = rw (bits_in_putting []) (took-none s c g); accepted = refusal-putting []; given = refl }; holds = f }
  accounted (element {A} e place k) P f s c g =
      let v : A = (e.read s c).value in
      let m : Cursor = (e.read s c).next in
      let a = e.taken s c (going_before (k v) s m g) in
      let b = accounted (k v) (λ r. P r × (place r ≡ v)) (f v a.given) s m g in
      record { consumed = rw b.holds.1 (consumed-append s c m _ _ _ _ _ a b.consumed); holds = b.holds.0 }
  accounted (on_writing test n k) P f s c g =
      let b = accounted k (λ r. P r × (test r ≡ true)) f s c g in
      record { consumed = consumed-check s c _ _ n _ _ b.holds.1 b.consumed; holds = b.holds.0 }
  accounted (on_reading ok n l k) P f s c g =
      let a = demanded-going s ok n c l (going_before k s (demanded ok n c) g) in
      let same : demanded ok n c ≡ c = demanded-true ok n c a.0 in
      let b = accounted k P (f a.0) s (demanded ok n c) g in
      let r = parse k s (demanded ok n c) in
      let q : Consumed s c r.next (symbols_for k r.value) (canonical_for k r.value) =
      subst (λ (x : Cursor). Consumed s x r.next (symbols_for k r.value) (canonical_for k r.value)) same b.consumed in
      record { consumed = record { took = q.took; accepted = q.accepted; given = and-true ok _ a.0 q.given }; holds = b.holds }

  -- Reading that ends with a bit left took exactly the bits that writing its record puts, and writing that record is refused nowhere.
  pub read_then_written : (d : SyntaxOf still R) → Faithful d (λ _. Unit {0}) → (s : List ℕ) (c : Cursor) → Going s (parse d s c).next
      → Consumed s c (parse d s c).next (symbols_for d (parse d s c).value) (canonical_for d (parse d s c).value)
  read_then_written d f s c g = (accounted d (λ _. Unit {0}) f s c g).consumed

  -- Bits that writing puts, of a record that reading could have given, are read as what the description makes of that record.
  written-rebuilt : (d : SyntaxOf still R) (s : List ℕ) (at to : ℕ) (r : R) → refusal_for d r ≡ 0 → canonical_for d r ≡ true → Holds s at (bits_for d r) to
      → parse d s (cursor_at at) ≡ parsed (rebuilt d r) (cursor_at to)
  unfolding parse symbols_for canonical_for rebuilt
  written-rebuilt (done e) s at to r h q t =
      let n : Holds s at [] to = subst (λ (l : List ℕ). Holds s at l to) (bits_in_putting []) t in
      ap (λ (x : ℕ). parsed e (cursor_at x)) (sym (add-zero at) ∙ n.reaches)
  written-rebuilt (element e place k) s at to r h q t =
      let a = refusal_parts (e.symbols (place r)) (symbols_for (k (place r)) r) h in
      let b = and_parts _ _ q in
      let xs = bits_in (e.symbols (place r)) in
      let ys = bits_for (k (place r)) r in
      let held : Holds s at (xs ++ ys) to = subst (λ (l : List ℕ). Holds s at l to) (bits_in_append (e.symbols (place r)) (symbols_for (k (place r)) r)) t in
      let here = e.back s at (at + length xs) (place r) a.0 b.0 (holds-left xs ys held) in
      rw here (written-rebuilt (k (place r)) s (at + length xs) to r a.1 b.1 (holds-right xs ys held))
  written-rebuilt (on_writing test n k) s at to r h q t =
      let a = refusal_parts (check (test r) n) (symbols_for k r) h in
      let bits : bits_in (check (test r) n ++ symbols_for k r) ≡ bits_for k r =
      bits_in_append (check (test r) n) (symbols_for k r) ∙ ap (λ (l : List ℕ). l ++ bits_for k r) (bits_in_check (test r) n) in
      written-rebuilt k s at to r a.1 q (subst (λ (l : List ℕ). Holds s at l to) bits t)
  written-rebuilt (on_reading ok n l k) s at to r h q t =
      let a = and_parts _ _ q in
      rw (demanded-true ok n (cursor_at at) a.0) (written-rebuilt k s at to r h a.1 t)

  -- So a record that holds nothing but the values read comes back.
  pub written_then_read : (d : SyntaxOf still R) → Whole d → (s : List ℕ) (at to : ℕ) (r : R) → refusal_for d r ≡ 0 → canonical_for d r ≡ true → Holds s at (bits_for d r) to
      → parse d s (cursor_at at) ≡ parsed r (cursor_at to)
  written_then_read d w s at to r h q t = written-rebuilt d s at to r h q t ∙ ap (λ (x : R). parsed x (cursor_at to)) (w r)

  pub binary_for : (d : SyntaxOf still R) (r : R) → Binary (bits_for d r)
  unfolding symbols_for
  binary_for (done e) r = rw (bits_in_putting []) tt
  binary_for (element e place k) r = binary-symbols (e.symbols (place r)) (symbols_for (k (place r)) r) (e.binary (place r)) (binary_for (k (place r)) r)
  binary_for (on_writing test n k) r = rw (bits_in_append (check (test r) n) (symbols_for k r), bits_in_check (test r) n) (binary_for k r)
  binary_for (on_reading ok n l k) r = binary_for k r

  -- behind a refusal nothing is read
  pub parse-stuck : (d : SyntaxOf still R) → still ≡ true → (s : List ℕ) (c : Cursor) → (c.refused ≡ 0 → ⊥) → (parse d s c).next ≡ c
  unfolding parse
  parse-stuck (done r) t s c h = refl
  parse-stuck (element e place k) t s c h =
      let d = (e.read s c).next in
      let here : d ≡ c = e.stuck t s c h in
      parse-stuck (k (e.read s c).value) t s d (λ o. h (sym (ap (λ (x : Cursor). x.refused) here) ∙ o)) ∙ here
  parse-stuck (on_writing test n k) t s c h = parse-stuck k t s c h
  parse-stuck (on_reading ok n l k) t s c h =
      let same : demanded ok n c ≡ c = demanded-refused ok n c h in
      ap (λ (d : Cursor). (parse k s d).next) same ∙ parse-stuck k t s c h

  -- a syntax structure is an element of a larger one
  abbrev pub structure : (d : SyntaxOf still R) → Faithful d (λ _. Unit {0}) → Whole d → ElementOf still R
  structure d f w =
      record {
        read = parse d;
        symbols = symbols_for d;
        canonical = canonical_for d;
        binary = binary_for d;
        taken = read_then_written d f;
        back = written_then_read d w;
        stuck = parse-stuck d;
      }
