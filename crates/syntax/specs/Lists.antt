-- Lists of elements: of a given length, and of parts that depend on a state which each part moves on.
use Prim.Native.Nat.{ℕ, zero, suc, ◌+◌}
use Rattle.std.specs.Prelude.{◌≡◌, Bool, true, false, ◌&&◌, eqb, length}
use Rattle.std.proofs.Math.Path.{refl, ap}
use Rattle.std.proofs.Common.{sym, subst, ◌∙◌, add-zero, arith}
use mathlib.Core.List.{List, [], ◌∷◌, ◌++◌}
use Rattle.std.proofs.lemmas.Bool.{eqb-false}
use borrow.Author.Tests.{eqb-true}
use Rattle.codes.specs.Bits.{Binary}
use Rattle.codes.specs.Holds.{Holds, holds-left, holds-right}
use Rattle.codes.specs.Symbols.{Symbol, refusal_in, bits_in, check, bits_in_append, bits_in_check, bits_in_putting, refusal-putting}
use Rattle.bit_reader.specs.declared.Cursor.{Cursor}
use Rattle.bit_reader.specs.Reading.{cursor_at}
use Rattle.bit_reader.specs.Took.{Going}
use Rattle.syntax.specs.Element.{Parsed, parsed, Consumed, ElementOf, Element}
use Rattle.syntax.specs.Elements.{or_else}
use Rattle.syntax.specs.Round.{and_parts, took-none, consumed-append, binary-symbols, refusal_parts}

pub not-true : false ≡ true → ⊥
not-true e = let z : ◌≡◌ {A = ℕ} 0 1 = cc in omega arith

module _ {A : Type 0} where
  -- ---- the empty list; writing another is refused with n
  abbrev pub none_symbols : ℕ → List A → List Symbol
  none_symbols n [] = []
  none_symbols n (x ∷ xs) = check false n

  abbrev pub none_canonical : List A → Bool
  none_canonical [] = true
  none_canonical (x ∷ xs) = false

  pub none-bits : (n : ℕ) (l : List A) → bits_in (none_symbols n l) ≡ []
  none-bits n [] = bits_in_putting []
  none-bits n (x ∷ xs) = bits_in_check false n

  pub none-back : (s : List ℕ) (at to : ℕ) (l : List A) → none_canonical l ≡ true → Holds s at [] to → parsed [] (cursor_at at) ≡ parsed l (cursor_at to)
  none-back s at to [] c h = ap (λ (y : ℕ). parsed [] (cursor_at y)) (sym (add-zero at) ∙ h.reaches)
  none-back s at to (x ∷ xs) c h = absurd (not-true c)

  abbrev pub none_of : {still : Bool} → ℕ → ElementOf still (List A)
  none_of n =
      record {
        read = λ s c. parsed [] c;
        symbols = none_symbols n;
        canonical = none_canonical;
        binary = λ l. rw (none-bits n l) tt;
        taken = λ s c g. record { took = rw (bits_in_putting []) (took-none s c g); accepted = refusal-putting []; given = refl };
        back = λ s at to l r c h. none-back s at to l c (subst (λ (x : List ℕ). Holds s at x to) (none-bits n l) h);
        stuck = λ t s c h. refl;
      }

  abbrev pub none : ℕ → Element (List A)
  none n = none_of n

  -- ---- one, and more that may depend on it. Reading stops at a refusal; writing a list that is too short is refused with n
  module _ {still : Bool} (e : ElementOf still A) (rest : A → ElementOf still (List A)) (n : ℕ) where
    abbrev pub cons_more : Bool → A → List ℕ → Cursor → Parsed (List A)
    cons_more true v s c = parsed (v ∷ ((rest v).read s c).value) ((rest v).read s c).next
    cons_more false v s c = parsed [] c

    abbrev pub cons_read : List ℕ → Cursor → Parsed (List A)
    cons_read s c = cons_more (eqb (e.read s c).next.refused 0) (e.read s c).value s (e.read s c).next

    abbrev pub cons_symbols : List A → List Symbol
    cons_symbols [] = check false n
    cons_symbols (x ∷ xs) = e.symbols x ++ (rest x).symbols xs

    abbrev pub cons_canonical : List A → Bool
    cons_canonical [] = false
    cons_canonical (x ∷ xs) = e.canonical x && (rest x).canonical xs

    pub cons-binary : (l : List A) → Binary (bits_in (cons_symbols l))
    cons-binary [] = rw (bits_in_check false n) tt
    cons-binary (x ∷ xs) = binary-symbols (e.symbols x) ((rest x).symbols xs) (e.binary x) ((rest x).binary xs)

    pub cons-taken-more : (t : Bool) (s : List ℕ) (c : Cursor) → eqb (e.read s c).next.refused 0 ≡ t
        → Going s (cons_more t (e.read s c).value s (e.read s c).next).next
        → Consumed s c (cons_more t (e.read s c).value s (e.read s c).next).next (cons_symbols (cons_more t (e.read s c).value s (e.read s c).next).value)
        (cons_canonical (cons_more t (e.read s c).value s (e.read s c).next).value)
    cons-taken-more true s c q g =
        let b = (rest (e.read s c).value).taken s (e.read s c).next g in
        consumed-append s c (e.read s c).next _ _ _ _ _ (e.taken s c b.took.going) b
    cons-taken-more false s c q g = absurd (eqb-false _ _ q g.unrefused)

    pub cons-taken : (s : List ℕ) (c : Cursor) → Going s (cons_read s c).next → Consumed s c (cons_read s c).next (cons_symbols (cons_read s c).value) (cons_canonical (cons_read s c).value)
    cons-taken s c g = cons-taken-more (eqb (e.read s c).next.refused 0) s c refl g

    pub cons-back : (s : List ℕ) (at to : ℕ) (l : List A) → refusal_in (cons_symbols l) ≡ 0 → cons_canonical l ≡ true → Holds s at (bits_in (cons_symbols l)) to
        → cons_read s (cursor_at at) ≡ parsed l (cursor_at to)
    cons-back s at to [] r c h = absurd (not-true c)
    cons-back s at to (x ∷ xs) r c h =
        let a = refusal_parts (e.symbols x) ((rest x).symbols xs) r in
        let b = and_parts _ _ c in
        let bs = bits_in (e.symbols x) in
        let cs = bits_in ((rest x).symbols xs) in
        let t : Holds s at (bs ++ cs) to = subst (λ (l : List ℕ). Holds s at l to) (bits_in_append (e.symbols x) ((rest x).symbols xs)) h in
        let m = at + length bs in
        let p = e.back s at m x a.0 b.0 (holds-left bs cs t) in
        let q = (rest x).back s m to xs a.1 b.1 (holds-right bs cs t) in
        rw (p, q)

    pub cons-stuck : still ≡ true → (s : List ℕ) (c : Cursor) → (c.refused ≡ 0 → ⊥) → (cons_read s c).next ≡ c
    cons-stuck t s c h = more (eqb (e.read s c).next.refused 0) refl
      where
        more : (u : Bool) → eqb (e.read s c).next.refused 0 ≡ u → (cons_more u (e.read s c).value s (e.read s c).next).next ≡ c
        more true q = absurd (h (sym (ap (λ (d : Cursor). d.refused) (e.stuck t s c h)) ∙ eqb-true _ _ q))
        more false q = e.stuck t s c h

    abbrev pub cons : ElementOf still (List A)
    cons = record { read = cons_read; symbols = cons_symbols; canonical = cons_canonical; binary = cons-binary; taken = cons-taken; back = cons-back; stuck = cons-stuck }

  -- ---- a list of the given length; writing another length is refused with n
  unfoldable pub many : {still : Bool} → ℕ → ElementOf still A → ℕ → ElementOf still (List A)
  many zero e n = none_of n
  many (suc k) e n = cons e (λ _. many k e n) n

  pub many-length : {still : Bool} (k : ℕ) (e : ElementOf still A) (n : ℕ) (l : List A) → (many k e n).canonical l ≡ true → length l ≡ k
  unfolding many
  many-length zero e n [] h = refl
  many-length zero e n (x ∷ l) h = absurd (not-true h)
  many-length (suc k) e n [] h = absurd (not-true h)
  many-length (suc k) e n (x ∷ l) h = ap suc (many-length k e n l (and_parts (e.canonical x) ((many k e n).canonical l) h).1)

  -- ---- a list whose length and parts follow from a state: while `more` holds, at most `fuel` parts
  unfoldable pub walk : {still : Bool} {S : Type 0} → ℕ → (S → Bool) → (S → ElementOf still A) → (S → A → S) → ℕ → S → ElementOf still (List A)
  walk zero more part next n x = none_of n
  walk (suc fuel) more part next n x = or_else (more x) (cons (part x) (λ a. walk fuel more part next n (next x a)) n) (none_of n)
