-- Reading and writing by one description agree, whatever the description. Proved once, by induction on it.
use Rattle.std.specs.Prelude.{ℕ, ◌<◌, ◌≡◌, Bool, true, false, cond, ◌&&◌, eqb}
use Rattle.std.proofs.Math.Path.{refl}
use Rattle.std.proofs.Common.{sym, ◌∙◌, le_of_lt, arith}
use mathlib.Core.List.{List, [], ◌++◌}
use Rattle.std.proofs.lemmas.Bool.{eqb-false}
use Rattle.codes.specs.Bits.{Binary, binary-append}
use Rattle.codes.specs.Holds.{holds-none, holds-append}
use Rattle.codes.specs.Symbols.{Symbol, first-none, first-zero, refusal_in, bits_in, refusal-append, bits_in_append, check, check-true}
use Rattle.bit_reader.specs.declared.Cursor.{Cursor}
use Rattle.bit_reader.specs.Reading.{refusal, demanded}
use Rattle.bit_reader.specs.Took.{Going, Took}
use Rattle.syntax.specs.Element.{Consumed}
use Rattle.syntax.specs.Syntax.{SyntaxOf, symbols_for, canonical_for}

-- ---- symbols put together
pub and-true : (a b : Bool) → a ≡ true → b ≡ true → (a && b) ≡ true
and-true a b p q = rw (p, q)

pub and_parts : (a b : Bool) → (a && b) ≡ true → (a ≡ true) × (b ≡ true)
and_parts true b h = (refl, h)
and_parts false b h = absurd (let z : ◌≡◌ {A = ℕ} 0 1 = cc in omega arith)

pub took-none : (s : List ℕ) (c : Cursor) → Going s c → Took s c [] c
took-none s c g = record { going = g; bits = holds-none (le_of_lt g.inside) }

-- one element behind another
pub consumed-append : (s : List ℕ) (c d e : Cursor) (xs ys : List Symbol) (a b : Bool) → Consumed s c d xs a → Consumed s d e ys b → Consumed s c e (xs ++ ys) (a && b)
consumed-append s c d e xs ys a b p q =
    record {
      took = record { going = p.took.going; bits = rw (bits_in_append xs ys) (holds-append p.took.bits q.took.bits) };
      accepted = refusal-append xs ys ∙ first-zero _ _ p.accepted q.accepted;
      given = and-true a b p.given q.given;
    }

-- a test of writing that holds puts nothing and refuses nothing
pub consumed-check : (s : List ℕ) (c d : Cursor) (ok : Bool) (n : ℕ) (xs : List Symbol) (a : Bool) → ok ≡ true → Consumed s c d xs a → Consumed s c d (check ok n ++ xs) a
consumed-check s c d ok n xs a e p = rw (check-true ok n e) p

pub binary-symbols : (xs ys : List Symbol) → Binary (bits_in xs) → Binary (bits_in ys) → Binary (bits_in (xs ++ ys))
binary-symbols xs ys p q = rw (bits_in_append xs ys) (binary-append (bits_in xs) (bits_in ys) p q)

pub refusal_parts : (xs ys : List Symbol) → refusal_in (xs ++ ys) ≡ 0 → (refusal_in xs ≡ 0) × (refusal_in ys ≡ 0)
refusal_parts xs ys h = first-none _ _ (sym (refusal-append xs ys) ∙ h)

-- a test of reading that did not stop it held
pub demanded-going : (s : List ℕ) (ok : Bool) (n : ℕ) (c : Cursor) → 0 < n → Going s (demanded ok n c) → (ok ≡ true) × Going s c
unfolding demanded
demanded-going s true n c h g = (refl, g)
demanded-going s false n c h g = absurd (split (eqb c.refused 0) refl g)
  where
    split : (t : Bool) → eqb c.refused 0 ≡ t → Going s (cond t (refusal c n) c) → ⊥
    split true e g = omega (arith, g.unrefused)
    split false e g = eqb-false c.refused 0 e g.unrefused

pub record Accounted {still : Bool} {R : Type 0} (d : SyntaxOf still R) (P : R → Type 0) (s : List ℕ) (c : Cursor) (r : R) (e : Cursor) : Type 0 where
  pub consumed : Consumed s c e (symbols_for d r) (canonical_for d r)
  pub holds : P r
