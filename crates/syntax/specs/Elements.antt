-- The elements that H.266's syntax tables are made of: u(n), a flag, ue(v), se(v), with a limit, or absent under a condition.
use Rattle.std.specs.Prelude.{ℕ, zero, suc, ◌^◌, ◌<◌, ◌≡◌, refl, List, [], ◌∷◌, ◌++◌, Bool, true, false, not, cond, eqb, ltb, ℤ}
use Rattle.std.proofs.Common.{sym, ap, ap₂, subst, ◌∙◌, add-zero, arith, eq-eqb, eqb-true, lt-ltb, ltb-true}
use Rattle.std.specs.Bool.{beq}
use Rattle.codes.specs.Bits.{to_bits, Binary, binary-to_bits}
use Rattle.codes.specs.Coded.{flag_bit, ue_symbols, se_symbols}
use Rattle.codes.specs.ExpGolomb.{ue_code, ue-binary, signed_of, code_num, signed-code, se_code}
use Rattle.codes.specs.Holds.{Holds}
use Rattle.codes.specs.Symbols.{refusal_in, bits_in, putting, check, checked, refusal-append, bits_in_append, refusal-putting, bits_in_putting, refusal-check, bits_in_check, first, first-right}
use Rattle.bit_reader.specs.declared.Cursor.{Cursor}
pub use Rattle.bit_reader.specs.Gives.{bits_parsed, signed_parsed}
use Rattle.bit_reader.specs.Reading.{cursor_at, demanded, u_read, ue_read, se_read}
use Rattle.bit_reader.specs.Laws.{demanded-true, demanded-refused, ue-small}
use Rattle.bit_reader.specs.ReadBack.{u-reads-back, ue-reads-back, se-reads-back}
use Rattle.bit_reader.proofs.Stuck.{u_stuck, ue_stuck, se_stuck}
use Rattle.bit_reader.specs.Took.{Going, Took, u-took, ue-took, se-took, se-small}
use Rattle.syntax.specs.Element.{parsed, Consumed, ElementOf, Element}
use Rattle.syntax.specs.Round.{took-none, consumed-check, refusal_parts, demanded-going}

-- ---- bits behind a test of writing
pub checked-bits : (ok : Bool) (n : ℕ) (bs : List ℕ) → bits_in (checked ok n bs) ≡ bs
unfolding checked
checked-bits ok n bs = bits_in_append (check ok n) (putting bs) ∙ ap₂ (λ (x y : List ℕ). x ++ y) (bits_in_check ok n) (bits_in_putting bs)

pub checked-refusal : (ok : Bool) (n : ℕ) (bs : List ℕ) → refusal_in (checked ok n bs) ≡ cond ok 0 n
unfolding checked
checked-refusal ok n bs =
    refusal-append (check ok n) (putting bs) ∙ ap₂ first (refusal-check ok n) (refusal-putting bs) ∙ first-right (cond ok 0 n)

-- a test that refuses nothing, with a number, holds
pub test-held : (ok : Bool) (n : ℕ) → 0 < n → cond ok 0 n ≡ 0 → ok ≡ true
test-held true n l h = refl
test-held false n l h = absurd (omega arith)

pub check-held : (ok : Bool) (n : ℕ) → 0 < n → refusal_in (check ok n) ≡ 0 → ok ≡ true
check-held ok n l h = test-held ok n l (sym (refusal-check ok n) ∙ h)

pub coded : (s : List ℕ) (c d : Cursor) (ok : Bool) (n : ℕ) (bs : List ℕ) (a : Bool) → Took s c bs d → ok ≡ true → a ≡ true → Consumed s c d (checked ok n bs) a
coded s c d ok n bs a t e f =
    record { took = rw (checked-bits ok n bs) t; accepted = checked-refusal ok n bs ∙ rw e; given = f }

pub held : {s : List ℕ} {at to : ℕ} (ok : Bool) (n : ℕ) (bs : List ℕ) → Holds s at (bits_in (checked ok n bs)) to → Holds s at bs to
held {s} {at} {to} ok n bs h = subst (λ (l : List ℕ). Holds s at l to) (checked-bits ok n bs) h

-- ---- u(n). Writing a value that does not fit is refused with e; where e is 0 its low bits are put
abbrev pub u : ℕ → ℕ → Element ℕ
u n e =
    record {
      read = λ s c. bits_parsed (u_read s c n);
      symbols = λ v. checked (ltb v (2 ^ n)) e (to_bits n v);
      canonical = λ v. ltb v (2 ^ n);
      binary = λ v. rw (checked-bits (ltb v (2 ^ n)) e (to_bits n v)) (binary-to_bits n v);
      taken = λ s c g. let t = u-took s c n g in coded s c _ _ e _ _ t.0 (lt-ltb _ _ t.1) (lt-ltb _ _ t.1);
      back = λ s at to v r c h. ap bits_parsed (u-reads-back s at to n v (ltb-true _ _ c) (held (ltb v (2 ^ n)) e (to_bits n v) h));
      stuck = λ t s c h. u_stuck s c n h;
    }

-- ---- a flag, u(1). Writing takes every number but 0 for 1
pub flag-bits : (v : ℕ) → v < 2 → to_bits 1 v ≡ flag_bit v ∷ []
unfolding to_bits
flag-bits zero h = refl
flag-bits (suc zero) h = refl
flag-bits (suc (suc v)) h = absurd (omega arith)

pub flag-binary : (t : Bool) → Binary (bits_in (putting (cond t 0 1 ∷ [])))
unfolding bits_in
flag-binary true = (omega arith, tt)
flag-binary false = (omega arith, tt)

abbrev pub flag : Element ℕ
flag =
    record {
      read = λ s c. bits_parsed (u_read s c 1);
      symbols = λ v. putting (flag_bit v ∷ []);
      canonical = λ v. ltb v 2;
      binary = λ v. flag-binary (eqb v 0);
      taken = λ s c g.
          let t = u-took s c 1 g in
          record {
            took = rw (bits_in_putting (flag_bit (u_read s c 1).value ∷ [])) (subst (λ (l : List ℕ). Took s c l (u_read s c 1).next) (flag-bits _ t.1) t.0);
            accepted = refusal-putting (flag_bit (u_read s c 1).value ∷ []);
            given = lt-ltb _ _ t.1;
          };
      back = λ s at to v r c h.
          let l = ltb-true _ _ c in
          ap bits_parsed (u-reads-back s at to 1 v l (subst (λ (l : List ℕ). Holds s at l to) (bits_in_putting (flag_bit v ∷ []) ∙ sym (flag-bits v l)) h));
      stuck = λ t s c h. u_stuck s c 1 h;
    }

-- ---- ue(v) and se(v). Writing refuses what has no code of 32 bits with 25
pub ue_canon : (v : ℕ) → refusal_in (ue_symbols v) ≡ 0 → v < 4294967295
ue_canon v h = ltb-true _ _ (test-held (ltb v 4294967295) 25 (omega arith) (sym (checked-refusal (ltb v 4294967295) 25 (ue_code v)) ∙ h))

pub se_canon : (v : ℤ) → refusal_in (se_symbols v) ≡ 0 → code_num v < 4294967295
se_canon v h = ltb-true _ _ (test-held (ltb (code_num v) 4294967295) 25 (omega arith) (sym (checked-refusal (ltb (code_num v) 4294967295) 25 (se_code v)) ∙ h))

pub se-binary : (v : ℤ) → Binary (se_code v)
unfolding se_code
se-binary v = ue-binary (code_num v)

abbrev pub ue : Element ℕ
ue =
    record {
      read = λ s c. bits_parsed (ue_read s c);
      symbols = ue_symbols;
      canonical = λ v. true;
      binary = λ v. rw (checked-bits (ltb v 4294967295) 25 (ue_code v)) (ue-binary v);
      taken = λ s c g. coded s c _ _ 25 _ _ (ue-took s c g) (lt-ltb _ _ (ue-small s c)) refl;
      back = λ s at to v r c h. ap bits_parsed (ue-reads-back s at to v (ue_canon v r) (held (ltb v 4294967295) 25 (ue_code v) h));
      stuck = λ t. ue_stuck;
    }

abbrev pub se : Element ℤ
se =
    record {
      read = λ s c. signed_parsed (se_read s c);
      symbols = se_symbols;
      canonical = λ v. true;
      binary = λ v. rw (checked-bits (ltb (code_num v) 4294967295) 25 (se_code v)) (se-binary v);
      taken = λ s c g. coded s c _ _ 25 _ _ (se-took s c g) (lt-ltb _ _ (se-small s c)) refl;
      back = λ s at to v r c h. ap signed_parsed (se-reads-back s at to v (se_canon v r) (held (ltb (code_num v) 4294967295) 25 (se_code v) h));
      stuck = λ t. se_stuck;
    }

-- ---- an element whose value must pass a test: in reading behind it, in writing before it
pub limited-taken : {still : Bool} {A : Type 0} (e : ElementOf still A) (ok : A → Bool) (n : ℕ) → 0 < n → (s : List ℕ) (c : Cursor)
    → Going s (demanded (ok (e.read s c).value) n (e.read s c).next)
    → Consumed s c (demanded (ok (e.read s c).value) n (e.read s c).next) (check (ok (e.read s c).value) n ++ e.symbols (e.read s c).value) (e.canonical (e.read s c).value)
limited-taken e ok n l s c g =
    let v = (e.read s c).value in
    let d = (e.read s c).next in
    let a = demanded-going s (ok v) n d l g in
    rw (demanded-true (ok v) n d a.0) (consumed-check s c d (ok v) n _ _ a.0 (e.taken s c a.1))

abbrev pub limited : {still : Bool} {A : Type 0} → ElementOf still A → (A → Bool) → (n : ℕ) → 0 < n → ElementOf still A
limited {A = A} e ok n l =
    record {
      read = λ s c. parsed (e.read s c).value (demanded (ok (e.read s c).value) n (e.read s c).next);
      symbols = λ v. check (ok v) n ++ e.symbols v;
      canonical = e.canonical;
      binary = λ v. rw (bits_in_append (check (ok v) n) (e.symbols v), bits_in_check (ok v) n) (e.binary v);
      taken = limited-taken e ok n l;
      back = λ s at to v r c h.
          let a = refusal_parts (check (ok v) n) (e.symbols v) r in
          let bits : bits_in (check (ok v) n ++ e.symbols v) ≡ bits_in (e.symbols v) = bits_in_append (check (ok v) n) (e.symbols v) ∙ ap (λ (x : List ℕ). x ++ bits_in (e.symbols v)) (bits_in_check (ok v) n) in
          let b = e.back s at to v a.1 c (subst (λ (x : List ℕ). Holds s at x to) bits h) in
          rw (b, demanded-true (ok v) n (cursor_at to) (check-held (ok v) n l a.0));
      stuck = λ t s c h. ap (demanded (ok (e.read s c).value) n) (e.stuck t s c h) ∙ demanded-refused (ok (e.read s c).value) n c h;
    }

-- ---- an element with no bits
-- values that can be told apart
pub record Same (A : Type 0) : Type 0 where
  pub test : A → A → Bool
  pub is : (a b : A) → test a b ≡ true → a ≡ b
  pub self : (a : A) → test a a ≡ true

abbrev pub sameℕ : Same ℕ
sameℕ = record { test = eqb; is = λ a b e. eqb-true a b e; self = λ a. eq-eqb a a refl }

abbrev pub sameℤ : Same ℤ
sameℤ =
    record {
      test = λ a b. eqb (code_num a) (code_num b);
      is = λ a b e. sym (signed-code a) ∙ ap signed_of (eqb-true _ _ e) ∙ signed-code b;
      self = λ a. eq-eqb (code_num a) (code_num a) refl;
    }

-- Reading infers a value. Writing takes what passes a test and refuses the rest with n; where n is 0 it takes all
abbrev pub inferred : {still : Bool} {A : Type 0} → Same A → (value : A) (ok : A → Bool) → ok value ≡ true → ℕ → ElementOf still A
inferred {A = A} same value ok fit n =
    record {
      read = λ s c. parsed value c;
      symbols = λ v. check (ok v) n;
      canonical = λ v. same.test v value;
      binary = λ v. rw (bits_in_check (ok v) n) tt;
      taken = λ s c g. record { took = rw (bits_in_check (ok value) n) (took-none s c g); accepted = refusal-check (ok value) n ∙ rw fit; given = same.self value };
      back = λ s at to v r c h.
          let none : Holds s at [] to = subst (λ (l : List ℕ). Holds s at l to) (bits_in_check (ok v) n) h in
          ap₂ (λ (x : A) (y : ℕ). parsed x (cursor_at y)) (sym (same.is v value c)) (sym (add-zero at) ∙ none.reaches);
      stuck = λ t s c h. refl;
    }

-- a flag that is set
abbrev pub is_set : ℕ → Bool
is_set v = not (eqb v 0)

abbrev pub one_if : Bool → ℕ
one_if b = cond b 1 0

pub one_set : (b : Bool) → beq (is_set (one_if b)) b ≡ true
one_set true = refl
one_set false = refl

-- ---- one element or another, by a condition
unfoldable pub or_else : {still : Bool} {A : Type 0} → Bool → ElementOf still A → ElementOf still A → ElementOf still A
or_else true x y = x
or_else false x y = y

pub or-true : {still : Bool} {A : Type 0} (on : Bool) (x y : ElementOf still A) → on ≡ true → or_else on x y ≡ x
unfolding or_else
or-true on x y e = rw e

pub or-false : {still : Bool} {A : Type 0} (on : Bool) (x y : ElementOf still A) → on ≡ false → or_else on x y ≡ y
unfolding or_else
or-false on x y e = rw e
