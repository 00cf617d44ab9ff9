-- The tests before the first field, one law for each outcome.
use Rattle.std.specs.Prelude.{ℕ, ◌-◌, ◌<◌, ◌≤◌, ◌≡◌, refl, List, Bool, true, false, not, cond, ltb, eqb, length, Ok, Err}
use Rattle.std.proofs.Common.{sym, ap, arith, lit<}
use borrow.Author.Tests.{lt-ltb, le-ltb, eq-eqb, ne_eqb, ltb-true, ltb-false}
use Rattle.refusal.specs.declared.Refusal.{Refusal}
use Rattle.refusal.specs.declared.Refusal.TheVariants.{NalTooShort}
use Rattle.codes.specs.Bytes.{bits_at}
use Rattle.h266.specs.Header.{header_of, fields_of}
use Rattle.h266.specs.declared.VvcNalHeader.{VvcNalHeader}
use Rattle.pps_syntax.specs.Rbsp.{before_fields}

-- a header says that there are two bytes, and the type
pub record TwoBytes (nal : List ℕ) (h : VvcNalHeader) : Type 0 where
  pub long : 2 ≤ length nal
  pub type : h.nal_unit_type ≡ bits_at nal 8 5

pub header-short : (nal : List ℕ) (k : Refusal) → header_of nal ≡ Err k → (length nal < 2) × (NalTooShort ≡ k)
unfolding header_of
header-short nal k e = split (ltb (length nal) 2) refl e
  where
    split : (t : Bool) → ltb (length nal) 2 ≡ t → cond t (Err NalTooShort) (Ok (fields_of nal)) ≡ Err k → (length nal < 2) × (NalTooShort ≡ k)
    split true q z = (ltb-true _ _ q, (cc))
    split false q z = absurd (let n : ◌≡◌ {A = ℕ} 0 1 = cc in omega arith)

pub header-long : (nal : List ℕ) (h : VvcNalHeader) → header_of nal ≡ Ok h → TwoBytes nal h
unfolding header_of fields_of
header-long nal h e = split (ltb (length nal) 2) refl e
  where
    split : (t : Bool) → ltb (length nal) 2 ≡ t → cond t (Err NalTooShort) (Ok (fields_of nal)) ≡ Ok h → TwoBytes nal h
    split true q z = absurd (let n : ◌≡◌ {A = ℕ} 0 1 = cc in omega arith)
    split false q z =
        let s : fields_of nal ≡ h = cc in
        record { long = ltb-false _ _ q; type = ap (λ (x : VvcNalHeader). x.nal_unit_type) (sym s) }

module _ (nal : List ℕ) (work : ℕ) (tables : Bool) where
  pub before_1 : length nal < 2 → 1 ≡ before_fields nal work tables
  unfolding before_fields
  before_1 a = rw (lt-ltb _ _ a)

  module _ (a : 2 ≤ length nal) where
    pub before_2 : (bits_at nal 8 5 ≡ 16 → ⊥) → 2 ≡ before_fields nal work tables
    unfolding before_fields
    before_2 b = rw (le-ltb _ _ a, ne_eqb _ _ b)

    module _ (b : bits_at nal 8 5 ≡ 16) where
      pub before_3 : 65535 < length nal → 3 ≡ before_fields nal work tables
      unfolding before_fields
      before_3 c = rw (le-ltb _ _ a, eq-eqb _ _ b, lt-ltb _ _ c)

      module _ (c : length nal ≤ 65535) where
        pub before_4 : work < length nal - 2 → 4 ≡ before_fields nal work tables
        unfolding before_fields
        before_4 d = rw (le-ltb _ _ a, eq-eqb _ _ b, le-ltb _ _ c, lt-ltb _ _ d)

        module _ (d : length nal - 2 ≤ work) where
          pub before_5 : tables ≡ false → 5 ≡ before_fields nal work tables
          unfolding before_fields
          before_5 e = rw (le-ltb _ _ a, eq-eqb _ _ b, le-ltb _ _ c, le-ltb _ _ d, e)

          pub before_0 : tables ≡ true → 0 ≡ before_fields nal work tables
          unfolding before_fields
          before_0 e = rw (le-ltb _ _ a, eq-eqb _ _ b, le-ltb _ _ c, le-ltb _ _ d, e)

-- ---- what it says that they all pass
pub record Passed (nal : List ℕ) (work : ℕ) (tables : Bool) : Type 0 where
  pub header : 2 ≤ length nal
  pub short : length nal ≤ 65535
  pub room : length nal - 2 ≤ work
  pub fit : tables ≡ true

next-test : (b : Bool) (n m : ℕ) → 0 < n → 0 ≡ cond b n m → (b ≡ false) × (0 ≡ m)
next-test true n m l e = absurd (omega arith)
next-test false n m l e = (refl, e)

not-false : (b : Bool) → not b ≡ false → b ≡ true
not-false true e = refl
not-false false e = absurd (let n : ◌≡◌ {A = ℕ} 0 1 = cc in omega arith)

pub before-passed : (nal : List ℕ) (work : ℕ) (tables : Bool) → 0 ≡ before_fields nal work tables → Passed nal work tables
unfolding before_fields
before-passed nal work tables e =
    let a = next-test (ltb (length nal) 2) 1 _ (lit< tt) e in
    let b = next-test (not (eqb (bits_at nal 8 5) 16)) 2 _ (lit< tt) a.1 in
    let c = next-test (ltb 65535 (length nal)) 3 _ (lit< tt) b.1 in
    let d = next-test (ltb work (length nal - 2)) 4 _ (lit< tt) c.1 in
    let f = next-test (not tables) 5 0 (lit< tt) d.1 in
    record { header = ltb-false _ _ a.0; short = ltb-false _ _ c.0; room = ltb-false _ _ d.0; fit = not-false tables f.0 }
