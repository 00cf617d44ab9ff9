-- One description of a syntax structure, read and written. It lists the elements in their order, like the syntax tables of H.266 7.3;
-- from it come what reading gives (`parse`), what writing does (`symbols_for`), and whether a record is one that reading gives (`canonical_for`).
use Rattle.std.specs.Prelude.{ℕ, ◌<◌, ◌≡◌, List, [], ◌++◌, Bool, true, ◌&&◌}
use Rattle.codes.specs.Symbols.{Symbol, refusal_in, bits_in, check}
use Rattle.bit_reader.specs.declared.Cursor.{Cursor}
use Rattle.bit_reader.specs.Reading.{demanded}
use Rattle.syntax.specs.Element.{Parsed, parsed, ElementOf}

-- A syntax structure whose reading makes an R
pub data SyntaxOf (still : Bool) (R : Type 0) : Type 1 where
  -- the end, with what reading makes of the values read
  done : R → SyntaxOf still R
  -- an element; where its value stands in the record; and what follows, which may depend on the value
  element : {A : Type 0} → ElementOf still A → (R → A) → (A → SyntaxOf still R) → SyntaxOf still R
  -- a test that writing alone makes of the record, with the number it refuses with
  on_writing : (R → Bool) → ℕ → SyntaxOf still R → SyntaxOf still R
  -- a test that reading alone makes of the values read so far
  on_reading : Bool → (n : ℕ) → 0 < n → SyntaxOf still R → SyntaxOf still R

-- one whose elements stand still behind a refusal, as all of H.266's
abbrev pub Syntax : Type 0 → Type 1
Syntax R = SyntaxOf true R

-- a test at the same place of reading and of writing
abbrev pub on_both : {still : Bool} {R : Type 0} → Bool → (n : ℕ) → 0 < n → SyntaxOf still R → SyntaxOf still R
on_both ok n l k = on_reading ok n l (on_writing (λ _. ok) n k)

-- ---- notation: `name ← element for (λ r. place in the record)`
pub record PlacedOf (still : Bool) (R A : Type 0) : Type 0 where
  pub what : ElementOf still A
  pub place : R → A

abbrev pub ◌for◌ : {still : Bool} {R A : Type 0} → ElementOf still A → (R → A) → PlacedOf still R A
◌for◌ e place = record { what = e; place = place }

infixl 5 ◌for◌
unfoldable pub ◌>>=◌ : {still : Bool} {R A : Type 0} → PlacedOf still R A → (A → SyntaxOf still R) → SyntaxOf still R
◌>>=◌ m k = element m.what m.place k

module _ {still : Bool} {R : Type 0} where
  -- ---- what a description says
  -- reading
  unfoldable pub parse : SyntaxOf still R → List ℕ → Cursor → Parsed R
  parse (done r) s c = parsed r c
  parse (element e place k) s c = parse (k (e.read s c).value) s (e.read s c).next
  parse (on_writing test n k) s c = parse k s c
  parse (on_reading ok n l k) s c = parse k s (demanded ok n c)

  -- writing a record: bits and refusals in order
  unfoldable pub symbols_for : SyntaxOf still R → R → List Symbol
  symbols_for (done e) r = []
  symbols_for (element e place k) r = e.symbols (place r) ++ symbols_for (k (place r)) r
  symbols_for (on_writing test n k) r = check (test r) n ++ symbols_for k r
  symbols_for (on_reading ok n l k) r = symbols_for k r

  abbrev pub bits_for : SyntaxOf still R → R → List ℕ
  bits_for d r = bits_in (symbols_for d r)

  abbrev pub refusal_for : SyntaxOf still R → R → ℕ
  refusal_for d r = refusal_in (symbols_for d r)

  -- whether reading could have given the record, as far as its elements and tests tell
  unfoldable pub canonical_for : SyntaxOf still R → R → Bool
  canonical_for (done e) r = true
  canonical_for (element e place k) r = e.canonical (place r) && canonical_for (k (place r)) r
  canonical_for (on_writing test n k) r = canonical_for k r
  canonical_for (on_reading ok n l k) r = ok && canonical_for k r

  -- what reading makes of the values in a record
  unfoldable pub rebuilt : SyntaxOf still R → R → R
  rebuilt (done e) r = e
  rebuilt (element e place k) r = rebuilt (k (place r)) r
  rebuilt (on_writing test n k) r = rebuilt k r
  rebuilt (on_reading ok n l k) r = rebuilt k r

  -- ---- what is asked of a description, once
  -- each value read stands in its place of the record that is made, and each test of writing holds there
  unfoldable pub Faithful : SyntaxOf still R → (R → Type 0) → Type 0
  Faithful (done r) P = P r
  Faithful (element {A} e place k) P = (v : A) → e.canonical v ≡ true → Faithful (k v) (λ r. P r × (place r ≡ v))
  Faithful (on_writing test n k) P = Faithful k (λ r. P r × (test r ≡ true))
  Faithful (on_reading ok n l k) P = ok ≡ true → Faithful k P

  -- the record that is made holds nothing but the values read
  abbrev pub Whole : SyntaxOf still R → Type 0
  Whole d = (r : R) → rebuilt d r ≡ r

-- a pair that grows to the right: the answers to `Faithful`, one for each element and each test of writing
infixl 6 ◌&◌
abbrev pub ◌&◌ : {A B : Type 0} → A → B → A × B
◌&◌ a b = (a, b)
