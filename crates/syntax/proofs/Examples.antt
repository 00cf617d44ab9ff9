-- A small syntax, described once, read and written: worked examples, computed.
use Rattle.std.specs.Prelude.{ℕ, ◌<◌, ◌^◌, ◌≡◌, refl, List, [], ◌∷◌, map, length, Bool, true, false, leb, ℤ, pos, negsuc}
use Rattle.std.proofs.Common.{sym, ap, subst, lit<}
use Rattle.codes.specs.Bits.{to_bits}
use Rattle.codes.specs.Bytes.{bit_at, bits_at}
use Rattle.codes.specs.ExpGolomb.{halvings, floor_log2, ue_code, code_num, se_code, signed_of}
use Rattle.codes.specs.Symbols.{first, refusal_in, bits_in, check, checked}
use Rattle.bit_reader.specs.declared.Cursor.{Cursor}
use Rattle.bit_reader.specs.Reading.{cursor_at, unless_refused, onward, u_read, stops, zeros_at, ue_after, ue_within, ue_read, se_read, demanded}
use Rattle.bit_reader.specs.Took.{Going}
use Rattle.syntax.specs.Element.{Parsed, parsed, Consumed, ElementOf}
use Rattle.syntax.specs.Elements.{u, flag, ue, se, limited, or_else, sameℤ, is_set}
use Rattle.syntax.proofs.Elements.{absent}
use Rattle.syntax.specs.Lists.{many, not-true}
use Rattle.syntax.proofs.Once.{same_bits}
use Rattle.syntax.proofs.Round.{read_then_written}
use Rattle.syntax.specs.Syntax.{Syntax, SyntaxOf, done, ◌for◌, ◌>>=◌, ◌&◌, parse, symbols_for, bits_for, refusal_for, canonical_for, rebuilt, Faithful, Whole}

-- an id of 4 bits; a flag with an offset; a count of at most 2 and as many numbers
pub record Sample : Type 0 where
  pub id : ℕ
  pub present : ℕ
  pub offset : ℤ
  pub count : ℕ
  pub list : List ℕ

unfoldable pub sample : Syntax Sample
sample = do
  id ← u 4 24 for (λ r. r.id)
  present ← flag for (λ r. r.present)
  offset ← or_else (is_set present) se (absent sameℤ (pos 0) 0) for (λ r. r.offset)
  count ← limited ue (λ v. leb v 2) 14 (lit< tt) for (λ r. r.count)
  list ← many count ue 26 for (λ r. r.list)
  done (record { id = id; present = present; offset = offset; count = count; list = list })

sample_faithful : Faithful sample (λ _. Unit {0})
unfolding sample Faithful ◌>>=◌
sample_faithful = λ a _ b _ c _ d _ e _. tt & refl & refl & refl & refl & refl

sample-whole : Whole sample
unfolding sample rebuilt ◌>>=◌
sample-whole r = refl

abbrev made : ℕ → ℕ → ℤ → ℕ → List ℕ → Sample
made i p o n l = record { id = i; present = p; offset = o; count = n; list = l }

-- what is done with what, and what must come out
data Example : Type 0 where
  read : List ℕ → Sample → Cursor → Example
  write : Sample → List ℕ → Example
  refuse : Sample → ℕ → Example
  comes_back : Sample → Bool → Example

data Outcome : Type 0 where
  gives : Sample → Cursor → Outcome
  puts : List ℕ → Outcome
  refuses : ℕ → Outcome
  says : Bool → Outcome

given : Parsed Sample → Outcome
given p = gives p.value p.next

run : Example → Outcome
run (read s r c) = given (parse sample s (cursor_at 0))
run (write r bs) = puts (bits_for sample r)
run (refuse r n) = refuses (refusal_for sample r)
run (comes_back r b) = says (canonical_for sample r)

wanted : Example → Outcome
wanted (read s r c) = gives r c
wanted (write r bs) = puts bs
wanted (refuse r n) = refuses n
wanted (comes_back r b) = says b

table : List Example
table =
    -- 0101 1 011 010 010 …
    read (0x5b ∷ 0x48 ∷ []) (made 5 1 (negsuc 0) 1 (1 ∷ [])) (cursor_at 14)
    ∷ write (made 5 1 (negsuc 0) 1 (1 ∷ [])) (0 ∷ 1 ∷ 0 ∷ 1 ∷ 1 ∷ 0 ∷ 1 ∷ 1 ∷ 0 ∷ 1 ∷ 0 ∷ 0 ∷ 1 ∷ 0 ∷ [])
    -- an absent offset is 0; a count of 3 is refused
    ∷ read (0x54 ∷ []) (made 5 0 (pos 0) 0 []) (cursor_at 6)
    ∷ read (0x51 ∷ 0x00 ∷ []) (made 5 0 (pos 0) 3 []) (record { at = 10; refused = 14 })
    -- the first refusal wins; a list must be as long as its count; a flag over 1 is written as 1
    ∷ refuse (made 16 0 (pos 0) 3 []) 24
    ∷ refuse (made 5 0 (pos 0) 3 (0 ∷ 0 ∷ 0 ∷ [])) 14
    ∷ refuse (made 5 0 (pos 0) 2 (0 ∷ [])) 26
    ∷ refuse (made 5 1 (negsuc 2147483647) 0 []) 25
    ∷ write (made 5 7 (pos 0) 0 []) (0 ∷ 1 ∷ 0 ∷ 1 ∷ 1 ∷ 1 ∷ 1 ∷ [])
    ∷ comes_back (made 5 1 (negsuc 0) 1 (1 ∷ [])) true
    ∷ comes_back (made 5 7 (pos 0) 0 []) false
    ∷ comes_back (made 5 0 (pos 1) 0 []) false
    ∷ []

all : map run table ≡ map wanted table
unfolding table run wanted given sample parse symbols_for canonical_for ◌>>=◌ many or_else first refusal_in bits_in check checked to_bits bit_at bits_at halvings floor_log2 ue_code code_num se_code signed_of unless_refused onward u_read stops zeros_at ue_after ue_within ue_read se_read demanded
all = refl

-- ---- a flag that moves on behind a refusal, too: what is proved of every description holds of it
flag_end : List ℕ → ℕ → ℕ
flag_end s at = (flag.read s (cursor_at at)).next.at

flag_ends : (s : List ℕ) (at : ℕ) → (flag.read s (cursor_at at)).next ≡ cursor_at (flag_end s at)
unfolding flag_end u_read unless_refused
flag_ends s at = refl

abbrev FlagTook : List ℕ → ℕ → Cursor → Cursor → Type 0
FlagTook s at c d = Consumed s c d (flag.symbols (flag.read s (cursor_at at)).value) (flag.canonical (flag.read s (cursor_at at)).value)

flag_took : (s : List ℕ) (at r : ℕ) → r ≡ 0 → Going s (record { at = flag_end s at; refused = r }) → FlagTook s at (record { at = at; refused = r }) (record { at = flag_end s at; refused = r })
flag_took s at r h g =
    let inside : Going s (flag.read s (cursor_at at)).next = subst (Going s) (sym (flag_ends s at)) (subst (λ (x : ℕ). Going s (record { at = flag_end s at; refused = x })) h g) in
    let here : FlagTook s at (cursor_at at) (cursor_at (flag_end s at)) = subst (FlagTook s at (cursor_at at)) (flag_ends s at) (flag.taken s (cursor_at at) inside) in
    subst (λ (x : ℕ). FlagTook s at (record { at = at; refused = x }) (record { at = flag_end s at; refused = x })) (sym h) here

restless : ElementOf false ℕ
unfolding flag_end
restless =
    record {
      read = λ s c. parsed (flag.read s (cursor_at c.at)).value (record { at = flag_end s c.at; refused = c.refused });
      symbols = flag.symbols;
      canonical = flag.canonical;
      binary = flag.binary;
      taken = λ s c g. flag_took s c.at c.refused g.unrefused g;
      back = λ s at to v r q h. ap (λ (p : Parsed ℕ). parsed p.value (record { at = p.next.at; refused = 0 })) (flag.back s at to v r q h);
      stuck = λ e. absurd (not-true e);
    }

moves_on : (restless.read (0 ∷ []) (record { at = 0; refused = 6 })).next.at ≡ 1
unfolding restless flag_end u_read unless_refused onward
moves_on = refl

unfoldable lone : SyntaxOf false ℕ
lone = do
  v ← restless for (λ r. r)
  done v

lone_faithful : Faithful lone (λ _. Unit {0})
unfolding lone Faithful ◌>>=◌
lone_faithful = λ v _. tt & refl

lone-whole : Whole lone
unfolding lone rebuilt ◌>>=◌
lone-whole r = refl

lone-written : (s : List ℕ) (c : Cursor) → Going s (parse lone s c).next → Consumed s c (parse lone s c).next (symbols_for lone (parse lone s c).value) (canonical_for lone (parse lone s c).value)
lone-written = read_then_written lone lone_faithful

lone-told : (r q : ℕ) → refusal_for lone r ≡ 0 → canonical_for lone r ≡ true → refusal_for lone q ≡ 0 → canonical_for lone q ≡ true → bits_for lone r ≡ bits_for lone q
    → length (bits_for lone r) < 2 ^ 63 → r ≡ q
lone-told = same_bits lone lone-whole
