-- A row that was read, by its parts; and how many split heights they say that an entry has.
use Prim.Native.Nat.{ℕ, zero, suc}
use mathlib.Core.Path.{◌≡◌, refl, sym, ap, ◌∙◌}
use mathlib.Core.List.{List, [], ◌∷◌}
use lib.IntN.{ℤ}
use lib.ListN.{length, get_or}
use lib.Dec.{ltb}
use Rattle.std.specs.Prelude.{Option, Some, None}
use Rattle.std.specs.Borrow.{Bor}
use Rattle.std.specs.Option.{unwrap_or, option_copied, is_some, IfSome}
use Rattle.std.proofs.Common.{ne_eqb, ltb-true, ltb-false}
use Rattle.std.proofs.Math.ListN.{get_or-eq_default}
use Rattle.std.proofs.lemmas.Option.{slice_get_read, get_or_from_slice_get}
use Rattle.pps_tables.specs.declared.RectSliceEntry.{RectSliceEntry}
use Rattle.pps_tables.specs.Rows.{no_entry, entry_of, entry-made}
use Rattle.pps_syntax.specs.SliceTables.{slice_tables, split_count, delta_of_bits}

-- outside the table a row of zeros is read, and has the parts of none
past : (t : List (List ℕ)) (i : ℕ) → entry_of (get_or t i no_entry) ≡ entry_of (get_or t i [])
unfolding entry_of
past [] i = refl
past (x ∷ t) zero = refl
past (x ∷ t) (suc i) = past t i

-- what `get` lends, copied, or another value
pub copied_or : {A : Type 0} (xs : List A) (i : ℕ) (d : A) (r : Option (Bor A)) → is_some r ≡ ltb i (length xs) → IfSome r (λ x. x.now ≡ get_or xs i x.now)
    → unwrap_or (option_copied r) d ≡ get_or xs i d
copied_or xs i d (Some x) e f = sym (get_or_from_slice_get xs i x.now d (slice_get_read xs (length xs) i x.now refl (ltb-true i (length xs) (sym e)) f))
copied_or xs i d None e f = sym (get_or-eq_default xs d (ltb-false i (length xs) (sym e)))

pub row_parts : (t : List (List ℕ)) (i : ℕ) (row : List ℕ) (d : ℤ) → row ≡ get_or t i no_entry → d ≡ delta_of_bits (get_or row 5 0)
    → record { width = get_or row 0 0; height = get_or row 1 0; split_present = get_or row 2 0; split_count = get_or row 3 0; delta_present = get_or row 4 0; delta = d } ≡ entry_of (get_or t i [])
row_parts t i row d p q = entry-made row d q ∙ (ap entry_of p ∙ past t i)

module _ (es : List (List ℕ)) (heights : List ℕ) (i : ℕ) {e : RectSliceEntry} (is : e ≡ entry_of (get_or es i [])) where
  pub count_none : e.split_present ≡ 0 → 0 ≡ split_count (slice_tables es heights) i
  unfolding split_count entry_of
  count_none z = let k : get_or (get_or es i []) 2 0 ≡ 0 = sym (ap (λ (x : RectSliceEntry). x.split_present) is) ∙ z in rw k

  pub count_some : (e.split_present ≡ 0 → ⊥) → e.split_count ≡ split_count (slice_tables es heights) i
  unfolding split_count entry_of
  count_some z =
      ap (λ (x : RectSliceEntry). x.split_count) is
      ∙ rw (ne_eqb (get_or (get_or es i []) 2 0) 0 (λ q. z (ap (λ (x : RectSliceEntry). x.split_present) is ∙ q)))
