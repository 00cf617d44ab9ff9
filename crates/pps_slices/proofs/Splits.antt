-- The explicit slice heights of a tile, as code comes to them.
use Rattle.std.specs.Prelude.{ℕ, suc, ◌+◌, ◌-◌, ◌≤◌, ◌<◌, ◌≡◌, List, [], ◌∷◌, Bool, true, false, cond, eqb, ltb, leb, Option, Result, Ok, Err, Some, None, ok_or, length, refl}
use Rattle.std.proofs.Common.{Bor, sym, ap, ap₂, ◌∙◌, arith, le-leb, ltb-true, ltb-false, ne_eqb, lit<}
use Rattle.std.proofs.lemmas.Bool.{lt-leb}
use Rattle.std.proofs.lemmas.List.Edits.{sets}
use Rattle.refusal.specs.declared.Refusal.{Refusal}
use Rattle.refusal.specs.declared.Refusal.TheVariants.{SplitHeights, TooManySplitSlices}
use Rattle.refusal.specs.Numbers.{number}
use Rattle.bit_reader.specs.declared.BitReader.{BitReader}
use Rattle.bit_reader.specs.declared.Cursor.{Cursor}
use Rattle.bit_reader.specs.Gives.{Parsed, parsed, Gives, held_as, tested, value_read, ue_parsed, cursor_of}
use Rattle.bit_reader.specs.Laws.{demanded-true, demanded-false}
use Rattle.bit_reader.specs.Reading.{refusal, demanded}
use Rattle.bit_reader.proofs.Gives.{given_back, refused_back, not-0, holds, holds-none, same-read}
use Rattle.partition.specs.Entry.{num_slices_in_tile, split_heights}
use Rattle.partition.proofs.Sizes.{length-sizes}
use Rattle.partition.specs.Sizes.{axis_sizes, Fit}
use Rattle.syntax.specs.Element.{Element}
use Rattle.syntax.specs.Elements.{ue, limited}
use Rattle.syntax.specs.Lists.{many}
use Rattle.syntax.specs.Syntax.{parse, ◌>>=◌}
use Rattle.syntax.proofs.Steps.{Follows, ◌⟫◌, stop, held, fails, end}
use Rattle.pps_fields.specs.declared.lists.AxisRead.{AxisRead}
use Rattle.pps_fields.specs.Axis.{axis_of, counted-fit, uncounted-over}
use Rattle.pps_fields.specs.Sizes.{sizes_read, sizes-many}
use Rattle.pps_slices.specs.declared.parts.SplitRead.{SplitRead}
use Rattle.pps_slices.specs.Parts.{last_of, explicit_heights, split_part, split_kept}
use Rattle.pps_slices.proofs.Chain.{was_read, was_refused}
use Rattle.pps_slices.proofs.Stuck.{Stuck, stays-stuck, demanded-on, many-stuck}

-- the slices of a tile by the number of its explicit heights
slices_of : (hs : List ℕ) (row : ℕ) → cond (eqb (length hs) 0) 1 (length (axis_sizes hs row)) ≡ num_slices_in_tile hs row
unfolding num_slices_in_tile split_heights
slices_of [] row = refl
slices_of (h ∷ hs) row = rw (ne_eqb (suc (length hs)) 0 (λ e. omega arith))

-- there is one at least, and one for each explicit height
pub slices_enough : (hs : List ℕ) (row : ℕ) → (length hs ≤ num_slices_in_tile hs row) × (1 ≤ num_slices_in_tile hs row)
unfolding num_slices_in_tile split_heights
slices_enough [] row = (omega arith, omega arith)
slices_enough (x ∷ hs) row = (omega (arith, length-sizes (x ∷ hs) row), omega (arith, length-sizes (x ∷ hs) row))

-- a refusal in place of a missing value
none_of : (x : Option ℕ) {e : Refusal} → Err e ≡ ok_or x SplitHeights → (x ≡ None) × (e ≡ SplitHeights)
none_of None h = (refl, cc)
none_of (Some n) h = absurd cc

some_of : (x : Option ℕ) {m : ℕ} → Ok m ≡ ok_or x SplitHeights → x ≡ Some m
some_of None h = absurd cc
some_of (Some n) h = cc

module _ (row N i : ℕ) where
  abbrev pub Split : Bool → BitReader → BitReader → Result SplitRead Refusal → Type 0
  Split split p q x = Gives (held_as (split_kept split row i) (parse (split_part split row N i))) p q x

  kept : (split : Bool) {p q : BitReader} {hs : List ℕ} {r : SplitRead} → Follows (split_part split row N i) p q (Ok hs) → r ≡ split_kept split row i hs → Split split p q (Ok r)
  kept split f e = holds (split_kept split row i) f.gives e

  not-kept : (split : Bool) {p q : BitReader} {e : Refusal} → Follows (split_part split row N i) p q (Err e) → Split split p q (Err e)
  not-kept split f = holds-none (split_kept split row i) f.gives

  -- a tile that is not split
  pub unsplit : (split : Bool) {p : BitReader} → split ≡ false → Split split p p (Ok (record { count = None; last = record { 0 = i } }))
  unfolding split_part last_of num_slices_in_tile split_heights
  unsplit split e = rw e (kept false end (ap (λ (n : ℕ). record { count = None; last = record { 0 = n } }) (omega arith)))

  pub unsplit_table : (split : Bool) (p : BitReader) (t : List ℕ) (from : ℕ) → split ≡ false → t ≡ sets t from (value_read (parse (split_part split row N i)) p)
  unfolding split_part parse
  unsplit_table split p t from e = rw e

  -- ---- one that is
  abbrev one : Element ℕ
  one = limited ue (λ v. ltb v row) 16 (lit< tt)

  abbrev counted : BitReader → Parsed ℕ
  counted p = tested (λ v. ltb v row) 16 ue_parsed p.bytes.now (cursor_of p)

  -- where the count and its test leave the cursor
  abbrev behind_count : Parsed ℕ → Cursor
  behind_count x = demanded (leb x.value (N - i + 1)) 17 x.next

  -- the heights are what the list gives there
  listed_at : (p : BitReader) → value_read (parse (split_part true row N i)) p ≡ ((many (counted p).value one 26).read p.bytes.now (behind_count (counted p))).value
  unfolding split_part explicit_heights parse ◌>>=◌
  listed_at p = refl

  -- none, behind a refusal
  none_listed : (split : Bool) (p : BitReader) {c : Cursor} → split ≡ true → behind_count (counted p) ≡ c → Stuck c → value_read (parse (split_part split row N i)) p ≡ []
  none_listed split p S e z = rw S (listed_at p ∙ ap (λ (x : Parsed (List ℕ)). x.value) (many-stuck one p.bytes.now _ 26 _ (stays-stuck e z)))

  module _ (split : Bool) (S : split ≡ true) {p q : BitReader} where
    pub uncounted : {e : Refusal} → Gives (tested (λ v. ltb v row) 16 ue_parsed) p q (Err e) → Split split p q (Err e)
    unfolding split_part explicit_heights ◌>>=◌
    uncounted g = rw S (not-kept true (stop g))

    pub uncounted_table : {e : Refusal} → Gives (tested (λ v. ltb v row) 16 ue_parsed) p q (Err e) → (t : List ℕ) (from : ℕ) → t ≡ sets t from (value_read (parse (split_part split row N i)) p)
    uncounted_table {e} g t from =
        let stuck = not-0 e q.bit_pos (refused_back g) in
        ap (sets t from) (sym (none_listed split p S (demanded-on _ 17 refl stuck) stuck))

    module _ {n : ℕ} (g : Gives (tested (λ v. ltb v row) 16 ue_parsed) p q (Ok n)) where
      pub too_many : N - i + 1 < n → Split split p q (Err TooManySplitSlices)
      unfolding split_part explicit_heights ◌>>=◌ number
      too_many h = rw S (not-kept true (g ⟫ fails (lt-leb _ _ h) refl))

      pub too_many_table : N - i + 1 < n → (t : List ℕ) (from : ℕ) → t ≡ sets t from (value_read (parse (split_part split row N i)) p)
      unfolding number
      too_many_table h t from =
          let shut : behind_count (parsed n (cursor_of q)) ≡ refusal (cursor_of q) 17 = demanded-false (leb n (N - i + 1)) 17 (cursor_of q) (lt-leb _ _ h) refl in
          ap (sets t from) (sym (none_listed split p S (ap behind_count (sym (given_back g)) ∙ shut) (not-0 TooManySplitSlices q.bit_pos refl)))

      -- what was read of them is in the table
      pub split_table : n ≤ N - i + 1 → (t : List ℕ) {u : List ℕ} (from : ℕ) → u ≡ sets t from (value_read (sizes_read n row 16) q) → u ≡ sets t from (value_read (parse (split_part split row N i)) p)
      split_table few t from e =
          let on : behind_count (parsed n (cursor_of q)) ≡ cursor_of q = demanded-true (leb n (N - i + 1)) 17 (cursor_of q) (le-leb _ _ few) in
          let there : value_read (parse (split_part true row N i)) p ≡ value_read (sizes_read n row 16) q =
          listed_at p ∙ ap (λ (x : Parsed ℕ). ((many x.value one 26).read p.bytes.now (behind_count x)).value) (sym (given_back g))
          ∙ ap (λ (c : Cursor). ((many n one 26).read p.bytes.now c).value) on
          ∙ ap (λ (b : Bor (List ℕ)). ((many n one 26).read b.now (cursor_of q)).value) (sym g.bytes)
          ∙ ap (λ (x : Parsed (List ℕ)). x.value) (sym (sizes-many n row 16 26 (lit< tt) q.bytes.now (cursor_of q))) in
          rw S (e ∙ ap (sets t from) (sym there))

      module _ (few : n ≤ N - i + 1) {r : BitReader} where
        pub unread : {e : Refusal} → Gives (held_as (λ (es : List ℕ). axis_of es row) (sizes_read n row 16)) q r (Err e) → Split split p r (Err e)
        unfolding split_part explicit_heights ◌>>=◌
        unread a = rw S (not-kept true (g ⟫ held (le-leb _ _ few) (stop (same-read (sizes-many n row 16 26 (lit< tt) q.bytes.now (cursor_of q)) (was_refused (λ (es : List ℕ). axis_of es row) (sizes_read n row 16) a)))))

        module _ {a : AxisRead} (A : Gives (held_as (λ (es : List ℕ). axis_of es row) (sizes_read n row 16)) q r (Ok a)) where
          abbrev hs : List ℕ
          hs = value_read (sizes_read n row 16) q

          is : axis_of hs row ≡ a
          is = A.value

          sizes_are : (axis_of hs row).sizes ≡ a.sizes
          sizes_are = ap (λ (x : AxisRead). x.sizes) is

          listed : Gives (many n (limited ue (λ v. ltb v row) 16 (lit< tt)) 26).read q r (Ok hs)
          listed = same-read (sizes-many n row 16 26 (lit< tt) q.bytes.now (cursor_of q)) (was_read (λ (es : List ℕ). axis_of es row) (sizes_read n row 16) A)

          pub unfit : {e : Refusal} → Err e ≡ ok_or a.sizes SplitHeights → Split split p r (Err e)
          unfolding split_part explicit_heights ◌>>=◌ number
          unfit h =
              let none = none_of a.sizes h in
              rw (none.1, S) (not-kept true (g ⟫ held (le-leb _ _ few) (listed ⟫ fails (uncounted-over hs row (sizes_are ∙ none.0)) refl)))

          module _ {m : ℕ} (some : Ok m ≡ ok_or a.sizes SplitHeights) {k : ℕ} (K : k ≡ cond (eqb a.count 0) 1 m) where
            fit : Fit hs row × (m ≡ length (axis_sizes hs row))
            fit = counted-fit hs row (sizes_are ∙ some_of a.sizes some)

            slices_are : k ≡ num_slices_in_tile hs row
            unfolding axis_of
            slices_are = K ∙ rw (fit.1, ← is) (slices_of hs row)

            pub some_slices : 1 ≤ k
            some_slices = omega (arith, slices_are, slices_enough hs row)

            pub passed : true ≡ ltb N (i + k - 1) → Split split p r (Err TooManySplitSlices)
            unfolding split_part explicit_heights ◌>>=◌ number last_of
            passed h = rw S (not-kept true (g ⟫ held (le-leb _ _ few) (listed ⟫ held (le-leb _ _ fit.0) (fails (lt-leb _ _ (omega (arith, ltb-true N (i + k - 1) (sym h), slices_are))) refl))))

            all : false ≡ ltb N (i + k - 1) → Follows (split_part true row N i) p r (Ok hs)
            unfolding split_part explicit_heights ◌>>=◌ last_of
            all h = g ⟫ held (le-leb _ _ few) (listed ⟫ held (le-leb _ _ fit.0) (held (le-leb _ _ (omega (arith, ltb-false N (i + k - 1) (sym h), slices_are))) end))

            pub split_made : false ≡ ltb N (i + k - 1) → Split split p r (Ok (record { count = Some a.count; last = record { 0 = i + (k - 1) } }))
            unfolding last_of axis_of
            split_made h =
                let some = slices_enough hs row in
                let last : i + (k - 1) ≡ last_of i row hs = omega (arith, slices_are) in
                rw S (kept true (all h) (ap₂ (λ (m l : ℕ). record { count = Some m; last = record { 0 = l } }) (ap (λ (x : AxisRead). x.count) (sym is)) last))
