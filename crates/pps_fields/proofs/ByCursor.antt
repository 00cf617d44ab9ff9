-- The pass over the sizes of an axis from a cursor, also a refused one: what is left to be read, stored and counted
-- makes the whole.
use Rattle.std.specs.Prelude.{ℕ, ◌+◌, ◌-◌, ◌≤◌, ◌*◌, ◌<◌, ◌≡◌, List, [], ◌∷◌, set, ltb}
use Rattle.std.proofs.Common.{sym, ap, ap₂, ◌∙◌, sub-eq-zero_of_le, add-zero, arith}
use Rattle.std.proofs.Math.Nat.{sub-zero}
use Rattle.std.proofs.lemmas.List.Edits.{sets}
use Rattle.bit_reader.specs.declared.Cursor.{Cursor}
use Rattle.bit_reader.specs.declared.BitsRead.{BitsRead}
use Rattle.bit_reader.specs.Reading.{ue_read}
use Rattle.bit_reader.specs.Gives.{Parsed, parsed, bits_parsed}
use Rattle.bit_reader.specs.Laws.{ue-small}
use Rattle.pps_fields.specs.declared.lists.AxisRead.{AxisRead}
use Rattle.pps_fields.specs.declared.by_cursor.AxisReadAt.{AxisReadAt}
use Rattle.pps_fields.specs.ListReads.{list_read, list-none, list-more, list-stops, one_left}
use Rattle.pps_fields.specs.Sizes.{size_read, sizes_read}
use Rattle.pps_fields.specs.Axis.{axis_of, Counted, Counting, counting-begins, counting_more, counting-ends}
use Rattle.pps_fields.specs.ByCursor.{tested}

module _ (bound n : ℕ) (s : List ℕ) (count from : ℕ) (c₀ : Cursor) (t₀ : List ℕ) where
  -- `k` sizes, read from a cursor on
  abbrev sizes : ℕ → Cursor → Parsed (List ℕ)
  sizes k c = list_read (size_read bound n) k s c

  -- where the loop stands: i sizes are stored and counted
  pub record Pass (i : ℕ) (c : Cursor) (t : List ℕ) (uniform taken : ℕ) : Type 0 where
    within : i ≤ count
    next : (sizes count c₀).next ≡ (sizes (count - i) c).next
    table : sets t₀ from (sizes count c₀).value ≡ sets t (from + i) (sizes (count - i) c).value
    counting : Counting (sizes count c₀).value (sizes (count - i) c).value i uniform taken

  -- all that a call gives
  abbrev Read : AxisReadAt → List ℕ → Type 0
  Read r t =
      let explicit = sizes_read count bound n s c₀ in
      (r ≡ record { axis = axis_of explicit.value bound; next = explicit.next }) × (t ≡ sets t₀ from explicit.value)

module _ {bound n : ℕ} {s : List ℕ} {count from : ℕ} {c₀ : Cursor} {t₀ : List ℕ} where
  pub pass-begins : Pass bound n s count from c₀ t₀ 0 c₀ t₀ 1 0
  pass-begins =
      record {
        within = omega arith;
        next = rw (sub-zero count);
        table = rw (sub-zero count, add-zero from);
        counting = rw (sub-zero count) (counting-begins _);
      }

  module _ {i : ℕ} {c : Cursor} {t : List ℕ} {uniform taken : ℕ} (p : Pass bound n s count from c₀ t₀ i c t uniform taken) where
    pub pass-few : i ≤ taken
    pass-few = p.counting.few

    pub pass-small : taken ≤ i * 4294967295
    pass-small = p.counting.small

    -- nothing is left
    closed : {a : AxisRead} {d : Cursor} → list_read (size_read bound n) (count - i) s c ≡ parsed [] d
        → ((es : List ℕ) → Counted es i uniform taken → a ≡ axis_of es bound) → Read bound n s count from c₀ t₀ (record { axis = a; next = d }) t
    unfolding sizes_read
    closed {a} {d} none g =
        let left : Counting (list_read (size_read bound n) count s c₀).value [] i uniform taken = rw none at p.counting in
        let axis : a ≡ axis_of (list_read (size_read bound n) count s c₀).value bound = g _ (counting-ends _ i uniform taken left) in
        (ap₂ (λ (x : AxisRead) (y : Cursor). record { axis = x; next = y }) axis (sym (p.next ∙ rw none)), sym (p.table ∙ rw none))

    pub pass-ends : {a : AxisRead} → count ≤ i → ((es : List ℕ) → Counted es count uniform taken → a ≡ axis_of es bound)
        → Read bound n s count from c₀ t₀ (record { axis = a; next = c }) t
    pass-ends {a} h g =
        let there : count ≡ i = omega (arith, p.within) in
        closed (rw (sub-eq-zero_of_le h) (list-none (size_read bound n) s c)) (rw there at g)

    module _ {v : BitsRead} (h : i < count) (e : v ≡ tested (λ x. ltb x bound) n (ue_read s c)) where
      one : bits_parsed v ≡ size_read bound n s c
      unfolding tested
      one = ap bits_parsed e

      pub pass-stops : {a : AxisRead} → (v.next.refused ≡ 0 → ⊥) → ((es : List ℕ) → Counted es i uniform taken → a ≡ axis_of es bound)
          → Read bound n s count from c₀ t₀ (record { axis = a; next = v.next }) t
      pass-stops o g = closed (rw (one_left count i h) (list-stops (size_read bound n) (count - (i + 1)) s c v.next v.value one o)) g

      -- one more than a size fits 32 bits
      pub size_small : v.value < 4294967295
      unfolding tested
      size_small = rw e (ue-small s c)

      pub pass-more : {u : List ℕ} {w : ℕ} → v.next.refused ≡ 0 → u ≡ set t (from + i) v.value → w ≡ v.value + 1
          → Pass bound n s count from c₀ t₀ (i + 1) v.next u (v.value + 1) (taken + w)
      pass-more {u} {w} o q f =
          let rest = list_read (size_read bound n) (count - (i + 1)) s v.next in
          let step : list_read (size_read bound n) (count - i) s c ≡ parsed (v.value ∷ rest.value) rest.next =
          rw (one_left count i h) (list-more (size_read bound n) (count - (i + 1)) s c v.next v.value one o) in
          record {
            within = omega arith;
            next = p.next ∙ rw step;
            table =
                p.table ∙ ap (λ (r : Parsed (List ℕ)). sets t (from + i) r.value) step
                ∙ ap₂ (λ (x : List ℕ) (m : ℕ). sets x m rest.value) (sym q) (omega arith);
            counting = counting_more _ rest.value i uniform taken v.value w size_small f (rw step at p.counting);
          }
