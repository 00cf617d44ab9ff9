-- The sizes of an axis, counted while the explicit ones are read (H.266 6.5.1, equations 14, 15 and 21).
use Rattle.std.specs.Prelude.{ℕ, suc, ◌+◌, ◌-◌, ◌*◌, ◌≤◌, ◌<◌, ◌≡◌, Bool, true, false, cond, leb, set, Ok, Err, Some, None}
use Rattle.std.proofs.Math.Path.{refl}
use Rattle.std.proofs.Common.{ap₂}
use Rattle.std.proofs.Common.{sym, ◌∙◌, sub-eq-zero_of_le, add-one, arith}
use mathlib.Core.List.{List, [], ◌∷◌}
use Rattle.std.proofs.Math.Nat.{sub-zero}
use Rattle.std.proofs.Math.ListN.{length}
use Rattle.std.proofs.lemmas.List.Edits.{sets}
use borrow.Author.Tests.{leb-true, le-leb, lt-leb}
use Rattle.refusal.specs.declared.Refusal.{Refusal}
use Rattle.bit_reader.specs.declared.BitReader.{BitReader}
use Rattle.bit_reader.specs.Gives.{parsed, cursor_of, Gives, value_read, held_as}
use Rattle.bit_reader.proofs.Gives.{given, given_back, refuses, over}
use Rattle.bit_reader.specs.Laws.{ue-small}
use Rattle.partition.specs.Sizes.{sum, explicit_sizes, uniform_size, uniform_sizes, axis_sizes, Fit}
use Rattle.tile_sizes.specs.Left.{axis-length}
use Rattle.pps_fields.specs.declared.lists.AxisRead.{AxisRead}
use Rattle.pps_fields.specs.ListReads.{list_read, list-none, list-more, one_left, Filling, fill_begins, fill_more, fill_stops, fill_ends, filled_numbers}
use Rattle.pps_fields.specs.Sizes.{size_read, sizes_read}

-- what explicit sizes (minus 1) say of an axis of `total` CTBs, also where a refusal cut them off
unfoldable pub axis_of : List ℕ → ℕ → AxisRead
axis_of es total =
    record {
      count = length es;
      uniform = uniform_size es;
      sizes = cond (leb (sum (explicit_sizes es)) total) (Some (length (axis_sizes es total))) None;
    }

-- how many there are, the last of them, and how many CTBs they take
pub record Counted (es : List ℕ) (count uniform taken : ℕ) : Type 0 where
  pub count_is : length es ≡ count
  pub uniform_is : uniform_size es ≡ uniform
  pub taken_is : sum (explicit_sizes es) ≡ taken

module _ (es : List ℕ) (count uniform taken total : ℕ) (k : Counted es count uniform taken) where
  pub axis-over : total < taken → record { count = count; uniform = uniform; sizes = None } ≡ axis_of es total
  unfolding axis_of
  axis-over h = rw (k.count_is, k.uniform_is, k.taken_is, lt-leb taken total h)

  pub axis-within : (remaining rest : ℕ) → taken ≤ total → remaining ≡ total - taken → rest ≡ length (uniform_sizes uniform remaining)
      → record { count = count; uniform = uniform; sizes = Some (count + rest) } ≡ axis_of es total
  unfolding axis_of
  axis-within remaining rest h e f =
      let all : length (axis_sizes es total) ≡ count + rest = axis-length es total ∙ rw (k.count_is, k.uniform_is, k.taken_is, f, e) in
      rw (all, k.count_is, k.uniform_is, k.taken_is, le-leb taken total h)

-- where the sizes are counted, the explicit ones fit
pub counted-fit : (es : List ℕ) (total : ℕ) {n : ℕ} → (axis_of es total).sizes ≡ Some n → Fit es total × (n ≡ length (axis_sizes es total))
unfolding axis_of
counted-fit es total {n} e = split (leb (sum (explicit_sizes es)) total) refl e
  where
    split : (b : Bool) → leb (sum (explicit_sizes es)) total ≡ b → cond b (Some (length (axis_sizes es total))) None ≡ Some n → Fit es total × (n ≡ length (axis_sizes es total))
    split true f g = (leb-true _ _ f, sym cc)
    split false f g = absurd cc

-- where they are not, the explicit ones pass the axis
pub uncounted-over : (es : List ℕ) (total : ℕ) → (axis_of es total).sizes ≡ None → leb (sum (explicit_sizes es)) total ≡ false
unfolding axis_of
uncounted-over es total e = split (leb (sum (explicit_sizes es)) total) e
  where
    split : (b : Bool) → cond b (Some (length (axis_sizes es total))) None ≡ None → b ≡ false
    split true g = absurd cc
    split false g = refl

-- ---- the pass
-- the size that repeats behind these, after one of size u
pub uniform_after : ℕ → List ℕ → ℕ
uniform_after u [] = u
uniform_after u (e ∷ es) = uniform_after (suc e) es

after-some : (e : ℕ) (es : List ℕ) → uniform_after (suc e) es ≡ uniform_size (e ∷ es)
unfolding uniform_size uniform_after
after-some e [] = refl
after-some e (f ∷ es) = after-some f es

after_none : (es : List ℕ) → uniform_after 1 es ≡ uniform_size es
unfolding uniform_size uniform_after
after_none [] = refl
after_none (e ∷ es) = after-some e es

-- i sizes are counted; with those that are left they make the whole
pub record Counting (whole left : List ℕ) (i uniform taken : ℕ) : Type 0 where
  pub few : i ≤ taken
  pub small : taken ≤ i * 4294967295
  counts : length whole ≡ i + length left
  repeats : uniform_size whole ≡ uniform_after uniform left
  takes : sum (explicit_sizes whole) ≡ taken + sum (explicit_sizes left)

pub counting-begins : (es : List ℕ) → Counting es es 0 1 0
counting-begins es =
    record { few = omega arith; small = omega arith; counts = omega arith; repeats = sym (after_none es); takes = omega arith }

pub counting_more : (whole left : List ℕ) (i uniform taken v w : ℕ) → v < 4294967295 → w ≡ v + 1 → Counting whole (v ∷ left) i uniform taken
    → Counting whole left (i + 1) (v + 1) (taken + w)
unfolding sum explicit_sizes uniform_after
counting_more whole left i uniform taken v w l e k =
    record {
      few = omega (arith, k.few);
      small = omega (arith, k.small);
      counts = omega (arith, k.counts);
      repeats = k.repeats ∙ rw (add-one v);
      takes = omega (arith, k.takes);
    }

pub counting-ends : (whole : List ℕ) (i uniform taken : ℕ) → Counting whole [] i uniform taken → Counted whole i uniform taken
unfolding sum explicit_sizes uniform_after
counting-ends whole i uniform taken k = record { count_is = omega (arith, k.counts); uniform_is = k.repeats; taken_is = omega (arith, k.takes) }

module _ (bound n count from : ℕ) (p₀ : BitReader) (t₀ : List ℕ) where
  -- where the loop stands: what is stored, and what is counted
  pub record Pass (i : ℕ) (p : BitReader) (t : List ℕ) (uniform taken : ℕ) : Type 0 where
    pub stored : Filling (size_read bound n) (λ v. v) count from p₀ t₀ i p t
    counting : Counting (value_read (list_read (size_read bound n) count) p₀) (list_read (size_read bound n) (count - i) p₀.bytes.now (cursor_of p)).value i uniform taken

module _ {bound n count from : ℕ} {p₀ : BitReader} {t₀ : List ℕ} where
  pub pass-begins : Pass bound n count from p₀ t₀ 0 p₀ t₀ 1 0
  pass-begins = record { stored = fill_begins; counting = rw (sub-zero count) (counting-begins _) }

  module _ {i : ℕ} {p : BitReader} {t : List ℕ} {uniform taken : ℕ} (k : Pass bound n count from p₀ t₀ i p t uniform taken) where
    pub pass-few : i ≤ taken
    pass-few = k.counting.few

    pub pass-small : taken ≤ i * 4294967295
    pass-small = k.counting.small

    -- all is read
    pub pass-ends : {r : AxisRead} → count ≤ i → ((es : List ℕ) → Counted es count uniform taken → r ≡ axis_of es bound)
        → Gives (held_as (λ (es : List ℕ). axis_of es bound) (sizes_read count bound n)) p₀ p (Ok r) × (t ≡ sets t₀ from (value_read (sizes_read count bound n) p₀))
    unfolding sizes_read
    pass-ends h g =
        let none : list_read (size_read bound n) (count - i) p₀.bytes.now (cursor_of p) ≡ parsed [] (cursor_of p) = rw (sub-eq-zero_of_le h) (list-none (size_read bound n) p₀.bytes.now (cursor_of p)) in
        let all = filled_numbers refl (fill_ends k.stored h) in
        let there : i ≡ count = omega (arith, k.stored.within) in
        let left : Counting (value_read (list_read (size_read bound n) count) p₀) [] count uniform taken = rw (none, there) at k.counting in
        (given k.stored.bytes (ap₂ parsed (g _ (counting-ends _ count uniform taken left)) all.0), all.1.1)

    -- a size was refused: what was read before it is stored
    pub pass-stops : {q : BitReader} {e : Refusal} → i < count → Gives (size_read bound n) p q (Err e)
        → Gives (held_as (λ (es : List ℕ). axis_of es bound) (sizes_read count bound n)) p₀ q (Err e) × (t ≡ sets t₀ from (value_read (sizes_read count bound n) p₀))
    unfolding sizes_read
    pass-stops h g =
        let all = filled_numbers refl (fill_stops k.stored h g) in
        (refuses (g.bytes ∙ k.stored.bytes) all.0, all.1.1)

    -- one more than a size fits 32 bits
    pub size_small : {q : BitReader} {v : ℕ} → Gives (size_read bound n) p q (Ok v) → v < 4294967295
    size_small g = omega (arith, g.value, ue-small p.bytes.now (cursor_of p))

    pub pass-more : {q : BitReader} {v w : ℕ} {u : List ℕ} → i < count → Gives (size_read bound n) p q (Ok v) → u ≡ set t (from + i) v → w ≡ v + 1
        → Pass bound n count from p₀ t₀ (i + 1) q u (v + 1) (taken + w)
    pass-more {q} {v} {w} h g e f =
        let s = p₀.bytes.now in
        let rest = list_read (size_read bound n) (count - (i + 1)) s (cursor_of q) in
        let one : parsed v (cursor_of q) ≡ size_read bound n s (cursor_of p) = given_back (over k.stored.bytes g) in
        let step : list_read (size_read bound n) (count - i) s (cursor_of p) ≡ parsed (v ∷ rest.value) rest.next =
        rw (one_left count i h) (list-more (size_read bound n) (count - (i + 1)) s (cursor_of p) (cursor_of q) v one refl) in
        record {
          stored = fill_more k.stored h g e;
          counting = counting_more _ rest.value i uniform taken v w (size_small g) f (rw step at k.counting);
        }
