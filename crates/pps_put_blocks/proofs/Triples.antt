-- The list of triples, as it is written behind the test of its length.
use Rattle.std.specs.Prelude.{ℕ, suc, ◌-◌, ◌≤◌, ◌<◌, ◌≡◌, refl, List, [], ◌∷◌, ◌++◌, map, Bool, true, false, cond, ◌&&◌, min, eqb, ltb, leb, length, take, get_or}
use Rattle.std.proofs.Common.{sym, ap, ◌∙◌, arith, length-take, length-append, take_all, eq-eqb, ltb-true, leb-true, leb-false, append-nil}
use Rattle.std.proofs.lemmas.List.{length-map, take-append-le}
use Rattle.std.proofs.Math.ListN.{get_or-map}
use Rattle.pps_record.specs.declared.VvcQpOffsets.{VvcQpOffsets}
use Rattle.codes.specs.Symbols.{check, check-true}
use Rattle.syntax.specs.Lists.{many, none_symbols}
use Rattle.bit_writer.specs.Writing.{Writing}
use Rattle.bit_writer.specs.Stop.{play_on, on_none}
use Rattle.pps_syntax.specs.Chroma.{Triple, triple_element, list_length}
use Rattle.pps_syntax.specs.FromRecord.{triple_of, triples_from}
use Rattle.pps_put.proofs.Named.{not_second, and_true}
use Rattle.pps_put.specs.Each.{each, many-each}

-- the seventh, of zeros
abbrev pub none : VvcQpOffsets
none = record { 0 = [] }

abbrev seventh : List VvcQpOffsets
seventh = none ∷ []

-- ---- the loop over them
module _ (ts : List VvcQpOffsets) (i : ℕ) where
  pub in_map : i < length ts → i < length (map triple_of ts)
  in_map h = omega (arith, length-map ts triple_of)

  pub end_of_map : length ts ≤ i → length (map triple_of ts) ≤ i
  end_of_map h = omega (arith, length-map ts triple_of)

  pub triple_at : triple_of (get_or ts i none) ≡ get_or (map triple_of ts) i (triple_of none)
  triple_at = sym (get_or-map triple_of ts i none)

-- ---- their number
module _ (n : ℕ) (triples : List VvcQpOffsets) (six : length triples ≡ 6) where
  pub triples_length : length (triples_from n triples) ≡ min n 7
  unfolding triples_from
  triples_length =
      length-map (take n (triples ++ seventh)) triple_of ∙ length-take n (triples ++ seventh) ∙ (let a = length-append triples seventh in omega (arith, a))

  -- the test of the length
  pub sizes : (ltb 0 n && leb n 6) ≡ list_length true (triples_from n triples)
  sizes = split (leb n 6) refl
    where
      split : (t : Bool) → leb n 6 ≡ t → (ltb 0 n && leb n 6) ≡ list_length true (triples_from n triples)
      split true e =
          let few : n ≤ 6 = leb-true n 6 e in
          let same : min n 7 ≡ n = omega arith in
          rw (triples_length, same)
      split false e =
          let many_lem : 6 < n = leb-false n 6 e in
          let cut : min n 7 ≡ 7 = omega arith in
          rw (triples_length, cut, e) (not_second (ltb 0 n) refl)

  module _ (one : 0 < n) (few : n ≤ 6) where
    -- the one of zeros is not among them
    pub first_n : triples_from n triples ≡ map triple_of (take n triples)
    unfolding triples_from
    first_n = ap (map triple_of) (take-append-le n triples seventh (omega arith))

    pub length_is : length (triples_from n triples) ≡ n
    length_is = omega (arith, triples_length)

    pub list_put : (joint : Bool) → (many (suc (length (triples_from n triples) - 1)) (triple_element joint) 21).symbols (triples_from n triples) ≡ each (triple_element joint) (map triple_of (take n triples))
    list_put joint =
        let l = triples_from n triples in
        let e = triple_element joint in
        let k : suc (length l - 1) ≡ length l = omega (arith, length_is) in
        rw k (many-each (length l) e 21 l ∙ rw (take_all (length l) l (omega arith), check-true (eqb (length l) (length l)) 21 (eq-eqb (length l) (length l) refl)) (append-nil (each e l) ∙ ap (each e) first_n))

-- ---- the list as it stands in the block, where it is coded ..
module _ (n : ℕ) (triples : List VvcQpOffsets) (six : length triples ≡ 6) {listed : Bool} (coded : listed ≡ true) where
  pub sizes_listed : (ltb 0 n && leb n 6) ≡ list_length listed (cond listed (triples_from n triples) [])
  sizes_listed = rw coded (sizes n triples six)

  module _ (inside : (ltb 0 n && leb n 6) ≡ true) where
    one : 0 < n
    one = ltb-true 0 n (and_true (ltb 0 n) (leb n 6) inside).0

    few : n ≤ 6
    few = leb-true n 6 (and_true (ltb 0 n) (leb n 6) inside).1

    pub last_listed : n - 1 ≡ length (cond listed (triples_from n triples) []) - 1
    last_listed = rw coded (ap (λ (k : ℕ). k - 1) (sym (length_is n triples six one few)))

    pub put_listed : (w : Writing) (joint with_joint : Bool) {v : Writing} → joint ≡ with_joint → v ≡ play_on w (each (triple_element joint) (map triple_of (take n triples)))
        → v ≡ play_on w ((many (suc (length (cond listed (triples_from n triples) []) - 1)) (triple_element with_joint) 21).symbols (cond listed (triples_from n triples) []))
    put_listed w joint with_joint e h = rw (coded, ← e) (h ∙ ap (play_on w) (sym (list_put n triples six one few joint)))

-- .. and where it is not
pub not_tested : (w : Writing) (l : List Triple) {listed : Bool} → listed ≡ false → w ≡ play_on w (check (list_length listed l) 21)
not_tested w l off = rw off (sym (ap (play_on w) (check-true true 21 refl) ∙ on_none w))

pub not_listed : (l : List Triple) {listed : Bool} → listed ≡ false → none_symbols 0 (cond listed l []) ≡ []
not_listed l off = rw off refl
