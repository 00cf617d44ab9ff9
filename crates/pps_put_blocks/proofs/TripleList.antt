-- The triples that a record lists, at most seven of them: the six of the record, and one of zeros.
use Rattle.std.specs.Prelude.{ℕ, zero, suc, ◌≤◌, ◌<◌, min, ◌≡◌, refl, List, [], ◌∷◌, ◌++◌, map, length, get_or, take}
use Rattle.std.proofs.Common.{ap, ◌∙◌, arith, length-append, get_or-take, take_all}
use Rattle.std.proofs.Math.ListN.{get_or-map, get_or-eq_default}
use Rattle.pps_record.specs.declared.VvcQpOffsets.{VvcQpOffsets}
use Rattle.pps_syntax.specs.FromRecord.{triple_of, triples_from}
use Rattle.pps_put.specs.Each.{take-cut}
use Rattle.pps_put_blocks.proofs.Triples.{none, triples_length}

padded_at : (triples : List VvcQpOffsets) (i : ℕ) → get_or (triples ++ (none ∷ [])) i none ≡ get_or triples i none
padded_at [] zero = refl
padded_at [] (suc i) = refl
padded_at (x ∷ triples) zero = refl
padded_at (x ∷ triples) (suc i) = padded_at triples i

pub triples-length : (n : ℕ) (triples : List VvcQpOffsets) → length triples ≡ 6 → length (triples_from n triples) ≡ min n 7
triples-length n triples six = triples_length n triples six

-- seven stand for every number over 6
pub triples-cut : (k n : ℕ) (triples : List VvcQpOffsets) → length triples ≡ 6 → k ≡ min n 7 → triples_from k triples ≡ triples_from n triples
unfolding triples_from
triples-cut k n triples six e =
    let l : length (triples ++ (none ∷ [])) ≡ 7 = length-append triples (none ∷ []) ∙ (omega arith) in
    ap (map triple_of) (take-cut n 7 k (triples ++ (none ∷ [])) (omega arith) ∙ ap (take n) (take_all 7 (triples ++ (none ∷ [])) (omega arith)))

pub triples-whole : (n : ℕ) (triples : List VvcQpOffsets) → length triples ≡ 6 → take n (triples_from n triples) ≡ triples_from n triples
triples-whole n triples six = let l = triples_length n triples six in take_all n (triples_from n triples) (omega (arith, l))

pub triple-at : (n : ℕ) (triples : List VvcQpOffsets) (i : ℕ) → i < n → get_or (triples_from n triples) i (triple_of none) ≡ triple_of (get_or triples i none)
unfolding triples_from
triple-at n triples i h =
    get_or-map triple_of (take n (triples ++ (none ∷ []))) i none ∙ ap triple_of (get_or-take n (triples ++ (none ∷ [])) i none h ∙ padded_at triples i)

-- there is no seventh of the record's own
pub no-triple : (triples : List VvcQpOffsets) (i : ℕ) → length triples ≡ 6 → 6 ≤ i → triple_of none ≡ triple_of (get_or triples i none)
no-triple triples i e h = let l : length triples ≤ i = omega arith in rw (get_or-eq_default triples none l)
