-- The lists of a set that was read fit the tables that are lent for them, of the lengths that docs/BEHAVIOUR.md states: no entry that the record counts is left out.
use Rattle.std.specs.Prelude.{ℕ, suc, ◌-◌, ◌≤◌, ◌<◌, min, ◌≡◌, List, [], ◌∷◌, Bool, true, false, cond, ◌&&◌, leb, length}
use Rattle.std.proofs.Common.{arith, lit<, leb-true, eqb-true}
use Rattle.codes.specs.Symbols.{refusal_in, check}
use Rattle.partition.specs.Grid.{max_tile_columns, max_tiles, max_slices_minus1, max_slices}
use Rattle.pps_syntax.specs.Chroma.{ChromaToolOffsets, chroma}
use Rattle.pps_syntax.specs.PartitionSyntax.{PartitionBlock}
use Rattle.pps_syntax.specs.Pps.{Pps}
use Rattle.pps_syntax.specs.SliceTables.{all_split_heights}
use Rattle.pps_syntax.specs.SubpicIds.{SubpicIds, subpic_ids, max_subpics, max_subpics_minus1}
use Rattle.syntax.specs.Element.{Element}
use Rattle.syntax.specs.Elements.{u, ue, limited, sameℕ, or_else, is_set, check-held}
use Rattle.syntax.proofs.Elements.{absent}
use Rattle.syntax.specs.Facts.{Facts, facts}
use Rattle.syntax.specs.Lists.{many, none, many-length, not-true}
use Rattle.syntax.specs.Round.{refusal_parts}
use Rattle.syntax.specs.Syntax.{◌>>=◌, refusal_for, canonical_for}

-- ---- elements
limit_held : (limit v n : ℕ) (l : 0 < n) → refusal_in ((limited ue (λ x. leb x limit) n l).symbols v) ≡ 0 → v ≤ limit
limit_held limit v n l h = leb-true v limit (check-held (leb v limit) n l (refusal_parts (check (leb v limit) n) (ue.symbols v) h).0)

-- a list that is there or not: as long as was said, or empty
listed : {A : Type 0} (on : Bool) (k : ℕ) (e : Element A) (n m : ℕ) (l : List A) → (or_else on (many k e n) (none m)).canonical l ≡ true → length l ≤ k
unfolding or_else
listed true k e n m l c = omega (arith, many-length k e n l c)
listed false k e n m [] c = omega arith
listed false k e n m (x ∷ l) c = absurd (not-true c)

-- a number with a limit, or 0
pub bounded : (on : Bool) (limit v n m : ℕ) (l : 0 < n) → refusal_in ((or_else on (limited ue (λ x. leb x limit) n l) (absent sameℕ 0 m)).symbols v) ≡ 0
    → (or_else on (limited ue (λ x. leb x limit) n l) (absent sameℕ 0 m)).canonical v ≡ true → v ≤ limit
unfolding or_else
bounded true limit v n m l h c = limit_held limit v n l h
bounded false limit v n m l h c = omega (arith, eqb-true v 0 c)

-- ---- the subpicture ids
pub ids-fit : (parted : Bool) (m : SubpicIds) → refusal_for (subpic_ids parted) m ≡ 0 → canonical_for (subpic_ids parted) m ≡ true → length m.pps_subpic_id ≤ max_subpics
unfolding subpic_ids Facts ◌>>=◌
ids-fit parted m h c =
    let f = facts (subpic_ids parted) m h c in
    let num : ℕ = m.pps_num_subpics_minus1 in
    let on : Bool = is_set m.present in
    let few : num ≤ max_subpics_minus1 = bounded (on && parted) max_subpics_minus1 num 8 (cond on 26 0) (lit< tt) f.1.0.0 f.1.0.1 in
    omega (arith, few, listed on (suc num) (u (suc (min m.pps_subpic_id_len_minus1 15)) 27) 27 0 m.pps_subpic_id f.1.1.1.0.1)

-- ---- the partition block
pub record BlockFits (b : PartitionBlock) : Type 0 where
  pub column-widths : length b.pps_tile_column_width_minus1 ≤ max_tile_columns
  pub row-heights : length b.pps_tile_row_height_minus1 ≤ max_tiles
  pub entries : length b.rect_slices ≤ max_slices_minus1
  pub split-heights : length (all_split_heights b.rect_slices) ≤ max_slices

-- ---- the chroma offset list
pub triples-fit : (t : ChromaToolOffsets) → refusal_for chroma t ≡ 0 → canonical_for chroma t ≡ true → length t.list ≤ 6
unfolding chroma Facts ◌>>=◌
triples-fit t h c =
    let f = (facts chroma t h c).1.1.1.1.1.1.1 in
    omega (arith, leb-true (length t.list - 1) 5 f.1.1.0)

-- ---- the set
pub record ListsFit (r : Pps) : Type 0 where
  pub subpic_ids_lem : length r.front.subpic_ids.pps_subpic_id ≤ max_subpics
  pub blocks : (b : PartitionBlock) → r.partition ≡ b ∷ [] → BlockFits b
  pub triples : length r.back.chroma.list ≤ 6
