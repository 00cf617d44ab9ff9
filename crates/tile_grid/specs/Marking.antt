-- What holds at each turn of the loop that marks the edges of the groups: what is left to mark, over the tables as they are, makes the whole.
use Rattle.std.specs.Prelude.{◌≡◌, refl, Bool, true, false, List, [], ◌∷◌, ℕ, ◌+◌, ◌≤◌, ◌<◌, eqb, ltb, length, get_or, set, drop}
use Rattle.std.proofs.Common.{sym, ◌∙◌, add-zero, arith, get_or-set_same, get_or-set_other, ltb-true, ltb-false, eqb-true}
use Rattle.std.proofs.Math.Seq.{set_out}
use Rattle.std.proofs.lemmas.List.{drop_more, drop_all}
use Rattle.std.proofs.lemmas.Bool.{eqb-false}
use Rattle.partition.specs.Groups.{Group}
use Rattle.partition.specs.Sums.{among}
use Rattle.tile_grid.specs.declared.placed.TileGroup.{TileGroup}
use Rattle.tile_grid.specs.Rects.{no_tiles}
use Rattle.tile_grid.specs.TileGroups.{group_of, groups_in}
use Rattle.tile_grid.specs.Edges.{top_row, past_row, add_at, marked, AllZero, among_one, added_length, added-none}

-- ---- one table

pub record Marking (edge : Group → ℕ) (x : ℕ) (all rest : List Group) (t₀ t : List ℕ) (k : ℕ) : Type 0 where
  pub left : marked edge x rest t ≡ marked edge x all t₀
  pub most : (row : ℕ) → get_or t row 0 ≤ k
  pub same : length t ≡ length t₀

added_most : (t : List ℕ) (i n k : ℕ) → ((row : ℕ) → get_or t row 0 ≤ k) → n ≤ 1 → (row : ℕ) → get_or (add_at t i n) row 0 ≤ k + 1
unfolding add_at
added_most t i n k h l row = split (eqb i row) (ltb row (length t)) refl refl
  where
    split : (a b : Bool) → eqb i row ≡ a → ltb row (length t) ≡ b → get_or (set t i (get_or t i 0 + n)) row 0 ≤ k + 1
    split false b e f = omega (arith, get_or-set_other t i row (get_or t i 0 + n) 0 (λ g. eqb-false i row e (sym g)), h row)
    split true true e f = let g : i ≡ row = eqb-true i row e in rw g (omega (arith, get_or-set_same t row (get_or t row 0 + n) 0 (ltb-true row (length t) f), h row))
    split true false e f =
        let g : i ≡ row = eqb-true i row e in
        rw (g, set_out t row (get_or t row 0 + n) (ltb-false row (length t) f)) (omega (arith, h row))

module _ (edge : Group → ℕ) (x : ℕ) where
  marking_begins : (ps : List Group) (t : List ℕ) → AllZero t → Marking edge x ps ps t t 0
  marking_begins ps t z = record { left = refl; most = λ row. omega (arith, z row); same = refl }

  marking_goes-on : (all rest : List Group) (p : Group) (t₀ t : List ℕ) (k : ℕ) → Marking edge x all (p ∷ rest) t₀ t k
      → Marking edge x all rest t₀ (add_at t (edge p) (among p.tile_x p.width x)) (k + 1)
  unfolding marked
  marking_goes-on all rest p t₀ t k m =
      record {
        left = m.left;
        most = added_most t (edge p) (among p.tile_x p.width x) k m.most (among_one p.tile_x p.width x);
        same = added_length t (edge p) (among p.tile_x p.width x) ∙ m.same;
      }

  marking_ends : (all : List Group) (t₀ t : List ℕ) (k : ℕ) → Marking edge x all [] t₀ t k → t ≡ marked edge x all t₀
  unfolding marked
  marking_ends all t₀ t k m = m.left

-- ---- both tables

module _ (gs : List TileGroup) (x : ℕ) where
  pub record Counting (starts₀ ends₀ starts ends : List ℕ) (k : ℕ) : Type 0 where
    pub tops : Marking top_row x (groups_in gs) (groups_in (drop k gs)) starts₀ starts k
    pub pasts : Marking past_row x (groups_in gs) (groups_in (drop k gs)) ends₀ ends k
    pub inside : k ≤ length gs

  pub counting-begins : (starts ends : List ℕ) → AllZero starts → AllZero ends → Counting starts ends starts ends 0
  counting-begins starts ends a b =
      record { tops = marking_begins top_row x _ starts a; pasts = marking_begins past_row x _ ends b; inside = omega arith }

  module _ (starts₀ ends₀ starts ends : List ℕ) (k : ℕ) (c : Counting starts₀ ends₀ starts ends k) where
    abbrev g : TileGroup
    g = get_or gs k no_tiles

    pub counting-goes-on : (n : ℕ) (starts' ends' : List ℕ) → k < length gs → n ≡ among g.x g.columns x → starts' ≡ add_at starts (g.y + 0) n
        → ends' ≡ add_at ends (g.y + g.rows) n → Counting starts₀ ends₀ starts' ends' (k + 1)
    unfolding group_of top_row past_row
    counting-goes-on n starts' ends' l e f h =
        record {
          tops = rw (f, e, add-zero) (marking_goes-on top_row x _ _ (group_of g) starts₀ starts k (rw (drop_more gs k no_tiles l) at c.tops));
          pasts = rw (h, e) (marking_goes-on past_row x _ _ (group_of g) ends₀ ends k (rw (drop_more gs k no_tiles l) at c.pasts));
          inside = omega arith;
        }

    -- a group that does not reach into the column
    pub counting-skips : k < length gs → 0 ≡ among g.x g.columns x → Counting starts₀ ends₀ starts ends (k + 1)
    counting-skips l e = counting-goes-on 0 starts ends l e (added-none starts (g.y + 0)) (added-none ends (g.y + g.rows))

    pub counting-ends : length gs ≤ k → (starts ≡ marked top_row x (groups_in gs) starts₀) × (ends ≡ marked past_row x (groups_in gs) ends₀)
    counting-ends l = (
      marking_ends top_row x _ starts₀ starts k (rw (drop_all k gs l) at c.tops),
      marking_ends past_row x _ ends₀ ends k (rw (drop_all k gs l) at c.pasts),
    )
