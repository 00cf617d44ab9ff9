-- The plan and the cover question, from the grid question's answer.
use Rattle.std.specs.Prelude.{ℕ, ◌-◌, ◌*◌, ◌/◌, ◌%◌, ◌≤◌, List, [], map, length, take, Ok, Err, Some, None}
use Rattle.std.proofs.Math.Path.{◌≡◌, refl, sym, ap}
use Rattle.std.proofs.Common.{◌∙◌, arith}
use Rattle.std.proofs.lemmas.List.{length-map}
use Rattle.std.proofs.Math.Bool.{true, false}
use Rattle.std.proofs.Math.Nat.{mul_comm}
use Rattle.std.proofs.Math.Seq.{take-append_seam}
use Rattle.partition.specs.Checks.{fine, first_bad}
use Rattle.partition.specs.Cover.{RightTiles}
use Rattle.partition.proofs.Cover.{tiles-right}
use Rattle.partition.specs.Grid.{Grid, columns, rows, max_tile_columns, max_tiles, max_slices, max_slices_minus1}
use Rattle.partition.specs.Groups.{Group, groups_at, plan}
use Rattle.partition.specs.Partition.{Layout, declined, unsliced, sliced}
use Rattle.partition.specs.Sizes.{sum}
use Rattle.partition.specs.Walk.{placed}
use Rattle.pps_record.specs.declared.VvcPps.{VvcPps}
use Rattle.pps_syntax.specs.BlockRefusal.{declined_with}
use Rattle.pps_syntax.specs.FromRecord.{Lent}
use Rattle.question_tests.specs.Questions as questions
use Rattle.question_tests.specs.Questions.{layout_asked}
use Rattle.question_tests.specs.Sliced.{walked, number_of as declined-is}
use Rattle.tile_grid.specs.declared.Cover.{Cover}
use Rattle.tile_grid.specs.declared.placed.Placed.{Placed}
use Rattle.tile_grid.specs.declared.TileGrid.{TileGrid}
use Rattle.tile_grid.specs.Answers.{as_tile_grid}
use Rattle.tile_grid.specs.GridQuestion.{sizes_of, grid_answer_of, of_record, SumsFit}
use Rattle.tile_grid.specs.GroupsHeld.{in_front, right-held}
use Rattle.tile_grid.specs.Coverable.{Fitting, groups-fit}
use Rattle.tile_grid.specs.InGrid.{Asked, stopped, absent, without, with_groups, asked-cases, grid, checks, proper}
use Rattle.grid_sizes.specs.Answers.{grid_of_sizes}
use Rattle.tile_grid.specs.Placed.{has_slices, AcceptedIn, placed_of}
use Rattle.tile_grid.specs.PlanQuestion.{plan_answer_of, named, cover_named, RightAnswer}
use Rattle.tile_grid.specs.Rects.{tiles_of, no_tiles, plan_with}
use Rattle.tile_grid.specs.TileGroups.{groups_in, Countable}
use Rattle.tile_sizes.specs.Padded.{zeros, table_of}

-- ---- a refusal
pub plan-refused : (l : Layout) (n : ℕ) → Err n ≡ grid_answer_of l → Err n ≡ plan_answer_of l
unfolding sizes_of as_tile_grid plan_answer_of
plan-refused (declined m) n e = let z : n ≡ m = cc in ap Err z
plan-refused (unsliced g) n e = absurd (let z : ◌≡◌ {A = ℕ} 0 1 = cc in omega arith)
plan-refused (sliced g ps) n e = absurd (let z : ◌≡◌ {A = ℕ} 0 1 = cc in omega arith)

pub cover-refused : (l : Layout) (n : ℕ) → Err n ≡ grid_answer_of l → RightAnswer l (Err n)
unfolding sizes_of as_tile_grid RightAnswer
cover-refused (declined m) n e = let z : n ≡ m = cc in ap Err z
cover-refused (unsliced g) n e = absurd (let z : ◌≡◌ {A = ℕ} 0 1 = cc in omega arith)
cover-refused (sliced g ps) n e = absurd (let z : ◌≡◌ {A = ℕ} 0 1 = cc in omega arith)

-- ---- no refusal
not-declined : (l : Layout) (a : TileGrid) → Ok a ≡ grid_answer_of l → 0 ≡ declined_with l
unfolding sizes_of as_tile_grid declined_with
not-declined (declined m) a e = absurd (let z : ◌≡◌ {A = ℕ} 0 1 = cc in omega arith)
not-declined (unsliced g) a e = refl
not-declined (sliced g ps) a e = refl

grid-of : (g : Grid) (ps : List Group) (a : TileGrid) → Ok a ≡ grid_answer_of (sliced g ps) → a.sizes ≡ grid_of_sizes g.column_widths g.row_heights
unfolding sizes_of as_tile_grid
grid-of g ps a e = let z : a ≡ record { sizes = grid_of_sizes g.column_widths g.row_heights } = cc in ap (λ (x : TileGrid). x.sizes) z

module _ (r : VvcPps) (t : Lent) (a : TileGrid) (e : Ok a ≡ of_record r t) where
  -- so no test stopped it
  not-stopped : (n : ℕ) → (n ≡ 0 → ⊥) → layout_asked r t ≡ declined n → ⊥
  not-stopped n z i = z (sym (not-declined (layout_asked r t) a e ∙ ap declined_with i ∙ declined-is n))

  -- ---- no slices are coded
  module _ (off : has_slices r.partition ≡ false) where
    -- Without slices.
    unplanned : (g : Grid) × (layout_asked r t ≡ unsliced g)
    unplanned = go (asked-cases r t)
      where
        go : Asked r t → (g : Grid) × (layout_asked r t ≡ unsliced g)
        go (stopped n z i) = absurd (not-stopped n z i)
        go (absent c i) = (questions.no_tiles, i)
        go (without c ok i) = (grid r t, i)
        go (with_groups c ok f ps w i) = absurd (let q : true ≡ false = sym c ∙ off in let y : ◌≡◌ {A = ℕ} 0 1 = cc in omega arith)

    pub plan-none : Ok (plan_with []) ≡ plan_answer_of (layout_asked r t)
    unfolding plan_answer_of
    plan-none = rw unplanned.1

    pub cover-none : RightAnswer (layout_asked r t) (Ok None)
    unfolding RightAnswer
    cover-none = rw unplanned.1 refl

  -- ---- the slices of an accepted record
  module _ (on : has_slices r.partition ≡ true) (fit : SumsFit a) where
    record Planned : Type 0 where
      ok : first_bad (checks r t) ≡ fine
      few : r.partition.pps_num_slices_in_pic_minus1 ≤ max_slices_minus1
      groups : List Group
      walks : walked (grid r t) r.partition t.slices ≡ placed groups
      is : layout_asked r t ≡ sliced (grid r t) groups

    planned : Planned
    planned = go (asked-cases r t)
      where
        off : {A : Type 0} → has_slices r.partition ≡ false → A
        off c = absurd (let q : true ≡ false = sym on ∙ c in let y : ◌≡◌ {A = ℕ} 0 1 = cc in omega arith)

        go : Asked r t → Planned
        go (stopped n z i) = absurd (not-stopped n z i)
        go (absent c i) = off c
        go (without c ok i) = off c
        go (with_groups c ok f ps w i) = record { ok = ok; few = f; groups = ps; walks = w; is = i }

    fitting : Fitting (grid r t) planned.groups
    fitting = groups-fit r t planned.ok planned.few planned.groups planned.walks

    sizes-are : a.sizes ≡ grid_of_sizes (grid r t).column_widths (grid r t).row_heights
    sizes-are = grid-of (grid r t) planned.groups a (e ∙ ap grid_answer_of planned.is)

    sums : (sum (grid r t).column_widths ≤ 4294967295) × (sum (grid r t).row_heights ≤ 4294967295)
    unfolding grid_of_sizes table_of
    sums =
        rw (
          sizes-are,
          take-append_seam (grid r t).column_widths (zeros (max_tile_columns - length (grid r t).column_widths)),
          take-append_seam (grid r t).row_heights (zeros (max_tiles - length (grid r t).row_heights)),
        ) at fit

    accepted : AcceptedIn a.sizes r.partition t.slices (grid r t) planned.groups
    accepted = record { held = sizes-are; proper = proper r t planned.ok sums; few = planned.few; walks = planned.walks }

    pub some-accepted : (g : Grid) × ((ps : List Group) × AcceptedIn a.sizes r.partition t.slices g ps)
    some-accepted = (grid r t, (planned.groups, accepted))

    module _ (x : Placed) (made : (g : Grid) (ps : List Group) → AcceptedIn a.sizes r.partition t.slices g ps → x ≡ placed_of (plan g ps) ps) where
      x-is : x ≡ placed_of (plan (grid r t) planned.groups) planned.groups
      x-is = made (grid r t) planned.groups accepted

      pub plan-some : Ok x.plan ≡ plan_answer_of (layout_asked r t)
      unfolding plan_answer_of placed_of
      plan-some = rw (x-is, planned.is)

      front : take x.num_groups x.groups ≡ map tiles_of planned.groups
      unfolding placed_of
      front = rw x-is (let z : length planned.groups ≡ length (map tiles_of planned.groups) = sym (length-map planned.groups tiles_of) in rw z (in_front no_tiles (map tiles_of planned.groups)))

      pub groups-within : x.num_groups ≤ max_slices
      unfolding placed_of
      groups-within = rw x-is fitting.few

      pub cover-ready : Countable a.sizes.num_tile_columns a.sizes.num_tile_rows (take x.num_groups x.groups)
      unfolding grid_of_sizes
      cover-ready =
          rw (sizes-are, front)
          (record {
            some = fitting.some;
            wide = fitting.wide;
            small = omega (arith, fitting.small, mul_comm (columns (grid r t)) (rows (grid r t)));
            few = omega (arith, fitting.few, length-map planned.groups tiles_of);
          })

      pub cover-some : (c : Cover) → RightTiles (a.sizes.num_tile_columns * a.sizes.num_tile_rows) (λ k. groups_at (groups_in (take x.num_groups x.groups)) (k % a.sizes.num_tile_columns) (k / a.sizes.num_tile_columns)) (named c)
          → RightAnswer (layout_asked r t) (Ok (Some c))
      unfolding RightAnswer cover_named grid_of_sizes
      cover-some c h =
          rw planned.is
          (tiles-right (grid r t) planned.groups fitting.fit (named c)
          (right-held (grid r t) planned.groups (named c) (rw (sizes-are, front) at h)))
