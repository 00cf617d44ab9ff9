-- The questions by their steps: the tests before the slices' and the grid, then the slices in it.
use Rattle.std.specs.Prelude.{ℕ, zero, suc, ◌+◌, ◌-◌, ◌/◌, ◌≤◌, ◌<◌, ◌≡◌, Bool, ◌&&◌, length, take, Ok, Err}
use Rattle.std.proofs.Math.Path.{refl, ap}
use Rattle.std.proofs.Common.{sym, ◌∙◌, div-le_self, mul-le-mul_right, div-mul-le_self, le_trans, arith, lit<}
use mathlib.Core.List.{List, [], ◌∷◌, ◌++◌, map}
use Rattle.std.proofs.Math.Bool.{true, false, cond}
use Rattle.std.proofs.Math.Nat.{mul-pos}
use Rattle.std.proofs.Math.Dec.{eqb}
use Rattle.std.proofs.Math.Seq.{take-append_seam}
use borrow.Author.Tests.{eqb-true, eqb-false, eq-eqb, ne_eqb}
use Rattle.partition.specs.Accepted.{GridFits}
use Rattle.partition.proofs.Accepted.{grid-fits}
use Rattle.partition.specs.Checks.{Check, Outcome, fine, refused_with, first_bad, number_of, passes, number-refused, Numbered, zero-fine}
use Rattle.partition.specs.Entry.{asking}
use Rattle.partition.specs.Grid.{Grid, grid_with, tiles, columns, rows, max_tile_columns, max_tiles, max_slices_minus1}
use Rattle.partition.specs.Groups.{Group}
use Rattle.partition.specs.Partition.{in_ctbs, tile_grid, explicit_checks, axis_checks, grid_checks, grid_of, grid_checks_of, delta_flag_checks, partition_checks, Layout, declined, unsliced, sliced, unless, layout}
use Rattle.partition.specs.Walk.{placed}
use Rattle.partition.specs.Sizes.{sum, axis_sizes, Fit}
use Rattle.partition.proofs.Sizes.{pos_sizes, sum-sizes}
use Rattle.pps_record.specs.declared.VvcPps.{VvcPps}
use Rattle.pps_record.specs.declared.VvcPpsPartition.{VvcPpsPartition}
use Rattle.pps_syntax.specs.BlockRefusal.{declined_with, ctbs_most}
use Rattle.pps_syntax.specs.FromRecord.{Lent, block_from, partition_from}
use Rattle.pps_syntax.specs.Laid.{slices-coded}
use Rattle.pps_syntax.specs.PartitionSyntax.{coded, partition_of}
use Rattle.pps_syntax.specs.SliceSyntax.{entry_of}
use Rattle.pps_syntax.specs.SliceTables.{SliceTables, slices_from}
use Rattle.question_tests.specs.Questions.{record_checks, no_tiles, picture_layout, layout_asked, slicing_checks, entries_in, sliced_in}
use Rattle.question_tests.specs.Sliced.{Slicing, without-slices, with_slices, slicing-accepted, walked, declined-number, first-positive}
use Rattle.syntax.specs.Elements.{is_set}
use Rattle.grid_sizes.specs.Fronts.{grid_in}
use Rattle.grid_sizes.specs.declared.GridSizes.{GridSizes}
use Rattle.tile_grid.specs.GridQuestion.{sizes_of, SumsFit}
use Rattle.grid_sizes.specs.Answers.{grid_of_sizes, sizes_for, grid_sizes}
use Rattle.tile_grid.specs.Placed.{Proper, has_slices}
use Rattle.tile_sizes.specs.Padded.{zeros, table_of}

-- ---- the partition in its grid

-- two lists of checks
unless-both : (cs ds : List Check) (l : Layout) → unless (first_bad (cs ++ ds)) l ≡ unless (first_bad cs) (unless (first_bad ds) l)
unfolding first_bad unless
unless-both [] ds l = refl
unless-both (c ∷ cs) ds l = split c.bad (unless-both cs ds l)
  where
    split : (b : Bool) → unless (first_bad (cs ++ ds)) l ≡ unless (first_bad cs) (unless (first_bad ds) l)
        → unless (cond b (refused_with c.number) (first_bad (cs ++ ds))) l ≡ unless (cond b (refused_with c.number) (first_bad cs)) (unless (first_bad ds) l)
    split true ih = refl
    split false ih = ih

entries-count : (t : SliceTables) (i j n : ℕ) → length (map entry_of (slices_from t i j n)) ≡ n
unfolding slices_from
entries-count t i j zero = refl
entries-count t i j (suc n) = ap suc (entries-count t (i + 1) _ n)

module _ (W H : ℕ) (p : VvcPpsPartition) (t : Lent) where
  abbrev ws : List ℕ
  ws = take p.num_tile_column_widths t.column_widths

  abbrev hs : List ℕ
  hs = take p.num_tile_row_heights t.row_heights

  abbrev ctu : ℕ
  ctu = p.pps_log2_ctu_size_minus5

  -- the grid's checks, then the slices in it
  pub layout_in_grid : layout asking (partition_of W H (block_from p t)) ≡ unless (first_bad (grid_checks W H ctu ws hs)) (sliced_in (tile_grid W H ctu ws hs) p t.slices)
  unfolding layout partition_checks delta_flag_checks grid_checks_of grid_of partition_of sliced_in slicing_checks entries_in
  layout_in_grid =
      rw (slices-coded W H (block_from p t), unless-both (grid_checks W H ctu ws hs) _ _, entries-count t.slices 0 0 p.num_rect_slices)

and-false : (a : Bool) → (a && false) ≡ false
and-false true = refl
and-false false = refl

-- ---- the steps

module _ (r : VvcPps) (t : Lent) where
  abbrev W : ℕ
  W = r.pps_pic_width_in_luma_samples

  abbrev H : ℕ
  H = r.pps_pic_height_in_luma_samples

  abbrev p : VvcPpsPartition
  p = r.partition

  abbrev cs : List ℕ
  cs = take p.num_tile_column_widths t.column_widths

  abbrev rs : List ℕ
  rs = take p.num_tile_row_heights t.row_heights

  abbrev size : ℕ
  size = p.pps_log2_ctu_size_minus5

  abbrev pub grid : Grid
  grid = tile_grid W H size cs rs

  abbrev pub checks : List Check
  checks = grid_checks W H size cs rs

  numbered-record : Numbered (record_checks r t)
  unfolding record_checks Numbered
  numbered-record = (lit< tt, (lit< tt, (lit< tt, (lit< tt, (lit< tt, tt)))))

  numbered-grid : Numbered checks
  unfolding grid_checks explicit_checks axis_checks Numbered
  numbered-grid = (lit< tt, (lit< tt, (lit< tt, (lit< tt, (lit< tt, (lit< tt, (lit< tt, (lit< tt, (lit< tt, tt)))))))))

  -- ---- a grid that passed its checks

  module _ (ok : first_bad checks ≡ fine) where
    fits : GridFits (partition_of W H (block_from p t))
    unfolding grid_checks_of partition_of
    fits = grid-fits (partition_of W H (block_from p t)) (passes checks ok)

    pub few-columns : columns grid ≤ max_tile_columns
    unfolding grid_of partition_of
    few-columns = fits.few-columns

    low_rows : rows grid ≤ max_tiles / columns grid
    unfolding grid_of partition_of
    low_rows = fits.few-rows

    few-rows : rows grid ≤ max_tiles
    few-rows = omega (arith, low_rows, div-le_self max_tiles (columns grid))

    pub few-tiles : tiles grid ≤ max_tiles
    few-tiles = le_trans (mul-le-mul_right (columns grid) low_rows) (div-mul-le_self max_tiles (columns grid))

    pub a-column : 0 < columns grid
    unfolding grid_of partition_of
    a-column = fits.a-column

    pub some-tile : 0 < tiles grid
    unfolding grid_of partition_of
    some-tile = mul-pos fits.a-row fits.a-column

    axis-sum : (es : List ℕ) (samples : ℕ) → samples ≤ 4294967295 → Fit es (in_ctbs samples size) → sum (axis_sizes es (in_ctbs samples size)) ≤ 4294967295
    axis-sum es samples l f = omega (arith, sum-sizes es (in_ctbs samples size) f, ctbs_most samples size)

    pub grid-sums : W ≤ 4294967295 → H ≤ 4294967295 → (sum grid.column_widths ≤ 4294967295) × (sum grid.row_heights ≤ 4294967295)
    unfolding grid_of partition_of tile_grid
    grid-sums w h = (axis-sum cs W w fits.fit-columns, axis-sum rs H h fits.fit-rows)

    pub proper : (sum grid.column_widths ≤ 4294967295) × (sum grid.row_heights ≤ 4294967295) → Proper grid
    unfolding tile_grid
    proper h =
        record {
          some-tile = some-tile;
          column_sizes = record { few = omega (arith, few-columns); some = pos_sizes cs (in_ctbs W size); fits = h.0 };
          row_sizes = record { few = few-rows; some = pos_sizes rs (in_ctbs H size); fits = h.1 };
        }

  -- ---- the layout of a picture

  pub there-layout : (p.present ≡ 0 → ⊥) → picture_layout W H (partition_from p t) ≡ unless (first_bad checks) (sliced_in grid p t.slices)
  unfolding partition_from picture_layout
  there-layout q = rw (ne_eqb p.present 0 q) (layout_in_grid W H p t)

  pub absent-layout : p.present ≡ 0 → picture_layout W H (partition_from p t) ≡ unsliced no_tiles
  unfolding partition_from picture_layout
  absent-layout q = rw (eq-eqb p.present 0 q)

  -- ---- test by test, as the code makes them

  -- a test before the partition's own
  pub asked-tests : (n : ℕ) → n ≡ number_of (first_bad (record_checks r t)) → 0 < n → layout_asked r t ≡ declined n
  unfolding layout_asked unless
  asked-tests n e h = rw (number-refused (first_bad (record_checks r t)) n e (λ z. omega arith))

  module _ (fit : 0 ≡ number_of (first_bad (record_checks r t))) where
    asked-picture : layout_asked r t ≡ picture_layout W H (partition_from p t)
    unfolding layout_asked unless
    asked-picture = rw (zero-fine (record_checks r t) numbered-record fit)

    pub asked-absent : p.present ≡ 0 → layout_asked r t ≡ unsliced no_tiles
    asked-absent q = asked-picture ∙ absent-layout q

    module _ (there : p.present ≡ 0 → ⊥) where
      pub asked-there : layout_asked r t ≡ unless (first_bad checks) (sliced_in grid p t.slices)
      asked-there = asked-picture ∙ there-layout there

      -- one of the grid's
      pub asked-grid : (n : ℕ) → Err n ≡ grid_sizes W H size cs rs → layout_asked r t ≡ declined n
      unfolding unless grid_sizes sizes_for
      asked-grid n e = asked-there ∙ go (first_bad checks) e
        where
          go : (o : Outcome) → Err n ≡ sizes_for o grid → unless o (sliced_in grid p t.slices) ≡ declined n
          go fine q = absurd (let z : ◌≡◌ {A = ℕ} 0 1 = cc in omega arith)
          go (refused_with m) q = let z : n ≡ m = cc in ap declined (sym z)

      module _ (s : GridSizes) (right : Ok s ≡ grid_sizes W H size cs rs) where
        grid-right : (first_bad checks ≡ fine) × (s ≡ grid_of_sizes grid.column_widths grid.row_heights)
        unfolding grid_sizes sizes_for
        grid-right = go (first_bad checks) refl right
          where
            go : (o : Outcome) → first_bad checks ≡ o → Ok s ≡ sizes_for o grid → (first_bad checks ≡ fine) × (s ≡ grid_of_sizes grid.column_widths grid.row_heights)
            go fine f q = (f, cc)
            go (refused_with m) f q = absurd (let z : ◌≡◌ {A = ℕ} 0 1 = cc in omega arith)

        pub asked-in-grid : layout_asked r t ≡ sliced_in grid p t.slices
        unfolding unless
        asked-in-grid = asked-there ∙ rw grid-right.0

        grid-back : grid_in s ≡ grid
        unfolding grid_of_sizes table_of
        grid-back = rw grid-right.1 (both (take-append_seam grid.column_widths _) (take-append_seam grid.row_heights _))
          where
            both : {x y : List ℕ} → x ≡ grid.column_widths → y ≡ grid.row_heights → grid_with x y ≡ grid
            both i j = rw (i, j)

        -- the slices', in the grid's sizes
        asked-number : (n : ℕ) → n ≡ declined_with (sliced_in (grid_in s) p t.slices) → n ≡ declined_with (layout_asked r t)
        asked-number n e = e ∙ ap (λ (g : Grid). declined_with (sliced_in g p t.slices)) grid-back ∙ ap declined_with (sym asked-in-grid)

        pub asked-slices : (n : ℕ) → n ≡ declined_with (sliced_in (grid_in s) p t.slices) → 0 < n → layout_asked r t ≡ declined n
        asked-slices n e h = declined-number (layout_asked r t) n (asked-number n e) (λ z. omega arith)

        pub asked-accepted : 0 ≡ declined_with (sliced_in (grid_in s) p t.slices) → sizes_of (layout_asked r t) ≡ Ok s
        unfolding sizes_of
        asked-accepted e = go (slicing-accepted grid p t.slices (asked-number 0 e ∙ ap declined_with asked-in-grid))
          where
            go : Slicing grid p t.slices → sizes_of (layout_asked r t) ≡ Ok s
            go (without-slices c i) = rw (asked-in-grid, i, grid-right.1)
            go (with_slices c f ps w i) = rw (asked-in-grid, i, grid-right.1)

        pub sums-fit : W ≤ 4294967295 → H ≤ 4294967295 → SumsFit (record { sizes = s })
        unfolding grid_of_sizes table_of
        sums-fit w h = rw (grid-right.1, take-append_seam grid.column_widths (zeros (max_tile_columns - length grid.column_widths)), take-append_seam grid.row_heights (zeros (max_tiles - length grid.row_heights))) (grid-sums grid-right.0 w h)

  -- ---- the ways of a question, each with what it says of coded slices

  abbrev is_coded : Bool
  is_coded = coded p.pps_rect_slice_flag p.pps_single_slice_per_subpic_flag

  pub data Asked : Type 0 where
    stopped : (n : ℕ) → (n ≡ 0 → ⊥) → layout_asked r t ≡ declined n → Asked
    absent : has_slices p ≡ false → layout_asked r t ≡ unsliced no_tiles → Asked
    without : has_slices p ≡ false → first_bad checks ≡ fine → layout_asked r t ≡ unsliced grid → Asked
    with_groups : has_slices p ≡ true → first_bad checks ≡ fine → p.pps_num_slices_in_pic_minus1 ≤ max_slices_minus1 → (ps : List Group) → walked grid p t.slices ≡ placed ps → layout_asked r t ≡ sliced grid ps → Asked

  in_the_grid : (p.present ≡ 0 → ⊥) → first_bad checks ≡ fine → layout_asked r t ≡ sliced_in grid p t.slices → Asked
  unfolding has_slices
  in_the_grid there ok e = go (eqb (declined_with (sliced_in grid p t.slices)) 0) refl
    where
      slices : Slicing grid p t.slices → Asked
      slices (without-slices c i) = without (rw c (and-false (is_set p.present))) ok (e ∙ i)
      slices (with_slices c f ps w i) = with_groups (rw (c, ne_eqb p.present 0 there)) ok f ps w (e ∙ i)

      go : (b : Bool) → eqb (declined_with (sliced_in grid p t.slices)) 0 ≡ b → Asked
      go true z = slices (slicing-accepted grid p t.slices (sym (eqb-true (declined_with (sliced_in grid p t.slices)) 0 z)))
      go false z =
          let q = eqb-false (declined_with (sliced_in grid p t.slices)) 0 z in
          stopped (declined_with (sliced_in grid p t.slices)) q (e ∙ declined-number (sliced_in grid p t.slices) (declined_with (sliced_in grid p t.slices)) refl q)

  pub asked-cases : Asked
  unfolding layout_asked unless has_slices
  asked-cases = tests (first_bad (record_checks r t)) refl
    where
      checked : first_bad (record_checks r t) ≡ fine → (p.present ≡ 0 → ⊥) → (o : Outcome) → first_bad checks ≡ o → Asked
      checked f q (refused_with n) e = stopped n (first-positive checks numbered-grid n e) (rw f (there-layout q ∙ rw e))
      checked f q fine e = in_the_grid q e (rw f (there-layout q ∙ rw e))

      presence : first_bad (record_checks r t) ≡ fine → (b : Bool) → eqb p.present 0 ≡ b → Asked
      presence f true b = absent (rw b) (rw f (absent-layout (eqb-true p.present 0 b)))
      presence f false b = checked f (eqb-false p.present 0 b) (first_bad checks) refl

      tests : (o : Outcome) → first_bad (record_checks r t) ≡ o → Asked
      tests (refused_with n) e = stopped n (first-positive (record_checks r t) numbered-record n e) (rw e)
      tests fine e = presence e (eqb p.present 0) refl
