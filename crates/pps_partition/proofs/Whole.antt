-- The parts of the block, one behind the other, are the block as its description has it.
use Rattle.std.specs.Prelude.{ℕ, ◌≤◌, ◌/◌, ◌≡◌, List, ◌++◌, Bool, true, false, cond, ◌&&◌, leb, Option, Some, None, Result, Ok, Err, length, take, drop, refl}
use Rattle.std.proofs.Common.{Bor, sym, ap, ◌∙◌, arith}
use Rattle.std.proofs.Math.Seq.{take_at, length-sets, length-take-le}
use Rattle.std.proofs.lemmas.List.Edits.{sets}
use Rattle.tables.specs.Tables.{over as laid_over, sets_over, over-length}
use Rattle.refusal.specs.declared.Refusal.{Refusal}
use Rattle.refusal.specs.declared.Refusal.TheVariants.{TileSizesSum, GridTooLarge}
use Rattle.refusal.specs.Numbers.{number, refused}
use Rattle.bit_reader.specs.declared.BitReader.{BitReader}
use Rattle.bit_reader.specs.declared.Cursor.{Cursor}
use Rattle.bit_reader.specs.Gives.{Parsed, parsed, cursor_of, Gives, held_as, value_read}
use Rattle.bit_reader.specs.Reading.{refusal, cursor_at, demanded}
use Rattle.bit_reader.specs.Laws.{demanded-refused}
use Rattle.bit_reader.proofs.Gives.{given, given_back, refused_back, refuses, not-0, over, holds, holds-none}
use Rattle.partition.specs.Grid.{Grid, columns, max_tile_columns, max_tiles}
use Rattle.partition.specs.Partition.{in_ctbs, tile_grid}
use Rattle.partition.specs.Sizes.{uniform_size, axis_sizes, Fit}
use Rattle.pps_record.specs.declared.VvcPpsPartition.{VvcPpsPartition}
use Rattle.pps_syntax.specs.PartitionSyntax.{PartitionBlock, partition}
use Rattle.pps_syntax.specs.Record.{partition_record}
use Rattle.pps_syntax.specs.SliceTables.{SliceTables}
use Rattle.syntax.specs.Syntax.{parse, ◌>>=◌}
use Rattle.syntax.proofs.Round.{parse-stuck}
use Rattle.tile_sizes.specs.Limits.{within_limits, Limited, limits_held}
use Rattle.pps_fields.specs.Axis.{axis_of, counted-fit}
use Rattle.pps_slices.specs.Grids.{GridHas}
use Rattle.pps_slices.specs.Loop.{slices_left}
use Rattle.pps_slices.proofs.Chain.{was_read, was_refused}
use Rattle.pps_slices.proofs.Stuck.{Stuck, stays-stuck}
use Rattle.pps_partition.specs.declared.slicing.SlicingRead.{SlicingRead}
use Rattle.pps_partition.specs.declared.tiles.NumTiles.{NumTiles}
use Rattle.pps_partition.specs.declared.tiles.TileSizesRead.{TileSizesRead}
use Rattle.pps_partition.specs.GridTests.{axes_tested, grid_tested}
use Rattle.pps_partition.specs.PartitionAnswer.{one_block, partition_left}
use Rattle.pps_partition.specs.Slicing.{Slicing, slicing, slicing_kept, slicing_left}
use Rattle.pps_partition.specs.TileSizes.{TileSizes, tile_sizes, sizes_kept, grid_from}
use Rattle.pps_partition.proofs.Fronts.{room, there_and_back}
use Rattle.pps_partition.proofs.Sizes.{rows_few}
use Rattle.pps_partition.proofs.Slices.{sliced-none}

-- ---- four tests, one behind the other
tested : Bool → Bool → Bool → Bool → NumTiles → Result NumTiles Refusal
tested a b c d n = cond a (cond b (cond c (cond d (Ok n) (Err GridTooLarge)) (Err TileSizesSum)) (Err GridTooLarge)) (Err TileSizesSum)

counted_tested : (a c : Bool) (w h : ℕ)
    → tested a (leb w max_tile_columns) c (leb h (max_tiles / w)) (record { columns = w; rows = h }) ≡ axes_tested (cond a (Some w) None) (cond c (Some h) None)
unfolding tested axes_tested
counted_tested false c w h = refl
counted_tested true false w h = refl
counted_tested true true w h = refl

-- behind a refusal no other comes
demanded-last : (c d : Bool) (at n : ℕ) → (n ≡ 0 → ⊥) → demanded d 13 (demanded c 12 (record { at = at; refused = n })) ≡ record { at = at; refused = n }
demanded-last c d at n h = ap (demanded d 13) (demanded-refused c 12 _ h) ∙ demanded-refused d 13 _ h

later : (b c d : Bool) (at n : ℕ) → (n ≡ 0 → ⊥) → demanded d 13 (demanded c 12 (demanded b 13 (record { at = at; refused = n }))) ≡ record { at = at; refused = n }
later b c d at n h = ap (λ (x : Cursor). demanded d 13 (demanded c 12 x)) (demanded-refused b 13 _ h) ∙ demanded-last c d at n h

tests_are : (a b c d : Bool) (n : NumTiles) (at : ℕ)
    → demanded d 13 (demanded c 12 (demanded b 13 (demanded a 12 (cursor_at at)))) ≡ record { at = at; refused = refused (tested a b c d n) }
unfolding demanded refused number tested
tests_are false b c d n at = later b c d at 12 (λ z. omega arith)
tests_are true false c d n at = demanded-last c d at 13 (λ z. omega arith)
tests_are true true false d n at = demanded-refused d 13 _ (λ z. omega arith)
tests_are true true true false n at = refl
tests_are true true true true n at = refl

-- what they have shown
record Held (n : NumTiles) (x y : Option ℕ) : Type 0 where
  columns_are : x ≡ Some n.columns
  rows_are : y ≡ Some n.rows
  few : leb n.columns max_tile_columns ≡ true
  low : leb n.rows (max_tiles / n.columns) ≡ true

all_held : (x y : Option ℕ) {n : NumTiles} → Ok n ≡ axes_tested x y → Held n x y
unfolding axes_tested
all_held None y e = absurd cc
all_held (Some w) None {n} e = split (leb w max_tile_columns) e
  where
    split : (b : Bool) → Ok n ≡ cond b (Err TileSizesSum) (Err GridTooLarge) → Held n (Some w) None
    split true f = absurd cc
    split false f = absurd cc
all_held (Some w) (Some h) {n} e = split (leb w max_tile_columns) (leb h (max_tiles / w)) refl refl e
  where
    split : (b d : Bool) → leb w max_tile_columns ≡ b → leb h (max_tiles / w) ≡ d
        → Ok n ≡ cond b (cond d (Ok (record { columns = w; rows = h })) (Err GridTooLarge)) (Err GridTooLarge) → Held n (Some w) (Some h)
    split false d p q f = absurd cc
    split true false p q f = absurd cc
    split true true p q f =
        let is : n ≡ record { columns = w; rows = h } = cc in
        rw is (record { columns_are = refl; rows_are = refl; few = p; low = q })

-- ---- the block
abbrev pub block_of : TileSizes → Slicing → PartitionBlock
block_of t l =
    record {
      pps_log2_ctu_size_minus5 = t.pps_log2_ctu_size_minus5;
      pps_tile_column_width_minus1 = t.pps_tile_column_width_minus1;
      pps_tile_row_height_minus1 = t.pps_tile_row_height_minus1;
      pps_loop_filter_across_tiles_enabled_flag = l.flags.pps_loop_filter_across_tiles_enabled_flag;
      pps_rect_slice_flag = l.flags.pps_rect_slice_flag;
      pps_single_slice_per_subpic_flag = l.flags.pps_single_slice_per_subpic_flag;
      pps_num_slices_in_pic_minus1 = l.flags.pps_num_slices_in_pic_minus1;
      pps_tile_idx_delta_present_flag = l.flags.pps_tile_idx_delta_present_flag;
      rect_slices = l.rect_slices;
      pps_loop_filter_across_slices_enabled_flag = l.pps_loop_filter_across_slices_enabled_flag;
    }

module _ (W H : ℕ) where
  -- what is read behind the sizes
  unfoldable pub sliced_at : TileSizes → List ℕ → Cursor → Parsed Slicing
  sliced_at t s c = parse (slicing (grid_from W H t)) s (grid_tested W H t c)

  abbrev behind_sizes : TileSizes → List ℕ → Cursor → Parsed PartitionBlock
  behind_sizes t s c = parsed (block_of t (sliced_at t s c).value) (sliced_at t s c).next

  pub splits : (s : List ℕ) (c : Cursor) → parse (partition W H) s c ≡ behind_sizes (parse (tile_sizes W H) s c).value s (parse (tile_sizes W H) s c).next
  unfolding partition tile_sizes slicing grid_tested sliced_at parse ◌>>=◌
  splits s c = refl

  sliced-stuck : (t : TileSizes) (s : List ℕ) (c : Cursor) → ((grid_tested W H t c).refused ≡ 0 → ⊥) → (sliced_at t s c).next ≡ grid_tested W H t c
  unfolding sliced_at
  sliced-stuck t s c h = parse-stuck (slicing (grid_from W H t)) refl s (grid_tested W H t c) h

  pub tested-stuck : (t : TileSizes) (c : Cursor) → (c.refused ≡ 0 → ⊥) → grid_tested W H t c ≡ c
  unfolding grid_tested
  tested-stuck t c h = ap (demanded _ 13) (ap (demanded _ 12) (ap (demanded _ 13) (demanded-refused _ 12 c h) ∙ demanded-refused _ 13 c h) ∙ demanded-refused _ 12 c h) ∙ demanded-refused _ 13 c h

  -- the tests over what was counted on the axes
  pub tested-as : (t : TileSizes) (at : ℕ) → grid_tested W H t (cursor_at at) ≡ record { at = at; refused = refused (axes_tested (sizes_kept W H t).columns.sizes (sizes_kept W H t).rows.sizes) }
  unfolding grid_tested axis_of
  tested-as t at = tests_are _ _ _ _ _ at ∙ ap (λ (y : Result NumTiles Refusal). record { at = at; refused = refused y }) (counted_tested _ _ _ _)

  -- ---- the tables, refused or not
  module _ (p : BitReader) where
    abbrev sizes_read : Parsed TileSizes
    sizes_read = parse (tile_sizes W H) p.bytes.now (cursor_of p)

    abbrev behind_tests : Cursor
    behind_tests = grid_tested W H sizes_read.value sizes_read.next

    block_read : value_read (parse (partition W H)) p ≡ (behind_sizes sizes_read.value p.bytes.now sizes_read.next).value
    block_read = ap (λ (b : Parsed PartitionBlock). b.value) (splits p.bytes.now (cursor_of p))

    pub columns_put : (t u : List ℕ) → u ≡ sets t 0 sizes_read.value.pps_tile_column_width_minus1 → u ≡ sets t 0 (value_read (parse (partition W H)) p).pps_tile_column_width_minus1
    columns_put t u e = e ∙ ap (λ (b : PartitionBlock). sets t 0 b.pps_tile_column_width_minus1) (sym block_read)

    -- the rows, read over a copy of their table's front that goes back there
    pub rows_put : (t : List ℕ) {first read u : List ℕ} → first ≡ take (length room) t ++ drop (length t) room → read ≡ sets first 0 sizes_read.value.pps_tile_row_height_minus1
        → u ≡ take (length t) read ++ drop (length read) t → u ≡ sets t 0 (value_read (parse (partition W H)) p).pps_tile_row_height_minus1
    rows_put t f r e = there_and_back t f _ r (rows_few W H p.bytes.now (cursor_of p)) e ∙ ap (λ (b : PartitionBlock). sets t 0 b.pps_tile_row_height_minus1) (sym block_read)

    abbrev pub SlicesPut : SliceTables → SliceTables → Type 0
    SlicesPut t u = u ≡ slices_left t 0 0 (value_read (parse (partition W H)) p).rect_slices (partition_left W H p.bytes.now (cursor_of p))

    -- as the slicing behind the tests leaves them
    slices_behind : (t u : SliceTables) → u ≡ slices_left t 0 0 (parse (slicing (grid_from W H sizes_read.value)) p.bytes.now behind_tests).value.rect_slices (slicing_left (grid_from W H sizes_read.value) p.bytes.now behind_tests)
        → SlicesPut t u
    unfolding partition_left sliced_at
    slices_behind t u e =
        e ∙ ap (λ (b : PartitionBlock). slices_left t 0 0 b.rect_slices (slicing_left (grid_from W H sizes_read.value) p.bytes.now behind_tests)) (sym block_read)

    -- nothing is put where a refusal stands before
    slices_none : Stuck behind_tests → (t : SliceTables) → SlicesPut t t
    slices_none h t = slices_behind t t (sliced-none (grid_from W H sizes_read.value) p.bytes.now behind_tests h t)

  abbrev pub Block : BitReader → BitReader → Result VvcPpsPartition Refusal → Type 0
  Block p r x = Gives (held_as one_block (parse (partition W H))) p r x

  block-refused : {p r : BitReader} {e : Refusal} → Gives (parse (partition W H)) p r (Err e) → Block p r (Err e)
  block-refused g = holds-none one_block g

  -- the sizes read from a place, their grid, the explicit rows and the picture's height
  abbrev sizes_at : BitReader → TileSizes
  sizes_at p = value_read (parse (tile_sizes W H)) p

  abbrev grid_at : BitReader → Grid
  grid_at p = grid_from W H (sizes_at p)

  abbrev rows_at : BitReader → List ℕ
  rows_at p = (sizes_at p).pps_tile_row_height_minus1

  abbrev height_at : BitReader → ℕ
  height_at p = in_ctbs H (sizes_at p).pps_log2_ctu_size_minus5

  module _ {p q : BitReader} where
    pub no_sizes : {e : Refusal} → Gives (held_as (sizes_kept W H) (parse (tile_sizes W H))) p q (Err e) → Block p q (Err e)
    no_sizes {e} S =
        let s = p.bytes.now in
        let y : Parsed TileSizes = parse (tile_sizes W H) s (cursor_of p) in
        let is : refusal (cursor_of q) (number e) ≡ y.next = refused_back (was_refused (sizes_kept W H) (parse (tile_sizes W H)) S) in
        let stuck = not-0 e q.bit_pos is in
        let tests : grid_tested W H y.value y.next ≡ y.next = tested-stuck y.value y.next stuck in
        let last = sliced-stuck y.value s y.next (λ z. stuck (ap (λ (c : Cursor). c.refused) (sym tests) ∙ z)) in
        block-refused (refuses S.bytes (is ∙ sym (ap (λ (b : Parsed PartitionBlock). b.next) (splits s (cursor_of p)) ∙ last ∙ tests)))

    pub no_sizes_put : {e : Refusal} → Gives (held_as (sizes_kept W H) (parse (tile_sizes W H))) p q (Err e) → (t : SliceTables) → SlicesPut p t t
    no_sizes_put {e} S =
        let stuck = not-0 e q.bit_pos (refused_back (was_refused (sizes_kept W H) (parse (tile_sizes W H)) S)) in
        slices_none p (stays-stuck (tested-stuck (sizes_read p).value (sizes_read p).next stuck) stuck)

    module _ {z : TileSizesRead} (S : Gives (held_as (sizes_kept W H) (parse (tile_sizes W H))) p q (Ok z)) where
      base : parse (partition W H) p.bytes.now (cursor_of p) ≡ behind_sizes (sizes_at p) p.bytes.now (cursor_of q)
      base =
          splits p.bytes.now (cursor_of p)
          ∙ ap (λ (y : Parsed TileSizes). behind_sizes y.value p.bytes.now y.next) (sym (given_back (was_read (sizes_kept W H) (parse (tile_sizes W H)) S)))

      tests : {x : Result NumTiles Refusal} → x ≡ axes_tested z.columns.sizes z.rows.sizes → grid_tested W H (sizes_at p) (cursor_of q) ≡ record { at = q.bit_pos; refused = refused x }
      tests {x} e =
          tested-as (sizes_at p) q.bit_pos
          ∙ ap (λ (y : TileSizesRead). record { at = q.bit_pos; refused = refused (axes_tested y.columns.sizes y.rows.sizes) }) S.value
          ∙ ap (λ (y : Result NumTiles Refusal). record { at = q.bit_pos; refused = refused y }) (sym e)

      pub no_grid : {e : Refusal} → Err e ≡ axes_tested z.columns.sizes z.rows.sizes → Block p q (Err e)
      unfolding refused
      no_grid {e} x =
          let is : refusal (cursor_of q) (number e) ≡ grid_tested W H (sizes_at p) (cursor_of q) = sym (tests x) in
          let last = sliced-stuck (sizes_at p) p.bytes.now (cursor_of q) (not-0 e q.bit_pos is) in
          block-refused (refuses S.bytes (is ∙ sym last ∙ sym (ap (λ (b : Parsed PartitionBlock). b.next) base)))

      -- where the sizes were read to
      read_to : behind_tests p ≡ grid_tested W H (sizes_at p) (cursor_of q)
      read_to = ap (λ (y : Parsed TileSizes). grid_tested W H y.value y.next) (sym (given_back (was_read (sizes_kept W H) (parse (tile_sizes W H)) S)))

      pub no_grid_put : {e : Refusal} → Err e ≡ axes_tested z.columns.sizes z.rows.sizes → (t : SliceTables) → SlicesPut p t t
      unfolding refused
      no_grid_put {e} x = slices_none p (not-0 e q.bit_pos (sym (read_to ∙ tests x)))

      module _ {n : NumTiles} (fine : Ok n ≡ axes_tested z.columns.sizes z.rows.sizes) where
        -- as the slicing leaves them, refused or not
        pub slices_put : (t u : SliceTables) → u ≡ slices_left t 0 0 (value_read (parse (slicing (grid_at p))) q).rect_slices (slicing_left (grid_at p) q.bytes.now (cursor_of q)) → SlicesPut p t u
        unfolding refused
        slices_put t u e =
            let there : cursor_of q ≡ behind_tests p = sym (read_to ∙ tests fine) in
            slices_behind p t u
            (e ∙ ap (λ (b : Bor (List ℕ)). slices_left t 0 0 (parse (slicing (grid_at p)) b.now (cursor_of q)).value.rect_slices (slicing_left (grid_at p) b.now (cursor_of q))) S.bytes
            ∙ ap (λ (c : Cursor). slices_left t 0 0 (parse (slicing (grid_at p)) p.bytes.now c).value.rect_slices (slicing_left (grid_at p) p.bytes.now c)) there)

        going : sliced_at (sizes_at p) p.bytes.now (cursor_of q) ≡ parse (slicing (grid_at p)) p.bytes.now (cursor_of q)
        unfolding sliced_at refused
        going = ap (parse (slicing (grid_at p)) p.bytes.now) (tests fine)

        pub no_slicing : {r : BitReader} {e : Refusal} → Gives (held_as slicing_kept (parse (slicing (grid_at p)))) q r (Err e) → Block p r (Err e)
        no_slicing {r} {e} L =
            let is : refusal (cursor_of r) (number e) ≡ (parse (slicing (grid_at p)) p.bytes.now (cursor_of q)).next = refused_back (over S.bytes (was_refused slicing_kept (parse (slicing (grid_at p))) L)) in
            block-refused (refuses (L.bytes ∙ S.bytes) (is ∙ sym (ap (λ (b : Parsed PartitionBlock). b.next) base ∙ ap (λ (y : Parsed Slicing). y.next) going)))

        module _ {r : BitReader} {l : SlicingRead} (L : Gives (held_as slicing_kept (parse (slicing (grid_at p)))) q r (Ok l)) where
          abbrev sliced : Slicing
          sliced = value_read (parse (slicing (grid_at p))) q

          block : Gives (parse (partition W H)) p r (Ok (block_of (sizes_at p) sliced))
          block =
              given (L.bytes ∙ S.bytes)
              (ap (λ (y : Parsed Slicing). parsed (block_of (sizes_at p) y.value) y.next) (given_back (over S.bytes (was_read slicing_kept (parse (slicing (grid_at p))) L)) ∙ sym going) ∙ sym base)

          pub block_made : Block p r (Ok (record {
            present = 1;
            pps_log2_ctu_size_minus5 = z.ctu;
            num_tile_column_widths = z.columns.count;
            num_tile_row_heights = z.rows.count;
            pps_loop_filter_across_tiles_enabled_flag = l.flags.across_tiles;
            pps_rect_slice_flag = l.flags.rect;
            pps_single_slice_per_subpic_flag = l.flags.single;
            pps_num_slices_in_pic_minus1 = l.flags.num_slices_minus1;
            pps_tile_idx_delta_present_flag = l.flags.deltas;
            num_rect_slices = l.num_rect_slices;
            pps_loop_filter_across_slices_enabled_flag = l.across_slices;
          }))
          unfolding partition_record axis_of
          block_made = holds one_block block (rw (← S.value, ← L.value) refl)

        -- ---- the grid
        held : Held n z.columns.sizes z.rows.sizes
        held = all_held _ _ fine

        limited : Limited n.columns n.rows
        unfolding within_limits
        limited = limits_held n.columns n.rows (both held.few held.low)
          where
            both : {a b : Bool} → a ≡ true → b ≡ true → (a && b) ≡ true
            both e f = rw (e, f)

        pub grid-small : (n.columns ≤ max_tile_columns) × (n.rows ≤ max_tiles)
        grid-small = (limited.few, limited.low)

        columns_counted : n.columns ≡ columns (grid_at p)
        unfolding tile_grid
        columns_counted = (counted-fit _ _ (ap (λ (y : TileSizesRead). y.columns.sizes) S.value ∙ held.columns_are)).1

        -- the explicit rows are the front of a table v of the limit
        module _ (v₀ v : List ℕ) (long : length v₀ ≡ max_tiles) (put : v ≡ sets v₀ 0 (sizes_at p).pps_tile_row_height_minus1) where
          counted : z.rows.count ≡ length (rows_at p)
          unfolding axis_of
          counted = sym (ap (λ (y : TileSizesRead). y.rows.count) S.value)

          few : length (rows_at p) ≤ max_tiles
          few = rows_few W H p.bytes.now (cursor_of p)

          same-length : length v ≡ max_tiles
          same-length = ap length put ∙ length-sets v₀ 0 (rows_at p) ∙ long

          pub front : take z.rows.count v ≡ (rows_at p)
          unfolding laid_over
          front = ap (take z.rows.count) (put ∙ sets_over v₀ (rows_at p) (omega (arith, few))) ∙ take_at (rows_at p) (drop (length (rows_at p)) v₀) z.rows.count (sym counted)

          height_is : z.pic_height.0 ≡ (height_at p)
          height_is = sym (ap (λ (y : TileSizesRead). y.pic_height.0) S.value)

          rows_counted : Fit (rows_at p) (height_at p) × (n.rows ≡ length (axis_sizes (rows_at p) (height_at p)))
          rows_counted = counted-fit _ _ (ap (λ (y : TileSizesRead). y.rows.sizes) S.value ∙ held.rows_are)

          rows_sized : n.rows ≡ length (axis_sizes (rows_at p) (height_at p))
          rows_sized = rows_counted.1

          -- what `spread` asks for
          pub spread_ready : (z.rows.count ≤ length v) × (z.rows.uniform ≡ uniform_size (take z.rows.count v)) × Fit (take z.rows.count v) z.pic_height.0
              × (n.rows ≡ length (axis_sizes (take z.rows.count v) z.pic_height.0)) × (n.rows ≤ length v)
          unfolding axis_of
          spread_ready =
              rw (front, height_is)
              (omega (arith, same-length, counted, few), sym (ap (λ (y : TileSizesRead). y.rows.uniform) S.value), rows_counted.0, rows_sized, omega (arith, same-length, limited.low))

          module _ {w : List ℕ} (spread : w ≡ laid_over (axis_sizes (take z.rows.count v) z.pic_height.0) v) where
            laid : w ≡ laid_over (axis_sizes (rows_at p) (height_at p)) v
            laid = rw (front, height_is) at spread

            -- it leaves room for the rows
            pub spread_length : n.rows ≤ length w
            spread_length = omega (arith, ap length laid, over-length (axis_sizes (rows_at p) (height_at p)) v (omega (arith, same-length, rows_sized, limited.low)), same-length, limited.low)

            pub spread_front : n.rows ≡ length (take n.rows w)
            spread_front = sym (length-take-le n.rows w spread_length)

            pub front_few : length (take n.rows w) ≤ max_tiles
            front_few = omega (arith, spread_front, limited.low)

            pub grid_has : GridHas n.columns (take n.rows w) (grid_at p)
            unfolding tile_grid laid_over
            grid_has =
                record {
                  columns_are = sym columns_counted;
                  heights_are = sym (ap (take n.rows) laid ∙ take_at (axis_sizes (rows_at p) (height_at p)) (drop (length (axis_sizes (rows_at p) (height_at p))) v) n.rows (sym rows_sized));
                }
