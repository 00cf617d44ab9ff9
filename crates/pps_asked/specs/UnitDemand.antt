-- Of every unit that reading accepts: all three questions answer about the record that it gives and the tables that it leaves; and if the picture is partitioned, what is demanded of
-- tiles and slices holds of what they answer.
use Rattle.std.specs.Prelude.{ℕ, ◌+◌, ◌≤◌, ◌≡◌, refl, List, Bool, true, false, length, Result, Ok, Err, Option, None}
use Rattle.std.proofs.Common.{sym, ap, ◌∙◌, arith}
use Rattle.std.specs.Bool.{beq}
use borrow.Author.Tests.{ne_eqb}
use Rattle.partition.specs.Accepted.{Accepted, without-slices, with_slices, Planned}
use Rattle.partition.proofs.Accepted.{planned-walk}
use Rattle.partition.specs.Checks.{AllPass, passes}
use Rattle.partition.specs.Cover.{EachBlock, RightCover, Exactly}
use Rattle.partition.specs.Demand.{OneTile}
use Rattle.partition.proofs.Demand.{picture-size, plan_when_coded}
use Rattle.partition.specs.Entry.{asking}
use Rattle.partition.specs.Grid.{Grid, columns, tiles, pic_width, pic_height, max_tile_columns, max_tiles}
use Rattle.partition.specs.Groups.{Group, plan}
use Rattle.partition.specs.Partition.{Partition, in_ctbs, grid_of, slices_coded, Layout, declined, unsliced, sliced, unless, layout, plan_of}
use Rattle.partition.specs.Slices.{Slice, slices_at, AllInside}
use Rattle.pps_answer.specs.Answers.{accepted_pps}
use Rattle.pps_answer.specs.ParsePps.{outcome, parse_pps}
use Rattle.pps_record.specs.declared.VvcPps.{VvcPps}
use Rattle.pps_record.specs.declared.VvcQpOffsets.{VvcQpOffsets}
use Rattle.pps_syntax.specs.FromRecord.{Lent, block_from, partition_from}
use Rattle.pps_syntax.specs.Laid.{slices-coded}
use Rattle.pps_syntax.specs.PartitionSyntax.{coded, partition_of}
use Rattle.question_tests.specs.Questions.{record_checks, no_tiles, picture_layout, layout_asked}
use Rattle.syntax.specs.Elements.{is_set}
use Rattle.tile_grid.specs.declared.Cover.{Cover}
use Rattle.tile_grid.specs.declared.SlicePlan.{SlicePlan}
use Rattle.grid_sizes.specs.Answers.{grid_of_sizes}
use Rattle.tile_grid.specs.Rects.{plan_with}
use Rattle.tile_grid.specs.Answers.{as_tile_grid}
use Rattle.tile_grid.specs.AskedDemand.{declined_layout, partition_asked, asked-accepted, asked-one-tile, asked_limits}
use Rattle.tile_grid.specs.GridQuestion.{sizes_of, grid_answer_of}
use Rattle.tile_grid.specs.PlanDemand.{asked-slice-count, asked-slices-inside, asked-no-block_in_two, asked-cover_exactly}
use Rattle.tile_grid.specs.PlanQuestion.{plan_answer_of, cover_named, RightAnswer}
use Rattle.pps_asked.specs.Asked.{unit-passes, unit-answered}

-- ---- all three answer
-- Neither the grid nor the plan is refused, and no cover answer that keeps its contract is a refusal.
pub record AllAnswer (l : Layout) : Type 0 where
  pub grid : (n : ℕ) → grid_answer_of l ≡ Err n → ⊥
  pub plan : (n : ℕ) → plan_answer_of l ≡ Err n → ⊥
  pub cover : (c : Result (Option Cover) ℕ) → RightAnswer l c → (n : ℕ) → c ≡ Err n → ⊥

no-refusal : {A : Type 0} (a : A) (n : ℕ) → Ok a ≡ Err n → ⊥
no-refusal a n e = let z : ◌≡◌ {A = ℕ} 0 1 = cc in omega arith

all-answer : (l : Layout) → declined_layout l ≡ false → AllAnswer l
unfolding sizes_of as_tile_grid plan_answer_of RightAnswer RightCover cover_named
all-answer (declined n) e = absurd (let z : ◌≡◌ {A = ℕ} 0 1 = cc in omega arith)
all-answer (unsliced g) e = record { grid = no-refusal _; plan = no-refusal _; cover = λ c h n q. no-refusal None n (sym h ∙ q) }
all-answer (sliced g ps) e = record { grid = no-refusal _; plan = no-refusal _; cover = λ c h n q. rw q at h }

-- the partition block is there exactly where the no-partition flag is 0
there_where : (present unpartitioned : ℕ) → beq (is_set present) (is_set unpartitioned) ≡ false → unpartitioned ≡ 0 → present ≡ 0 → ⊥
there_where present unpartitioned e q z = let y : true ≡ false = rw (q, z) at e in let n : ◌≡◌ {A = ℕ} 0 1 = cc in omega arith

absent_where : (present unpartitioned : ℕ) → beq (is_set present) (is_set unpartitioned) ≡ false → (unpartitioned ≡ 0 → ⊥) → is_set present ≡ false
absent_where present unpartitioned e z = split (is_set present) (rw (ne_eqb unpartitioned 0 z) at e)
  where
    split : (b : Bool) → beq b true ≡ false → b ≡ false
    split true q = q
    split false q = refl

-- a unit that reading accepts
module _ (nal work : List ℕ) (t : Lent) (pps : VvcPps) (triples : List VvcQpOffsets) (taken : ℕ) (left : List ℕ) (tables : Lent)
    (u : outcome (accepted_pps pps triples taken) left tables ≡ parse_pps nal work t) where
  abbrev l : Layout
  l = layout_asked pps tables

  -- "Wherever reading accepts, all three questions answer"
  pub questions_answer : AllAnswer l
  questions_answer = all-answer l (unit-answered nal work t pps triples taken left tables u)

  flagged : beq (is_set pps.partition.present) (is_set pps.pps_no_pic_partition_flag) ≡ false
  unfolding record_checks AllPass
  flagged = (passes (record_checks pps tables) (unit-passes nal work t pps triples taken left tables u)).1.1.1.1.0

  -- without a partition they answer that there are no tiles and that there is no plan
  pub unit-unpartitioned : (pps.pps_no_pic_partition_flag ≡ 0 → ⊥) → l ≡ unsliced no_tiles
  unfolding layout_asked unless partition_from picture_layout
  unit-unpartitioned off = rw (unit-passes nal work t pps triples taken left tables u, absent_where pps.partition.present pps.pps_no_pic_partition_flag flagged off)

  -- ---- a partitioned picture
  module _ (parted : pps.pps_no_pic_partition_flag ≡ 0) where
    -- the partition that the record and the tables say, and its grid
    abbrev p : Partition
    p = partition_asked pps tables

    abbrev g : Grid
    g = grid_of p

    there : pps.partition.present ≡ 0 → ⊥
    there = there_where pps.partition.present pps.pps_no_pic_partition_flag flagged parted

    said : Accepted p × (grid_answer_of l ≡ as_tile_grid (Ok (grid_of_sizes g.column_widths g.row_heights)))
    said = asked-accepted pps tables there (unit-answered nal work t pps triples taken left tables u)

    -- the grid question answers with that grid, which makes up the picture
    pub unit-grid : grid_answer_of l ≡ as_tile_grid (Ok (grid_of_sizes g.column_widths g.row_heights))
    unit-grid = said.1

    pub unit-picture-size : (pic_width g ≡ in_ctbs pps.pps_pic_width_in_luma_samples pps.partition.pps_log2_ctu_size_minus5)
        × (pic_height g ≡ in_ctbs pps.pps_pic_height_in_luma_samples pps.partition.pps_log2_ctu_size_minus5)
    unfolding partition_asked partition_of
    unit-picture-size = picture-size p said.0

    -- "Every block of an accepted partitioned picture lies in exactly one tile"
    pub unit_exactly_one-tile : EachBlock g (λ x y. OneTile g x y)
    unit_exactly_one-tile = asked-one-tile pps tables there (unit-answered nal work t pps triples taken left tables u)

    -- at most 30 columns and 990 tiles
    pub unit-tile_limits : (columns g ≤ max_tile_columns) × (tiles g ≤ max_tiles)
    unit-tile_limits = asked_limits pps tables there (unit-answered nal work t pps triples taken left tables u)

    -- the slices that the plan question reports
    abbrev slices : List Slice
    slices = plan_of l

    own_layout : l ≡ layout asking p
    unfolding layout_asked unless partition_from picture_layout partition_asked
    own_layout = rw (unit-passes nal work t pps triples taken left tables u, ne_eqb pps.partition.present 0 there)

    coded-is : slices_coded p ≡ coded pps.partition.pps_rect_slice_flag pps.partition.pps_single_slice_per_subpic_flag
    unfolding partition_asked
    coded-is = slices-coded pps.pps_pic_width_in_luma_samples pps.pps_pic_height_in_luma_samples (block_from pps.partition tables)

    -- where no slices are coded, there is no plan
    pub unit-no-plan : coded pps.partition.pps_rect_slice_flag pps.partition.pps_single_slice_per_subpic_flag ≡ false → l ≡ unsliced g
    unit-no-plan off = split said.0
      where
        split : Accepted p → l ≡ unsliced g
        split (without-slices q) = own_layout ∙ q
        split (with_slices ps q) = absurd (let z : true ≡ false = sym (planned-walk p ps q).0 ∙ coded-is ∙ off in let n : ◌≡◌ {A = ℕ} 0 1 = cc in omega arith)

    -- where slices are coded, there is one
    module _ (on : coded pps.partition.pps_rect_slice_flag pps.partition.pps_single_slice_per_subpic_flag ≡ true) where
      planned : (ps : List Group) × Planned p ps
      planned = (plan_when_coded p said.0).1 (coded-is ∙ on)

      laid : l ≡ sliced g planned.0
      laid = own_layout ∙ planned.1

      same : plan g planned.0 ≡ slices
      unfolding plan_of
      same = rw laid

      -- "the plan reports exactly these slices": each index 0 to N is one, and each lies in the picture
      pub unit-slice-count : length slices ≡ pps.partition.pps_num_slices_in_pic_minus1 + 1
      unfolding partition_asked partition_of
      unit-slice-count = rw same at (asked-slice-count pps tables there g planned.0 laid)

      pub unit-plan-count : (s : SlicePlan) × ((plan_answer_of l ≡ Ok s) × (s.num_slices ≡ pps.partition.pps_num_slices_in_pic_minus1 + 1))
      unfolding plan_answer_of plan_with
      unit-plan-count = (plan_with (plan g planned.0), (ap plan_answer_of laid, ap (λ (ss : List Slice). length ss) same ∙ unit-slice-count))

      pub unit-slices-inside : AllInside (pic_width g) (pic_height g) slices
      unit-slices-inside = rw same at (asked-slices-inside pps tables there g planned.0 laid)

      -- "without deltas no block lies in two slices"
      pub unit-no-block_in_two : is_set pps.partition.pps_tile_idx_delta_present_flag ≡ false → EachBlock g (λ x y. slices_at slices x y ≤ 1)
      unfolding partition_asked partition_of
      unit-no-block_in_two off x y hx hy = rw same at (asked-no-block_in_two pps tables there g planned.0 laid off x y hx hy)

      -- "the cover check says whole, gap or double exactly when that is so"
      pub unit-cover_exactly : (c : Result (Option Cover) ℕ) → RightAnswer l c → Exactly g slices (cover_named c)
      unit-cover_exactly c right = rw same at (asked-cover_exactly pps tables there g planned.0 laid c right)
