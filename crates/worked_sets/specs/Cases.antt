-- Worked examples of reading, of the grid, plan and cover questions and of escaping: one table of inputs and what each must come to, and one theorem, computed. What an input comes to is said
-- by the definitions that the functions' contracts cite.
use Rattle.std.specs.Prelude.{ℕ, ◌≡◌, refl, List, [], ◌∷◌, map, pos, negsuc, length, replicate, Result, Ok, Err}
use Rattle.bit_reader.specs.Extension.{ones, taken_while_more, extension_bits}
use Rattle.bit_reader.specs.Reading.{unless_refused, onward, u_read, stops, zeros_at, ue_after, ue_within, ue_read, se_read, trailing_read, demanded}
use Rattle.codes.specs.Bytes.{bit_at, bits_at, bit_list}
use Rattle.codes.specs.ExpGolomb.{signed_of}
use Rattle.nal.specs.Answers.{output_after, escape_answer, escape_out}
use Rattle.nal.specs.Escape.{zero_run, is_escape, needs_escape, unescape_from, unescape, escape_byte, escape_run, escape_end, escape_from, escape}
use Rattle.partition.specs.Axis.{boundary, span}
use Rattle.partition.specs.Checks.{first_bad}
use Rattle.partition.specs.Cover.{Cover, no_plan, whole, gap, double}
use Rattle.partition.specs.Entry.{tile_x, tile_y, tile_row_height, in_last_row, height_coded, inherited_height, split_coded, split_heights, num_slices_in_tile, last_slice_of, some_at_least, default_advance, tile_after_delta, delta_leaves, delta_refused, delta_uncodable, next_tile, next_position, size_checks, inherited_checks, split_checks, move_checks, entry_checks}
use Rattle.partition.specs.Examples.{up_to}
use Rattle.partition.specs.Grid.{tiles}
use Rattle.partition.specs.Groups.{stacked, group_slices, plan, groups_at, groups_at_tile}
use Rattle.partition.specs.Lowest.{or_at, lowest, answer, lowest_cover, cover_of}
use Rattle.partition.specs.Partition.{in_ctbs, tile_grid, explicit_checks, axis_checks, grid_checks, grid_of, grid_checks_of, slices_coded, delta_flag_checks, partition_checks, Layout, declined, unsliced, sliced, from_walk, unless, layout}
use Rattle.partition.specs.Sizes.{sum, explicit_sizes, uniform_size, tail_size, uniform_sizes, axis_sizes}
use Rattle.partition.specs.Slices.{Slice}
use Rattle.partition.specs.Sums.{among}
use Rattle.partition.specs.Walk.{slice_heights_of, entry_group, last_group, after, walk}
use Rattle.pps_answer.specs.Answers.{PpsAnswer, Accepted, Refused, accepted_pps, refused_pps, answer_of}
use Rattle.pps_answer.specs.Lending.{after_fields}
use Rattle.pps_answer.specs.ParsePps.{ReadOutcome, parse_pps}
use Rattle.pps_record.specs.Absent.{no_partition}
use Rattle.pps_record.specs.declared.VvcPps.{VvcPps}
use Rattle.pps_syntax.specs.Chroma.{chroma}
use Rattle.pps_syntax.specs.Deblocking.{deblocking}
use Rattle.pps_syntax.specs.FromRecord.{Lent, partition_from, extension_from, lengths_fit, counts_fit}
use Rattle.pps_syntax.specs.Head.{head, conf_win, scaling_win, kind}
use Rattle.pps_syntax.specs.PartitionSyntax.{partition, partition_of}
use Rattle.pps_syntax.specs.PictureHeader.{picture_header}
use Rattle.pps_syntax.specs.Pps.{front, back, pps}
use Rattle.pps_syntax.specs.Rbsp.{extension_for, answered, read_rbsp, before_fields, rbsp_of}
use Rattle.pps_syntax.specs.Record.{partition_record, record_of, no_triples}
use Rattle.pps_syntax.specs.References.{references}
use Rattle.pps_syntax.specs.SliceSyntax.{rect_slices}
use Rattle.pps_syntax.specs.SliceTables.{split_count, slice_at, slices_from, split_total, bits_of_delta, delta_of_bits}
use Rattle.pps_syntax.specs.SubpicIds.{subpic_ids}
use Rattle.refusal.specs.declared.Refusal.{Refusal}
use Rattle.refusal.specs.declared.Refusal.TheVariants.{SplitHeights}
use Rattle.question_tests.specs.Questions.{flag_over1, record_checks, no_tiles, picture_layout, layout_asked}
use Rattle.syntax.specs.Elements.{or_else}
use Rattle.syntax.specs.Lists.{many, walk as walk_element}
use Rattle.syntax.specs.Syntax.{◌>>=◌, parse}
use Rattle.tables.specs.Tables.{over}
use Rattle.grid_sizes.specs.Answers.{grid_of_sizes, sizes_for, grid_sizes}
use Rattle.tile_grid.specs.Answers.{as_tile_grid, grid_answer}
use Rattle.tile_grid.specs.GridQuestion.{sizes_of, grid_answer_of}
use Rattle.tile_grid.specs.PlanQuestion.{plan_answer_of}
use Rattle.tile_grid.specs.Rects.{table_with, plan_with}
use Rattle.tile_grid.specs.declared.SliceRect.{SliceRect}
use Rattle.tile_grid.specs.declared.SlicePlan.{SlicePlan}
use Rattle.tile_grid.specs.declared.TileGrid.{TileGrid}
use Rattle.tile_sizes.specs.Answers.{slices_in_tile}
use Rattle.worked_sets.specs.Records.{picture, unpartitioned, partitioned, slicing, places, zero_tables, no_tables, row_of7, with_deltas, slice}

-- ---- inputs and outcomes

pub data Case : Type 0 where
  -- parse_pps of a NAL unit
  reading : List ℕ → Case
  -- TileGrid::new of width and height in samples, the CTU size field, and the explicit column widths and row heights minus 1
  tiling : ℕ → ℕ → ℕ → List ℕ → List ℕ → Case
  -- num_slices_in_tile of explicit heights minus 1, in a row of so many CTBs
  splitting : List ℕ → ℕ → Case
  -- the grid, plan and cover questions over a record and its tables
  asking : VvcPps → Lent → Case
  -- rbsp_to_ebsp of these bytes into this output
  escaping : List ℕ → List ℕ → Case

pub data Outcome : Type 0 where
  -- the answer, and the extension bits in the work buffer
  reads : PpsAnswer → List ℕ → Outcome
  grids : Result TileGrid ℕ → Outcome
  splits : Result ℕ Refusal → Outcome
  -- the grid's answer; the plan's; in how many slices the blocks of each tile lie (`partition` Groups.`tile-groups`); and the cover answer that names the lowest tile of those that
  -- qualify, which is a right one (Demand.`cover-right`)
  answers : Result TileGrid ℕ → Result SlicePlan ℕ → List ℕ → Cover → Outcome
  -- the answer, and the output
  escapes : Result ℕ Refusal → List ℕ → Outcome

-- ---- what an input comes to

-- what reading is lent: a work buffer that has room for these units, and tables at their stated lengths
abbrev work : List ℕ
work = replicate 8 0

unfoldable pub extension_of : PpsAnswer → List ℕ → List ℕ
extension_of (Accepted a) bytes = extension_from a.pps bytes
extension_of (Refused n) bytes = []

unfoldable pub slices_of_tiles : Layout → List ℕ
slices_of_tiles (declined n) = []
slices_of_tiles (unsliced g) = []
slices_of_tiles (sliced g ps) = map (groups_at_tile g ps) (up_to (tiles g))

unfoldable pub cover_for : Layout → Cover
cover_for (declined n) = no_plan
cover_for (unsliced g) = no_plan
cover_for (sliced g ps) = cover_of g ps

unfoldable pub outcome : Case → Outcome
outcome (reading nal) =
    let o : ReadOutcome = parse_pps nal work zero_tables in
    reads o.answer (extension_of o.answer o.work)
outcome (tiling width height ctu ws hs) = grids (grid_answer width height ctu ws hs)
outcome (splitting heights row) = splits (slices_in_tile heights row)
outcome (asking r t) =
    let l : Layout = layout_asked r t in
    answers (grid_answer_of l) (plan_answer_of l) (slices_of_tiles l) (cover_for l)
outcome (escaping rbsp out) = escapes (escape_answer rbsp out) (escape_out rbsp out)

-- ---- the table

pub record Example : Type 0 where
  pub input : Case
  pub wanted : Outcome

abbrev example : Case → Outcome → Example
example c w = record { input = c; wanted = w }

-- 00 81 00 09 09 84, and these last bytes
abbrev unit : List ℕ → List ℕ
unit last = 0x00 ∷ 0x81 ∷ 0x00 ∷ 0x09 ∷ 0x09 ∷ 0x84 ∷ last

-- accepted, 5 bytes taken: an unpartitioned picture of 1 × 1 with this extension flag, first extension bit and number of bits, and these bits
abbrev accepts : ℕ → ℕ → ℕ → List ℕ → Outcome
accepts flag first_bit count bits = reads (accepted_pps (picture 1 1 1 no_partition flag first_bit count) no_triples 5) bits

abbrev refuses : ℕ → Outcome
refuses n = reads (refused_pps n) []

-- these slices, number by number
abbrev rect : ℕ → ℕ → ℕ → ℕ → SliceRect
rect left top width height =
    record { left = record { 0 = left }; top = record { 0 = top }; width = record { 0 = width }; height = record { 0 = height } }

abbrev plans : List Slice → Result SlicePlan ℕ
plans ss =
    Ok (record { num_slices = length ss; slices = table_with (rect 0 0 0 0) (map (λ (s : Slice). rect s.left s.top s.width s.height) ss) })

abbrev grid_answered : List ℕ → List ℕ → Result TileGrid ℕ
grid_answered columns rows = as_tile_grid (Ok (grid_of_sizes columns rows))

abbrev declines : ℕ → Outcome
declines n = answers (Err n) (Err n) [] no_plan

-- an output of 5 bytes to escape into
abbrev room : List ℕ
room = replicate 5 0xff

unfoldable pub cases : List Example
cases =
    -- Reading. A picture of 1 × 1 samples; the same with FF behind it
    example (reading (unit (0x08 ∷ []))) (accepts 0 0 0 [])
    ∷ example (reading (unit (0x08 ∷ 0xff ∷ []))) (accepts 0 0 0 [])
    -- the extension flag without extension bits; with the bits 0, 1
    ∷ example (reading (unit (0x18 ∷ []))) (accepts 1 0 0 [])
    ∷ example (reading (unit (0x16 ∷ []))) (accepts 1 36 2 (0 ∷ 1 ∷ []))
    -- a stop bit of 0; no bit left for the stop bit; the NAL header alone: a width of 0
    ∷ example (reading (unit (0x14 ∷ []))) (refuses 23)
    ∷ example (reading (unit [])) (refuses 22)
    ∷ example (reading (0x00 ∷ 0x81 ∷ [])) (refuses 7)
    -- Tiles. 10 CTBs: explicit 3 gives 3, 3, 3, 1; 5, 6 gives 12
    ∷ example (tiling 320 32 0 (2 ∷ []) (0 ∷ [])) (grids (grid_answered (3 ∷ 3 ∷ 3 ∷ 1 ∷ []) (1 ∷ [])))
    ∷ example (tiling 320 32 0 (4 ∷ 5 ∷ []) (0 ∷ [])) (grids (Err 12))
    -- Slices in a tile. A row of 7 CTBs: heights 3, 2 give three slices; 4, 4 gives 16
    ∷ example (splitting (2 ∷ 1 ∷ []) 7) (splits (Ok 3))
    ∷ example (splitting (3 ∷ 3 ∷ []) 7) (splits (Err SplitHeights))
    -- the same asked of a record
    ∷ example (asking (partitioned 32 224 (slicing 2 0 1)) (row_of7 (2 ∷ 1 ∷ []))) (answers (grid_answered (1 ∷ []) (7 ∷ [])) (plans (slice 0 0 1 3 ∷ slice 0 3 1 2 ∷ slice 0 5 1 2 ∷ [])) (1 ∷ []) whole)
    ∷ example (asking (partitioned 32 224 (slicing 2 0 1)) (row_of7 (3 ∷ 3 ∷ []))) (declines 16)
    -- Cover. 2 × 2 tiles, N 1, first slice one tile: gap, tile 2
    ∷ example (asking (partitioned 64 64 (slicing 1 0 1)) zero_tables) (answers (grid_answered (1 ∷ 1 ∷ []) (1 ∷ 1 ∷ [])) (plans (slice 0 0 1 1 ∷ slice 1 0 1 2 ∷ [])) (1 ∷ 1 ∷ 0 ∷ 1 ∷ []) (gap 2))
    -- N 2, deltas: tile 0, +1; tiles 1 and 3, −1; and the last slice from tile 0 over all: double; tiles 0, 1 and 3 qualify
    ∷ example (asking (partitioned 64 64 (slicing 2 1 2)) (with_deltas (pos 1) (negsuc 0))) (answers (grid_answered (1 ∷ 1 ∷ []) (1 ∷ 1 ∷ [])) (plans (slice 0 0 1 1 ∷ slice 1 0 1 2 ∷ slice 0 0 2 2 ∷ [])) (2 ∷ 2 ∷ 1 ∷ 2 ∷ []) (double 0))
    -- What the questions refuse. A delta of −2147483648, before 18; a delta flag with N 1
    ∷ example (asking (partitioned 64 64 (slicing 2 1 2)) (with_deltas (negsuc 2147483647) (pos 0))) (declines 25)
    ∷ example (asking (partitioned 64 64 (slicing 1 1 1)) zero_tables) (declines 26)
    -- unpartitioned: no columns, no rows, no plan; then with a partition all the same, with a width of 0, with tables below their lengths
    ∷ example (asking (unpartitioned 1 1) zero_tables) (answers (grid_answered [] []) (plans []) [] no_plan)
    ∷ example (asking (picture 1 1 1 (slicing 0 0 0) 0 0 0) zero_tables) (declines 26)
    ∷ example (asking (unpartitioned 0 1) zero_tables) (declines 7)
    ∷ example (asking (unpartitioned 1 1) no_tables) (declines 5)
    -- Escaping. 00 00 03 gives 00 00 03 03; 00 gives 00
    ∷ example (escaping (0x00 ∷ 0x00 ∷ 0x03 ∷ []) room) (escapes (Ok 4) (0x00 ∷ 0x00 ∷ 0x03 ∷ 0x03 ∷ 0xff ∷ []))
    ∷ example (escaping (0x00 ∷ []) room) (escapes (Ok 1) (0x00 ∷ 0xff ∷ 0xff ∷ 0xff ∷ 0xff ∷ []))
    ∷ []

-- every input comes to what is wanted
pub all-cases : map (λ (e : Example). outcome e.input) cases ≡ map (λ (e : Example). e.wanted) cases
unfolding cases outcome extension_of slices_of_tiles cover_for places ones taken_while_more extension_bits unless_refused onward u_read stops zeros_at ue_after ue_within ue_read se_read trailing_read demanded bit_at bits_at bit_list signed_of output_after escape_answer escape_out zero_run is_escape needs_escape unescape_from unescape escape_byte escape_run escape_end escape_from escape boundary span first_bad tile_x tile_y tile_row_height in_last_row height_coded inherited_height split_coded split_heights num_slices_in_tile last_slice_of some_at_least default_advance tile_after_delta delta_leaves delta_refused delta_uncodable next_tile next_position size_checks inherited_checks split_checks move_checks entry_checks up_to stacked group_slices plan groups_at groups_at_tile or_at lowest answer lowest_cover cover_of in_ctbs tile_grid explicit_checks axis_checks grid_checks grid_of grid_checks_of slices_coded delta_flag_checks partition_checks from_walk unless layout sum explicit_sizes uniform_size tail_size uniform_sizes axis_sizes among slice_heights_of entry_group last_group after walk answer_of after_fields parse_pps no_partition chroma deblocking partition_from extension_from lengths_fit counts_fit head conf_win scaling_win kind partition partition_of picture_header front back pps extension_for answered read_rbsp before_fields rbsp_of partition_record record_of references rect_slices split_count slice_at slices_from split_total bits_of_delta delta_of_bits subpic_ids flag_over1 record_checks no_tiles picture_layout layout_asked or_else many walk_element ◌>>=◌ parse over sizes_for grid_sizes as_tile_grid grid_answer sizes_of plan_answer_of plan_with slices_in_tile
all-cases = refl
