-- The plan and the cover question (docs/BEHAVIOUR.md), from the layout that the questions test. A plan has at most 1,000 slices.
use Rattle.std.specs.Prelude.{ℕ, ◌≡◌, Result, Ok, Err, Option, Some, None, []}
use Rattle.partition.specs.Cover.{RightCover}
use Rattle.partition.specs.Cover as partition
use Rattle.partition.specs.Groups.{plan}
use Rattle.partition.specs.Partition.{Layout, declined, unsliced, sliced}
use Rattle.pps_record.specs.declared.VvcPps.{VvcPps}
use Rattle.pps_syntax.specs.FromRecord.{Lent}
use Rattle.question_tests.specs.Questions.{layout_asked}
use Rattle.tile_grid.specs.declared.Cover.{Cover}
use Rattle.tile_grid.specs.declared.Cover.TheVariants.{Whole, Gap, Double}
use Rattle.tile_grid.specs.declared.SlicePlan.{SlicePlan}
use Rattle.tile_grid.specs.Rects.{plan_with}

-- A refusal's number, or the plan; it is empty where no slices are coded.
unfoldable pub plan_answer_of : Layout → Result SlicePlan ℕ
plan_answer_of (declined n) = Err n
plan_answer_of (unsliced g) = Ok (plan_with [])
plan_answer_of (sliced g ps) = Ok (plan_with (plan g ps))

-- What slices cover, by its name there.
unfoldable pub named : Cover → partition.Cover
named Whole = partition.whole
named (Gap t) = partition.gap t.0
named (Double t) = partition.double t.0

-- A cover answer by its name there; a refusal is none.
unfoldable pub cover_named : {E : Type 0} → Result (Option Cover) E → partition.Cover
cover_named (Err n) = partition.no_plan
cover_named (Ok None) = partition.no_plan
cover_named (Ok (Some c)) = named c

-- What a cover answer must be: the refusal; no plan where no slices are coded; else an answer that is right of the picture's blocks. The tile of a gap or a double is free.
unfoldable pub RightAnswer : Layout → Result (Option Cover) ℕ → Type 0
RightAnswer (declined n) r = r ≡ Err n
RightAnswer (unsliced g) r = r ≡ Ok None
RightAnswer (sliced g ps) r = RightCover g (plan g ps) (cover_named r)

-- what `TileGrid::slice_plan` answers, and what `TileGrid::slice_cover` may answer
abbrev pub slice_plan : VvcPps → Lent → Result SlicePlan ℕ
slice_plan r t = plan_answer_of (layout_asked r t)

abbrev pub SliceCover : VvcPps → Lent → Result (Option Cover) ℕ → Type 0
SliceCover r t answer = RightAnswer (layout_asked r t) answer
