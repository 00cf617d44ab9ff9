-- What is demanded of slices and of the cover (`partition` Demand), of every record with a plan: for any answers that keep the contracts of the plan and the cover question.
use Rattle.std.specs.Prelude.{ℕ, ◌+◌, ◌≤◌, ◌≡◌, false, List, length, Result, Option}
use Rattle.std.proofs.Common.{subst, ◌∙◌}
use Rattle.partition.specs.Cover.{EachBlock, Exactly}
use Rattle.partition.proofs.Demand.{slice-count, slices-inside, no-block_in_two, cover_exactly}
use Rattle.partition.specs.Grid.{Grid, pic_width, pic_height}
use Rattle.partition.specs.Groups.{Group, plan}
use Rattle.partition.specs.Partition.{Partition, grid_of, Layout, sliced}
use Rattle.partition.specs.Slices.{AllInside, slices_at}
use Rattle.pps_record.specs.declared.VvcPps.{VvcPps}
use Rattle.pps_syntax.specs.FromRecord.{Lent}
use Rattle.question_tests.specs.Questions.{layout_asked}
use Rattle.tile_grid.specs.declared.Cover.{Cover}
use Rattle.tile_grid.specs.AskedDemand.{partition_asked, asked-planned, asked-layout}
use Rattle.tile_grid.specs.PlanQuestion.{cover_named, RightAnswer}

module _ (r : VvcPps) (t : Lent) (there : r.partition.present ≡ 0 → ⊥) (g : Grid) (ps : List Group) (e : layout_asked r t ≡ sliced g ps) where
  abbrev p : Partition
  p = partition_asked r t

  -- the layout, with the partition's own grid
  own_grid : layout_asked r t ≡ sliced (grid_of p) ps
  own_grid = asked-layout r t there g ps e ∙ asked-planned r t there g ps e

  -- each index 0 to N is a slice, inside the picture
  pub asked-slice-count : length (plan (grid_of p) ps) ≡ p.N + 1
  asked-slice-count = slice-count p ps (asked-planned r t there g ps e)

  pub asked-slices-inside : AllInside (pic_width (grid_of p)) (pic_height (grid_of p)) (plan (grid_of p) ps)
  asked-slices-inside = slices-inside p ps (asked-planned r t there g ps e)

  -- without deltas no block lies in two slices
  pub asked-no-block_in_two : p.deltas ≡ false → EachBlock (grid_of p) (λ x y. slices_at (plan (grid_of p) ps) x y ≤ 1)
  asked-no-block_in_two d = no-block_in_two p ps (asked-planned r t there g ps e) d

  -- the cover question says whole, gap or double exactly when that is so
  pub asked-cover_exactly : (c : Result (Option Cover) ℕ) → RightAnswer (layout_asked r t) c → Exactly (grid_of p) (plan (grid_of p) ps) (cover_named c)
  unfolding RightAnswer
  asked-cover_exactly c h = cover_exactly p ps (asked-planned r t there g ps e) (cover_named c) (subst (λ (l : Layout). RightAnswer l c) own_grid h)
