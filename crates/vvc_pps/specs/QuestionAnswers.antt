-- What the questions answer, for C to hold: the number of a refusal, 0 where nothing is refused, and the values, which are
-- 0 beside a refusal; of a cover its kind, with its tile or its refusal.
use Rattle.std.specs.Prelude.{ℕ, ◌≡◌, map, replicate, Result, Ok, Err, Option, Some, None}
use Rattle.partition.specs.Grid.{max_tile_columns, max_tiles, max_slices}
use Rattle.tile_grid.specs.declared.Cover.{Cover}
use Rattle.tile_grid.specs.declared.Cover.TheVariants as cover
use Rattle.tile_grid.specs.declared.SlicePlan.{SlicePlan}
use Rattle.tile_grid.specs.declared.TileGrid.{TileGrid}
use Rattle.vvc_pps.specs.declared.questions.VvcGridAnswer.{VvcGridAnswer}
use Rattle.vvc_pps.specs.declared.questions.VvcPlanAnswer.{VvcPlanAnswer}
use Rattle.vvc_pps.specs.declared.questions.VvcCoverAnswer.{VvcCoverAnswer}

abbrev pub grid_held : Result TileGrid ℕ → VvcGridAnswer
grid_held (Err n) =
    record {
      refused = n;
      num_tile_columns = 0;
      num_tile_rows = 0;
      column_widths = replicate max_tile_columns 0;
      row_heights = replicate max_tiles 0;
    }
grid_held (Ok grid) =
    record {
      refused = 0;
      num_tile_columns = grid.sizes.num_tile_columns;
      num_tile_rows = grid.sizes.num_tile_rows;
      column_widths = grid.sizes.column_widths;
      row_heights = grid.sizes.row_heights;
    }

abbrev pub plan_held : Result SlicePlan ℕ → VvcPlanAnswer
plan_held (Err n) =
    record {
      refused = n;
      num_slices = 0;
      left = replicate max_slices 0;
      top = replicate max_slices 0;
      width = replicate max_slices 0;
      height = replicate max_slices 0;
    }
plan_held (Ok plan) =
    record {
      refused = 0;
      num_slices = plan.num_slices;
      left = map (λ s. s.left.0) plan.slices;
      top = map (λ s. s.top.0) plan.slices;
      width = map (λ s. s.width.0) plan.slices;
      height = map (λ s. s.height.0) plan.slices;
    }

-- VVC_COVER_NONE, VVC_COVER_WHOLE, VVC_COVER_GAP, VVC_COVER_DOUBLE and VVC_COVER_REFUSED
abbrev pub cover_held : Result (Option Cover) ℕ → VvcCoverAnswer
cover_held (Ok None) = record { kind = 0; refused = 0; tile = 0 }
cover_held (Ok (Some cover.Whole)) = record { kind = 1; refused = 0; tile = 0 }
cover_held (Ok (Some (cover.Gap t))) = record { kind = 2; refused = 0; tile = t.0 }
cover_held (Ok (Some (cover.Double t))) = record { kind = 3; refused = 0; tile = t.0 }
cover_held (Err n) = record { kind = 4; refused = n; tile = 0 }

-- It holds one of the right answers to the cover question.
abbrev pub HeldBy : (Result (Option Cover) ℕ → Type 0) → VvcCoverAnswer → Type 0
HeldBy Right r = (c : Result (Option Cover) ℕ) × (Right c × (r ≡ cover_held c))
