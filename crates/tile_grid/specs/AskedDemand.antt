-- A record that the questions accept has an accepted partition, so that what is demanded of tiles and slices (`partition` Demand) holds of it.
use Rattle.std.specs.Prelude.{ℕ, ◌≤◌, ◌⊎◌, List, Bool, true, false, Ok}
use Rattle.std.proofs.Math.Path.{◌≡◌, refl}
use Rattle.std.proofs.Common.{sym, ap, ◌∙◌, inl, inr, arith, ne_eqb}
use Rattle.partition.specs.Accepted.{Planned, Accepted, without-slices, with_slices, accepted-or-declined}
use Rattle.partition.specs.Checks.{Outcome, fine, refused_with, first_bad}
use Rattle.partition.specs.Cover.{EachBlock}
use Rattle.partition.specs.Demand.{OneTile}
use Rattle.partition.proofs.Demand.{exactly_one-tile, tile_limits}
use Rattle.partition.specs.Entry.{asking}
use Rattle.partition.specs.Grid.{Grid, columns, tiles, max_tile_columns, max_tiles}
use Rattle.partition.specs.Groups.{Group}
use Rattle.partition.specs.Partition.{Partition, grid_of, Layout, declined, unsliced, sliced, unless, layout}
use Rattle.pps_record.specs.declared.VvcPps.{VvcPps}
use Rattle.pps_syntax.specs.FromRecord.{Lent, block_from, partition_from}
use Rattle.pps_syntax.specs.PartitionSyntax.{partition_of}
use Rattle.question_tests.specs.Questions.{record_checks, picture_layout, layout_asked}
use Rattle.grid_sizes.specs.Answers.{grid_of_sizes}
use Rattle.tile_grid.specs.Answers.{as_tile_grid}
use Rattle.tile_grid.specs.GridQuestion.{sizes_of, of_record}

-- The partition that a record and its tables say.
unfoldable pub partition_asked : VvcPps → Lent → Partition
partition_asked r t = partition_of r.pps_pic_width_in_luma_samples r.pps_pic_height_in_luma_samples (block_from r.partition t)

-- A layout is declined.
abbrev pub declined_layout : Layout → Bool
declined_layout (declined n) = true
declined_layout (unsliced g) = false
declined_layout (sliced g ps) = false

abbrev layout_kind : Layout → ℕ
layout_kind (declined n) = 0
layout_kind (unsliced g) = 1
layout_kind (sliced g ps) = 2

same-groups : (g h : Grid) (ps qs : List Group) → sliced g ps ≡ sliced h qs → ps ≡ qs
same-groups g h ps qs e = cc

module _ (r : VvcPps) (t : Lent) (there : r.partition.present ≡ 0 → ⊥) where
  abbrev p : Partition
  p = partition_asked r t

  there-block : picture_layout r.pps_pic_width_in_luma_samples r.pps_pic_height_in_luma_samples (partition_from r.partition t) ≡ layout asking p
  unfolding picture_layout partition_from partition_asked
  there-block = rw (ne_eqb r.partition.present 0 there)

  -- a layout that is not declined is the partition's
  kept : (o : Outcome) (l : Layout) → declined_layout (unless o l) ≡ false → unless o l ≡ l
  unfolding unless
  kept fine l e = refl
  kept (refused_with n) l e = absurd (let z : ◌≡◌ {A = ℕ} 0 1 = cc in omega arith)

  asked_is : declined_layout (layout_asked r t) ≡ false → layout_asked r t ≡ layout asking p
  unfolding layout_asked
  asked_is e = kept (first_bad (record_checks r t)) _ e ∙ there-block

  -- "every record that the questions accept": its partition is accepted, and the grid question answers with its grid
  pub asked-accepted : declined_layout (layout_asked r t) ≡ false → Accepted p × (of_record r t ≡ as_tile_grid (Ok (grid_of_sizes (grid_of p).column_widths (grid_of p).row_heights)))
  unfolding sizes_of
  asked-accepted e = split (accepted-or-declined p)
    where
      split : Accepted p ⊎ ((n : ℕ) × (layout asking p ≡ declined n)) → Accepted p × (of_record r t ≡ as_tile_grid (Ok (grid_of_sizes (grid_of p).column_widths (grid_of p).row_heights)))
      split (inl (without-slices q)) = (without-slices q, rw (asked_is e, q))
      split (inl (with_slices ps q)) = (with_slices ps q, rw (asked_is e, q))
      split (inr d) = absurd (let z : declined_layout (declined d.0) ≡ false = ap declined_layout (sym (asked_is e ∙ d.1)) ∙ e in let w : ◌≡◌ {A = ℕ} 0 1 = cc in omega arith)

  -- each of its blocks lies in exactly one tile, of at most 30 columns and 990 tiles
  pub asked-one-tile : declined_layout (layout_asked r t) ≡ false → EachBlock (grid_of p) (λ x y. OneTile (grid_of p) x y)
  asked-one-tile e = exactly_one-tile p (asked-accepted e).0

  pub asked_limits : declined_layout (layout_asked r t) ≡ false → (columns (grid_of p) ≤ max_tile_columns) × (tiles (grid_of p) ≤ max_tiles)
  asked_limits e = tile_limits p (asked-accepted e).0

  -- a layout with slices is the partition's plan
  pub asked-planned : (g : Grid) (ps : List Group) → layout_asked r t ≡ sliced g ps → Planned p ps
  asked-planned g ps e = split (accepted-or-declined p)
    where
      not-declined : declined_layout (layout_asked r t) ≡ false
      not-declined = ap declined_layout e

      split : Accepted p ⊎ ((n : ℕ) × (layout asking p ≡ declined n)) → Planned p ps
      split (inl (without-slices q)) = absurd (let z : ◌≡◌ {A = ℕ} 1 2 = ap layout_kind (sym q ∙ sym (asked_is not-declined) ∙ e) in omega arith)
      split (inl (with_slices qs q)) = let s : qs ≡ ps = same-groups (grid_of p) g qs ps (sym q ∙ sym (asked_is not-declined) ∙ e) in rw (← s) q
      split (inr d) = absurd (let z : ◌≡◌ {A = ℕ} 0 2 = ap layout_kind (sym d.1 ∙ sym (asked_is not-declined) ∙ e) in omega arith)

  pub asked-layout : (g : Grid) (ps : List Group) → layout_asked r t ≡ sliced g ps → layout_asked r t ≡ layout asking p
  asked-layout g ps e = asked_is (ap declined_layout e)
