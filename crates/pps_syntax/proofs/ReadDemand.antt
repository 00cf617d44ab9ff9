-- What is demanded of tiles and slices, of every set that was read: "Every block of an accepted partitioned picture lies in exactly one tile; without deltas no
-- block lies in two slices; the cover check says whole, gap or double exactly when that is so; the plan reports exactly these slices."
use Rattle.std.specs.Prelude.{ℕ, ◌+◌, ◌≤◌, ◌≡◌, List, [], ◌∷◌, true, false, length}
use Rattle.std.proofs.Common.{◌∙◌}
use Rattle.partition.specs.Accepted.{Accepted, Planned}
use Rattle.partition.specs.Cover.{Cover, EachBlock, RightCover, Exactly}
use Rattle.partition.specs.Demand.{OneTile}
use Rattle.partition.proofs.Demand.{picture-size, exactly_one-tile, plan_when_coded, slice-count, slices-inside, no-block_in_two, cover_exactly, cover-right}
use Rattle.partition.specs.Grid as grid
use Rattle.partition.specs.Groups.{Group, plan}
use Rattle.partition.specs.Lowest.{cover_of}
use Rattle.partition.specs.Partition.{in_ctbs, plan_of}
use Rattle.partition.specs.Slices.{slices_at, AllInside}
use Rattle.pps_syntax.specs.Laid.{slices-coded}
use Rattle.pps_syntax.specs.PartitionSyntax.{PartitionBlock, coded, partition_of}
use Rattle.pps_syntax.specs.Pps.{Pps, pic_width, pic_height}
use Rattle.pps_syntax.specs.Rbsp.{ReadSet, accepted, read_rbsp}
use Rattle.pps_syntax.specs.ReadAccepted.{picture_of}
use Rattle.pps_syntax.proofs.ReadAccepted.{read-block-there}
use Rattle.syntax.specs.Elements.{is_set}
use Rattle.pps_syntax.specs.ReadDemand.{grid_read, plan_read}

plan-is : (r : Pps) (b : PartitionBlock) (ps : List Group) → Planned (picture_of r b) ps → plan (grid_read r b) ps ≡ plan_read r b
unfolding plan_of
plan-is r b ps e = rw e

-- a set that was read, and its partition block
module _ (rbsp : List ℕ) (a : ReadSet) (e : read_rbsp rbsp ≡ accepted a) (b : PartitionBlock) (there : a.set.partition ≡ b ∷ []) where
  block_read : Accepted (picture_of a.set b)
  block_read = read-block-there rbsp a e b there

  -- the tiles make up the picture
  pub read-picture-size : (grid.pic_width (grid_read a.set b) ≡ in_ctbs (pic_width a.set.front) b.pps_log2_ctu_size_minus5)
      × (grid.pic_height (grid_read a.set b) ≡ in_ctbs (pic_height a.set.front) b.pps_log2_ctu_size_minus5)
  unfolding partition_of
  read-picture-size = picture-size (picture_of a.set b) block_read

  -- "Every block of an accepted partitioned picture lies in exactly one tile"
  pub read_exactly_one-tile : EachBlock (grid_read a.set b) (λ x y. OneTile (grid_read a.set b) x y)
  read_exactly_one-tile = exactly_one-tile (picture_of a.set b) block_read

  -- where slices are coded, there is a plan
  module _ (on : coded b.pps_rect_slice_flag b.pps_single_slice_per_subpic_flag ≡ true) where
    pub read-planned : (ps : List Group) × Planned (picture_of a.set b) ps
    read-planned = (plan_when_coded (picture_of a.set b) block_read).1 (slices-coded (pic_width a.set.front) (pic_height a.set.front) b ∙ on)

    same : plan (grid_read a.set b) read-planned.0 ≡ plan_read a.set b
    same = plan-is a.set b read-planned.0 read-planned.1

    -- "without deltas no block lies in two slices"
    pub read-no-block_in_two : is_set b.pps_tile_idx_delta_present_flag ≡ false → EachBlock (grid_read a.set b) (λ x y. slices_at (plan_read a.set b) x y ≤ 1)
    unfolding partition_of
    read-no-block_in_two off x y hx hy = rw same at (no-block_in_two (picture_of a.set b) read-planned.0 read-planned.1 off x y hx hy)

    -- "the cover check says whole, gap or double exactly when that is so": every right answer does, and there is one
    pub read-cover_exactly : (c : Cover) → RightCover (grid_read a.set b) (plan_read a.set b) c → Exactly (grid_read a.set b) (plan_read a.set b) c
    read-cover_exactly c right = rw same at (cover_exactly (picture_of a.set b) read-planned.0 read-planned.1 c (rw same right))

    pub read-cover-right : RightCover (grid_read a.set b) (plan_read a.set b) (cover_of (grid_read a.set b) read-planned.0)
    read-cover-right = rw same at (cover-right (picture_of a.set b) read-planned.0 read-planned.1)

    -- "the plan reports exactly these slices": each index 0 to N is one, and each lies in the picture
    pub read-slice-count : length (plan_read a.set b) ≡ b.pps_num_slices_in_pic_minus1 + 1
    unfolding partition_of
    read-slice-count = rw same at (slice-count (picture_of a.set b) read-planned.0 read-planned.1)

    pub read-slices-inside : AllInside (grid.pic_width (grid_read a.set b)) (grid.pic_height (grid_read a.set b)) (plan_read a.set b)
    read-slices-inside = rw same at (slices-inside (picture_of a.set b) read-planned.0 read-planned.1)
