-- The cover answers (docs/BEHAVIOUR.md): no plan, whole, gap with a tile in no slice, double with a tile whose blocks lie in several. Gap goes before double.
use Rattle.std.specs.Prelude.{◌≡◌, refl, List, ℕ, ◌/◌, ◌%◌, ◌≤◌, ◌<◌}
use Rattle.std.proofs.Math.Path.{ap}
use Rattle.std.proofs.Common.{◌∙◌, arith}
use Rattle.partition.specs.Sizes.{Positive}
use Rattle.partition.specs.Axis.{boundary}
use Rattle.partition.specs.Grid.{Grid, columns, tiles, pic_width, pic_height, InTile, tile_of, tile_of-lt, tile-block}
use Rattle.partition.proofs.Grid.{in_width, in_height}
use Rattle.partition.specs.Slices.{Slice, slices_at}
use Rattle.partition.specs.Groups.{Group, plan, AllFit, groups_at_tile}
use Rattle.partition.proofs.Groups.{block-groups, tile-groups}
use Rattle.partition.specs.Cover.{Cover, no_plan, whole, gap, double, RightCover, Exactly, RightTiles}

-- ---- a right answer is exact

-- to tell the answers apart, and a tile from its answer
abbrev kind : Cover → ℕ
kind no_plan = 0
kind whole = 1
kind (gap t) = 2
kind (double t) = 3

gap_same : (t u : ℕ) → gap t ≡ gap u → t ≡ u
gap_same t u e = cc

double-same : (t u : ℕ) → double t ≡ double u → t ≡ u
double-same t u e = cc

module _ (g : Grid) (ss : List Slice) (pc : Positive g.column_widths) (pr : Positive g.row_heights) where
  -- the first block of tile t
  abbrev at_x : ℕ → ℕ
  at_x t = boundary g.column_widths (t % columns g)

  abbrev at_y : ℕ → ℕ
  at_y t = boundary g.row_heights (t / columns g)

  first_block : (t : ℕ) → t < tiles g → InTile g t (at_x t) (at_y t)
  first_block t h = tile-block g pc pr t h

  first-x : (t : ℕ) → t < tiles g → at_x t < pic_width g
  first-x t h = in_width g t (at_x t) (at_y t) (first_block t h)

  first-y : (t : ℕ) → t < tiles g → at_y t < pic_height g
  first-y t h = in_height g t (at_x t) (at_y t) (first_block t h)

  pub right_exactly : (c : Cover) → RightCover g ss c → Exactly g ss c
  unfolding RightCover
  right_exactly no_plan r = absurd r
  right_exactly whole r =
      record {
        planned = (λ e. omega (arith, ap kind e));
        whole_when = ((λ e. r), (λ f. refl));
        gap_when = ((λ e. absurd (omega (arith, ap kind e.1))), (λ b. absurd (omega (arith, r b.0 b.1 b.2 b.3, b.4))));
        double_when = ((λ e. absurd (omega (arith, ap kind e.1))), (λ b. absurd (omega (arith, r b.1.0 b.1.1 b.1.2 b.1.3, b.1.4))));
        gap-tile = (λ t e. absurd (omega (arith, ap kind e)));
        double-tile = (λ t e. absurd (omega (arith, ap kind e)));
      }
  right_exactly (gap t) r =
      record {
        planned = (λ e. omega (arith, ap kind e));
        whole_when = ((λ e. absurd (omega (arith, ap kind e))), (λ f. absurd (omega (arith, f (at_x t) (at_y t) (first-x t r.0) (first-y t r.0), none))));
        gap_when = ((λ e. (at_x t, at_y t, first-x t r.0, first-y t r.0, none)), (λ b. (t, refl)));
        double_when = ((λ e. absurd (omega (arith, ap kind e.1))), (λ b. absurd (omega (arith, b.0 (at_x t) (at_y t) (first-x t r.0) (first-y t r.0), none))));
        gap-tile = (λ u e. (omega (arith, r.0, gap_same t u e), λ x y i. r.1 x y (rw (gap_same t u e) i)));
        double-tile = (λ u e. absurd (omega (arith, ap kind e)));
      }
    where
      none : slices_at ss (at_x t) (at_y t) ≡ 0
      none = r.1 (at_x t) (at_y t) (first_block t r.0)
  right_exactly (double t) r =
      record {
        planned = (λ e. omega (arith, ap kind e));
        whole_when = ((λ e. absurd (omega (arith, ap kind e))), (λ f. absurd (omega (arith, f (at_x t) (at_y t) (first-x t r.1) (first-y t r.1), several))));
        gap_when = ((λ e. absurd (omega (arith, ap kind e.1))), (λ b. absurd (omega (arith, r.0 b.0 b.1 b.2 b.3, b.4))));
        double_when = ((λ e. (r.0, (at_x t, at_y t, first-x t r.1, first-y t r.1, several))), (λ b. (t, refl)));
        gap-tile = (λ u e. absurd (omega (arith, ap kind e)));
        double-tile = (λ u e. (omega (arith, r.1, double-same t u e), λ x y i. r.2 x y (rw (double-same t u e) i)));
      }
    where
      several : 2 ≤ slices_at ss (at_x t) (at_y t)
      several = r.2 (at_x t) (at_y t) (first_block t r.1)

-- ---- tile by tile

-- what is right of the tiles is right of the blocks
pub tiles-right : (g : Grid) (ps : List Group) → AllFit g ps → (c : Cover) → RightTiles (tiles g) (groups_at_tile g ps) c → RightCover g (plan g ps) c
unfolding RightTiles RightCover
tiles-right g ps a no_plan r = r
tiles-right g ps a whole r = λ x y hx hy. block-groups g ps a x y hx hy ∙ r (tile_of g x y) (tile_of-lt g x y hx hy)
tiles-right g ps a (gap t) r = (r.0, λ x y i. tile-groups g ps a t x y i ∙ r.1)
tiles-right g ps a (double t) r =
    ((λ x y hx hy. omega (arith, block-groups g ps a x y hx hy, r.0 (tile_of g x y) (tile_of-lt g x y hx hy))), r.1, λ x y i. omega (arith, tile-groups g ps a t x y i, r.2))
