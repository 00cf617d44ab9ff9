-- A table that holds groups: what is counted over it is right of the grid's tiles.
use Rattle.std.specs.Prelude.{◌≡◌, refl, List, [], ◌∷◌, map, ℕ, ◌*◌, ◌/◌, ◌%◌, length, take}
use Rattle.std.proofs.Common.{sym, ◌∙◌, mul_comm, arith}
use Rattle.std.proofs.Math.Seq.{take-append_seam}
use Rattle.partition.specs.Cover.{Cover, no_plan, whole, gap, double, RightTiles}
use Rattle.partition.specs.Grid.{Grid, tiles}
use Rattle.partition.specs.Groups.{Group, groups_at, groups_at_tile}
use Rattle.tile_grid.specs.Rects.{tiles_of, table_with}
use Rattle.tile_grid.specs.TileGroups.{group_of, groups_in}

-- the places in use
pub in_front : {A : Type 0} (none : A) (l : List A) → take (length l) (table_with none l) ≡ l
unfolding table_with
in_front none l = take-append_seam l _

-- a tile lies in as many groups of the table as of those that it holds
pub held-groups : (ps : List Group) (cx cy : ℕ) → groups_at (groups_in (map tiles_of ps)) cx cy ≡ groups_at ps cx cy
unfolding group_of groups_at
held-groups [] cx cy = refl
held-groups (p ∷ ps) cx cy = rw (held-groups ps cx cy)

right-same : (n : ℕ) (f g : ℕ → ℕ) → ((t : ℕ) → f t ≡ g t) → (c : Cover) → RightTiles n f c → RightTiles n g c
unfolding RightTiles
right-same n f g e no_plan r = r
right-same n f g e whole r = λ t h. sym (e t) ∙ r t h
right-same n f g e (gap t) r = (r.0, sym (e t) ∙ r.1)
right-same n f g e (double t) r = ((λ s h. omega (arith, e s, r.0 s h)), r.1, omega (arith, e t, r.2))

pub right-held : (g : Grid) (ps : List Group) (c : Cover)
    → RightTiles (length g.column_widths * length g.row_heights) (λ t. groups_at (groups_in (map tiles_of ps)) (t % length g.column_widths) (t / length g.column_widths)) c → RightTiles (tiles g) (groups_at_tile g ps) c
unfolding groups_at_tile
right-held g ps c r =
    right-same (tiles g) (λ t. groups_at (groups_in (map tiles_of ps)) (t % length g.column_widths) (t / length g.column_widths)) (groups_at_tile g ps)
    (λ t. held-groups ps (t % length g.column_widths) (t / length g.column_widths)) c
    (rw (mul_comm (length g.column_widths) (length g.row_heights)) at r)
