-- What an entry of the slice loop places: a block of tiles, whole as one slice or, where it is one tile, cut into slices from the top (H.266 6.5.1, equation 21).
use Rattle.std.specs.Prelude.{◌≡◌, refl, List, [], ◌∷◌, ℕ, ◌+◌, ◌*◌, ◌≤◌, ◌<◌}
use Rattle.std.proofs.Common.{ap, ap₂, sym, ◌∙◌, mul-add, mul-zero, arith}
use Rattle.partition.specs.Sizes.{sum}
use Rattle.partition.specs.Axis.{boundary, column_of, span}
use Rattle.partition.proofs.Axis.{span_le}
use Rattle.partition.specs.Grid.{Grid, pic_width, pic_height, InTile, tile_of, tile_of-column, tile_of-row}
use Rattle.partition.proofs.Grid.{in_width, in_height, tile-only}
use Rattle.partition.specs.Sums.{among, among_none, among-add}
use Rattle.partition.proofs.Sums.{among-span}
use Rattle.partition.specs.Slices.{in_slice, slices_at, AllInside, slices_at-append, inside-append}
use Rattle.partition.specs.Groups.{Group, stacked, group_slices, plan, AllFit, groups_at, groups_at_tile}

-- ---- a stack holds each of its blocks once

stacked-at : (l w t : ℕ) (hs : List ℕ) (x y : ℕ) → slices_at (stacked l w t hs) x y ≡ among l w x * among t (sum hs) y
unfolding slices_at stacked in_slice sum
stacked-at l w t [] x y = sym (ap (λ (n : ℕ). among l w x * n) (among_none t y) ∙ mul-zero (among l w x))
stacked-at l w t (h ∷ hs) x y =
    ap (λ (n : ℕ). among l w x * among t h y + n) (stacked-at l w (t + h) hs x y)
    ∙ sym (mul-add (among l w x) (among t h y) (among (t + h) (sum hs) y))
    ∙ ap (λ (n : ℕ). among l w x * n) (sym (among-add t h (sum hs) y))

stacked-inside : (w h left width top : ℕ) (hs : List ℕ) → left + width ≤ w → top + sum hs ≤ h → AllInside w h (stacked left width top hs)
unfolding stacked AllInside sum
stacked-inside w h l d t [] p q = tt
stacked-inside w h l d t (k ∷ ks) p q = ((p, omega arith), stacked-inside w h l d (t + k) ks p (omega arith))

-- ---- the slices of a plan

pub plan-inside : (g : Grid) (ps : List Group) → AllFit g ps → AllInside (pic_width g) (pic_height g) (plan g ps)
unfolding plan group_slices AllFit AllInside
plan-inside g [] a = tt
plan-inside g (p ∷ ps) a =
    inside-append (pic_width g) (pic_height g) (group_slices g p) (plan g ps)
    (stacked-inside (pic_width g) (pic_height g) (boundary g.column_widths p.tile_x) (span g.column_widths p.tile_x p.width) (boundary g.row_heights p.tile_y) p.slice_heights
    (span_le g.column_widths p.tile_x p.width)
    (omega (arith, a.0.cut, span_le g.row_heights p.tile_y p.height)))
    (plan-inside g ps a.1)

-- a block lies in as many slices as its tile in groups
plan-at : (g : Grid) (ps : List Group) (x y : ℕ) → x < pic_width g → y < pic_height g → AllFit g ps
    → slices_at (plan g ps) x y ≡ groups_at ps (column_of g.column_widths x) (column_of g.row_heights y)
unfolding slices_at plan groups_at group_slices AllFit
plan-at g [] x y hx hy a = refl
plan-at g (p ∷ ps) x y hx hy a = slices_at-append (group_slices g p) (plan g ps) x y ∙ ap₂ (λ (m n : ℕ). m + n) one (plan-at g ps x y hx hy a.1)
  where
    left : ℕ
    left = boundary g.column_widths p.tile_x

    width : ℕ
    width = span g.column_widths p.tile_x p.width

    one : slices_at (group_slices g p) x y ≡ among p.tile_x p.width (column_of g.column_widths x) * among p.tile_y p.height (column_of g.row_heights y)
    one =
        stacked-at left width (boundary g.row_heights p.tile_y) p.slice_heights x y
        ∙ ap (λ (n : ℕ). among left width x * among (boundary g.row_heights p.tile_y) n y) a.0.cut
        ∙ ap₂ (λ (m n : ℕ). m * n) (among-span g.column_widths p.tile_x p.width x hx) (among-span g.row_heights p.tile_y p.height y hy)

pub block-groups : (g : Grid) (ps : List Group) → AllFit g ps → (x y : ℕ) → x < pic_width g → y < pic_height g → slices_at (plan g ps) x y ≡ groups_at_tile g ps (tile_of g x y)
unfolding groups_at_tile
block-groups g ps a x y hx hy = rw (tile_of-column g x y hx, tile_of-row g x y hx) (plan-at g ps x y hx hy a)

-- and so do all blocks of a tile
pub tile-groups : (g : Grid) (ps : List Group) → AllFit g ps → (t x y : ℕ) → InTile g t x y → slices_at (plan g ps) x y ≡ groups_at_tile g ps t
tile-groups g ps a t x y i = block-groups g ps a x y (in_width g t x y i) (in_height g t x y i) ∙ ap (groups_at_tile g ps) (sym (tile-only g t x y i))
