-- The tile and slice partition block (H.266 7.3.2.5, 7.4.3.5) of a picture of W by H luma samples: one description, read and written.
use Rattle.std.specs.Prelude.{ℕ, suc, ◌-◌, ◌/◌, ◌≡◌, List, map, Bool, true, not, ◌&&◌, eqb, ltb, leb, length}
use Rattle.std.proofs.Math.Path.{refl}
use Rattle.std.proofs.Common.{arith, lit<, ne_eqb}
use Rattle.partition.specs.Entry.{first_position}
use Rattle.partition.specs.Grid.{Grid, tiles, max_tile_columns, max_tiles, max_slices_minus1}
use Rattle.partition.specs.Partition.{Partition, in_ctbs, tile_grid}
use Rattle.partition.specs.Sizes.{sum, explicit_sizes, axis_sizes}
use Rattle.pps_syntax.specs.SliceSyntax.{RectSlice, entry_of, rect_slices}
use Rattle.syntax.specs.Element.{Element}
use Rattle.syntax.specs.Elements.{u, flag, ue, limited, sameℕ, or_else, is_set}
use Rattle.syntax.proofs.Elements.{flag_if, absent}
use Rattle.syntax.specs.Lists.{many, none, many-length}
use Rattle.syntax.proofs.Round.{structure}
use Rattle.syntax.specs.Syntax.{Syntax, done, on_writing, on_reading, on_both, ◌for◌, ◌>>=◌, ◌&◌, rebuilt, Faithful, Whole}

pub record PartitionBlock : Type 0 where
  pub pps_log2_ctu_size_minus5 : ℕ
  pub pps_tile_column_width_minus1 : List ℕ
  pub pps_tile_row_height_minus1 : List ℕ
  pub pps_loop_filter_across_tiles_enabled_flag : ℕ
  pub pps_rect_slice_flag : ℕ
  pub pps_single_slice_per_subpic_flag : ℕ
  pub pps_num_slices_in_pic_minus1 : ℕ
  pub pps_tile_idx_delta_present_flag : ℕ
  pub rect_slices : List RectSlice
  pub pps_loop_filter_across_slices_enabled_flag : ℕ

-- there are explicit columns and rows
abbrev pub some : List ℕ → Bool
some l = not (eqb (length l) 0)

-- rectangular slices are coded
abbrev pub coded : ℕ → ℕ → Bool
coded rect single = is_set rect && eqb single 0

-- pps_log2_ctu_size_minus5, at most 2
abbrev pub ctu_size : Element ℕ
ctu_size = limited (u 2 0) (λ v. leb v 2) 9 (lit< tt)

-- as many explicit sizes minus 1 as were counted, one more than the count says; each below the picture's CTBs on its axis
abbrev pub explicit : ℕ → ℕ → Element (List ℕ)
explicit count_minus1 ctbs = many (suc count_minus1) (limited ue (λ v. ltb v ctbs) 11 (lit< tt)) 10

-- there is more than one tile
abbrev pub several : Grid → Bool
several g = ltb 1 (tiles g)

-- pps_rect_slice_flag, 1 where there is a single tile
abbrev pub rect_flag : Bool → Element ℕ
rect_flag several = or_else several flag (absent sameℕ 1 26)

-- pps_num_slices_in_pic_minus1, at most 999
abbrev pub slices_minus1 : Bool → Element ℕ
slices_minus1 on = or_else on (limited ue (λ v. leb v max_slices_minus1) 14 (lit< tt)) (absent sameℕ 0 0)

module _ (W H : ℕ) where
  unfoldable pub partition : Syntax PartitionBlock
  partition = do
    ctu ← ctu_size for (λ r. r.pps_log2_ctu_size_minus5)
    let w = in_ctbs W ctu
    let h = in_ctbs H ctu
    on_writing (λ r. some r.pps_tile_column_width_minus1 && some r.pps_tile_row_height_minus1) 10 do
      cols ← ue for (λ r. length r.pps_tile_column_width_minus1 - 1)
      rows ← ue for (λ r. length r.pps_tile_row_height_minus1 - 1)
      on_reading (ltb cols max_tile_columns && ltb rows max_tiles) 10 (lit< tt) do
        widths ← explicit cols w for (λ r. r.pps_tile_column_width_minus1)
        heights ← explicit rows h for (λ r. r.pps_tile_row_height_minus1)
        on_both (leb (sum (explicit_sizes widths)) w) 12 (lit< tt)
            (on_both (leb (length (axis_sizes widths w)) max_tile_columns) 13 (lit< tt)
            (on_both (leb (sum (explicit_sizes heights)) h) 12 (lit< tt)
            (on_both (leb (length (axis_sizes heights h)) (max_tiles / length (axis_sizes widths w))) 13 (lit< tt) do
              let g = tile_grid W H ctu widths heights
              across_tiles ← flag_if (several g) for (λ r. r.pps_loop_filter_across_tiles_enabled_flag)
              rect ← rect_flag (several g) for (λ r. r.pps_rect_slice_flag)
              single ← flag_if (is_set rect) for (λ r. r.pps_single_slice_per_subpic_flag)
              let on = coded rect single
              N ← slices_minus1 on for (λ r. r.pps_num_slices_in_pic_minus1)
              deltas ← flag_if (on && ltb 1 N) for (λ r. r.pps_tile_idx_delta_present_flag)
              slices ← or_else on (rect_slices g (is_set deltas) N first_position) (none 26) for (λ r. r.rect_slices)
              across_slices ← flag_if (not (on && eqb N 0)) for (λ r. r.pps_loop_filter_across_slices_enabled_flag)
              done (record {
                pps_log2_ctu_size_minus5 = ctu;
                pps_tile_column_width_minus1 = widths;
                pps_tile_row_height_minus1 = heights;
                pps_loop_filter_across_tiles_enabled_flag = across_tiles;
                pps_rect_slice_flag = rect;
                pps_single_slice_per_subpic_flag = single;
                pps_num_slices_in_pic_minus1 = N;
                pps_tile_idx_delta_present_flag = deltas;
                rect_slices = slices;
                pps_loop_filter_across_slices_enabled_flag = across_slices;
              }))))

  one_less : (a n : ℕ) → a ≡ suc n → a - 1 ≡ n
  one_less a n e = omega arith

  some_of : (ws hs : List ℕ) (m n : ℕ) → length ws ≡ suc m → length hs ≡ suc n → (some ws && some hs) ≡ true
  some_of ws hs m n p q = rw (p, q, ne_eqb (suc m) 0 (λ e. omega arith), ne_eqb (suc n) 0 (λ e. omega arith))

  pub partition_faithful : Faithful partition (λ _. Unit {0})
  unfolding partition Faithful ◌>>=◌
  partition_faithful =
      λ ctu _ c _ r _ lim ws p hs q t₁ t₂ t₃ t₄ a _ b _ s _ n _ d _ l _ z _.
      let m = many-length _ _ _ ws p in
      let k = many-length _ _ _ hs q in
      tt & refl & some_of ws hs c r m k & one_less _ _ m & one_less _ _ k & refl & refl & t₁ & t₂ & t₃ & t₄ & refl & refl & refl & refl & refl & refl & refl

  pub partition-whole : Whole partition
  unfolding partition rebuilt ◌>>=◌
  partition-whole r = refl

  abbrev pub partition_element : Element PartitionBlock
  partition_element = structure partition partition_faithful partition-whole

  -- the numbers of the block, as the definitions of tiles and slices take them
  unfoldable pub partition_of : PartitionBlock → Partition
  partition_of r =
      record {
        width = W;
        height = H;
        log2_ctu_size_minus5 = r.pps_log2_ctu_size_minus5;
        column_widths_minus1 = r.pps_tile_column_width_minus1;
        row_heights_minus1 = r.pps_tile_row_height_minus1;
        rectangular = is_set r.pps_rect_slice_flag;
        single_slice = is_set r.pps_single_slice_per_subpic_flag;
        N = r.pps_num_slices_in_pic_minus1;
        deltas = is_set r.pps_tile_idx_delta_present_flag;
        entries = map entry_of r.rect_slices;
      }
