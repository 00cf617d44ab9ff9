-- The block behind its grid (H.266 7.3.2.5): flags, slices, and the last flag.
use Rattle.std.specs.Prelude.{ℕ, List, [], Bool, not, cond, ◌&&◌, eqb, ltb, length}
use Rattle.bit_reader.specs.declared.Cursor.{Cursor}
use Rattle.bit_reader.specs.Gives.{Parsed}
use Rattle.partition.specs.Entry.{first_position}
use Rattle.partition.specs.Grid.{Grid}
use Rattle.pps_syntax.specs.PartitionSyntax.{several, coded, rect_flag, slices_minus1}
use Rattle.pps_syntax.specs.SliceFlags.{SliceFlags, codes}
use Rattle.pps_syntax.specs.SliceSyntax.{RectSlice, rect_slices}
use Rattle.syntax.specs.Element.{Element}
use Rattle.syntax.specs.Elements.{or_else, is_set}
use Rattle.syntax.proofs.Elements.{flag_if}
use Rattle.syntax.specs.Lists.{none}
use Rattle.syntax.specs.Syntax.{Syntax, done, parse, ◌for◌, ◌>>=◌}
use Rattle.pps_slices.specs.Loop.{refused_heights}
use Rattle.pps_partition.specs.declared.slicing.SlicingRead.{SlicingRead}
use Rattle.pps_partition.specs.SliceFlags.{slice_flags, flags_kept}

pub record Slicing : Type 0 where
  pub flags : SliceFlags
  pub rect_slices : List RectSlice
  pub pps_loop_filter_across_slices_enabled_flag : ℕ

-- the slices, where they are coded
abbrev pub slices_if : Bool → Grid → Bool → ℕ → Element (List RectSlice)
slices_if on g deltas N = or_else on (rect_slices g deltas N first_position) (none 26)

abbrev pub coded_slices : Grid → SliceFlags → Element (List RectSlice)
coded_slices g f = slices_if (codes f) g (is_set f.pps_tile_idx_delta_present_flag) f.pps_num_slices_in_pic_minus1

-- the explicit slice heights of an entry that is refused; they are in their table before the entry's later tests
abbrev pub left_if : Bool → Grid → Bool → ℕ → List ℕ → Cursor → List ℕ
left_if on g deltas N s c = cond on (refused_heights g deltas N first_position s c) []

unfoldable pub coded_left : Grid → SliceFlags → List ℕ → Cursor → List ℕ
coded_left g f s c = left_if (codes f) g (is_set f.pps_tile_idx_delta_present_flag) f.pps_num_slices_in_pic_minus1 s c

-- pps_loop_filter_across_slices_enabled_flag, unless there is one slice
abbrev pub across_slices : SliceFlags → Element ℕ
across_slices f = flag_if (not (codes f && eqb f.pps_num_slices_in_pic_minus1 0))

unfoldable pub slicing : Grid → Syntax Slicing
slicing g = do
  across_tiles ← flag_if (several g) for (λ r. r.flags.pps_loop_filter_across_tiles_enabled_flag)
  rect ← rect_flag (several g) for (λ r. r.flags.pps_rect_slice_flag)
  single ← flag_if (is_set rect) for (λ r. r.flags.pps_single_slice_per_subpic_flag)
  N ← slices_minus1 (coded rect single) for (λ r. r.flags.pps_num_slices_in_pic_minus1)
  deltas ← flag_if (coded rect single && ltb 1 N) for (λ r. r.flags.pps_tile_idx_delta_present_flag)
  let flags : SliceFlags =
      record {
        pps_loop_filter_across_tiles_enabled_flag = across_tiles;
        pps_rect_slice_flag = rect;
        pps_single_slice_per_subpic_flag = single;
        pps_num_slices_in_pic_minus1 = N;
        pps_tile_idx_delta_present_flag = deltas;
      }
  slices ← coded_slices g flags for (λ r. r.rect_slices)
  across ← across_slices flags for (λ r. r.pps_loop_filter_across_slices_enabled_flag)
  done (record { flags = flags; rect_slices = slices; pps_loop_filter_across_slices_enabled_flag = across })

-- what is kept of it beside the tables
abbrev pub slicing_kept : Slicing → SlicingRead
slicing_kept r = record { flags = flags_kept r.flags; num_rect_slices = length r.rect_slices; across_slices = r.pps_loop_filter_across_slices_enabled_flag }

-- the heights of a refused entry: those of the slice loop, which stands behind the flags
unfoldable pub slicing_left : Grid → List ℕ → Cursor → List ℕ
slicing_left g s c =
    let f : Parsed SliceFlags = parse (slice_flags (several g)) s c in
    coded_left g f.value s f.next
