-- What stands behind the grid, and the whole block, as code comes to them.
use Rattle.std.specs.Prelude.{ℕ, zero, suc, ◌≤◌, min, ◌≡◌, refl, List, ◌++◌, Bool, true, false, not, ◌&&◌, eqb, ltb, length, take}
use Rattle.std.proofs.Common.{sym, ap, ap₂, ◌∙◌, arith, length-take, ne_eqb}
use Rattle.codes.specs.Symbols.{Symbol, check, check-true}
use Rattle.bit_writer.specs.Writing.{Writing}
use Rattle.partition.specs.Entry.{first_position}
use Rattle.partition.specs.Grid.{Grid, max_tile_columns, max_tiles, grid_with}
use Rattle.partition.specs.Partition.{tile_grid}
use Rattle.std.specs.Prelude.{Ok, Err}
use Rattle.refusal.specs.declared.Refusal.{Refusal}
use Rattle.refusal.specs.Numbers.{number, refused}
use Rattle.refusal.proofs.Numbers.{number_above0}
use Rattle.grid_sizes.specs.declared.GridSizes.{GridSizes}
use Rattle.refusal.specs.Answers.{with_number}
use Rattle.grid_sizes.specs.Answers.{grid_sizes, grid_of_sizes}
use Rattle.grid_sizes.specs.Laws.{answer-sizes}
use Rattle.pps_record.specs.declared.VvcPpsPartition.{VvcPpsPartition}
use Rattle.syntax.specs.Elements.{or_else, is_set}
use Rattle.syntax.proofs.Elements.{flag_if}
use Rattle.syntax.specs.Lists.{not-true}
use Rattle.syntax.specs.Syntax.{symbols_for}
use Rattle.pps_syntax.specs.FromRecord.{lent, block_from}
use Rattle.pps_syntax.specs.PartitionSyntax.{PartitionBlock, partition, several, rect_flag, slices_minus1}
use Rattle.pps_syntax.specs.SliceSyntax.{RectSlice, rect_slices}
use Rattle.pps_syntax.specs.SliceTables.{SliceTables, slices_from}
use Rattle.grid_sizes.specs.Fronts.{grid_in, front-is, take-most}
use Rattle.pps_syntax.specs.SliceFlags.{SliceFlags, codes}
use Rattle.bit_writer.specs.Stop.{play_on, on_none, on-append, on-check, on-refused, passed}
use Rattle.pps_put_partition.specs.Puts.{tiles_put, grid_put, flags_put, slices_put, rest_put, block-put, rest-refused}
use Rattle.pps_put_partition.specs.GridTests.{grid-put, grid-stuck}

-- the flags of the record
abbrev pub flags_of : VvcPpsPartition → SliceFlags
flags_of p =
    record {
      pps_loop_filter_across_tiles_enabled_flag = p.pps_loop_filter_across_tiles_enabled_flag;
      pps_rect_slice_flag = p.pps_rect_slice_flag;
      pps_single_slice_per_subpic_flag = p.pps_single_slice_per_subpic_flag;
      pps_num_slices_in_pic_minus1 = p.pps_num_slices_in_pic_minus1;
      pps_tile_idx_delta_present_flag = p.pps_tile_idx_delta_present_flag;
    }

-- the block of a record, of these sizes and entries
abbrev pub block_with : VvcPpsPartition → List ℕ → List ℕ → List RectSlice → PartitionBlock
block_with p ws hs rs =
    record {
      pps_log2_ctu_size_minus5 = p.pps_log2_ctu_size_minus5;
      pps_tile_column_width_minus1 = ws;
      pps_tile_row_height_minus1 = hs;
      pps_loop_filter_across_tiles_enabled_flag = p.pps_loop_filter_across_tiles_enabled_flag;
      pps_rect_slice_flag = p.pps_rect_slice_flag;
      pps_single_slice_per_subpic_flag = p.pps_single_slice_per_subpic_flag;
      pps_num_slices_in_pic_minus1 = p.pps_num_slices_in_pic_minus1;
      pps_tile_idx_delta_present_flag = p.pps_tile_idx_delta_present_flag;
      rect_slices = rs;
      pps_loop_filter_across_slices_enabled_flag = p.pps_loop_filter_across_slices_enabled_flag;
    }

-- the flags, one behind the other
module _ (several : Bool) (f : SliceFlags) (w : Writing) where
  abbrev pub across : List Symbol
  across = (flag_if several).symbols f.pps_loop_filter_across_tiles_enabled_flag

  abbrev pub rect : List Symbol
  rect = (rect_flag several).symbols f.pps_rect_slice_flag

  abbrev pub single : List Symbol
  single = (flag_if (is_set f.pps_rect_slice_flag)).symbols f.pps_single_slice_per_subpic_flag

  abbrev pub num : List Symbol
  num = (slices_minus1 (codes f)).symbols f.pps_num_slices_in_pic_minus1

  abbrev pub deltas : List Symbol
  deltas = (flag_if (codes f && ltb 1 f.pps_num_slices_in_pic_minus1)).symbols f.pps_tile_idx_delta_present_flag

  pub flags-listed : {v : Writing} → v ≡ play_on w (across ++ (rect ++ (single ++ (num ++ deltas)))) → v ≡ flags_put several f w
  unfolding flags_put
  flags-listed h =
      let a = play_on w across in
      let b = play_on a rect in
      let c = play_on b single in
      h ∙ on-append w across (rect ++ (single ++ (num ++ deltas))) ∙ on-append a rect (single ++ (num ++ deltas)) ∙ on-append b single (num ++ deltas) ∙ on-append c num deltas

pub slices-coded : (w : Writing) (g : Grid) (on deltas : Bool) (N : ℕ) (rs : List RectSlice) {x : Writing} → on ≡ true
    → x ≡ play_on w ((rect_slices g deltas N first_position).symbols rs) → x ≡ slices_put g on deltas N rs w
unfolding slices_put or_else
slices-coded w g on deltas N rs e h = h ∙ rw e

pub slices-absent : (w : Writing) (g : Grid) (on deltas : Bool) (N count : ℕ) (t : SliceTables) {x : Writing} → on ≡ false → x ≡ play_on w (check (eqb count 0) 26) → x ≡ slices_put g on deltas N (slices_from t 0 0 count) w
unfolding slices_put or_else slices_from
slices-absent w g on deltas N zero t e h = rw e (h ∙ ap (play_on w) (check-true true 26 refl))
slices-absent w g on deltas N (suc n) t e h = rw e (h ∙ ap (λ (b : Bool). play_on w (check b 26)) (ne_eqb (suc n) 0 (λ z. omega arith)))

-- what stands behind the grid, one part behind the other
module _ (g : Grid) (f : SliceFlags) (rs : List RectSlice) (across : ℕ) (w : Writing) where
  abbrev pub coded_slices : Writing → Writing
  coded_slices = slices_put g (codes f) (is_set f.pps_tile_idx_delta_present_flag) f.pps_num_slices_in_pic_minus1 rs

  abbrev pub last : List Symbol
  last = (flag_if (not (codes f && eqb f.pps_num_slices_in_pic_minus1 0))).symbols across

  pub rest-made : {many : Bool} {a b c : Writing} → many ≡ several g → a ≡ flags_put many f w → b ≡ coded_slices a → c ≡ play_on b last → c ≡ rest_put g (several g) f rs across w
  unfolding rest_put
  rest-made {many} m p q r = r ∙ ap (λ (x : Writing). play_on x last) (q ∙ ap coded_slices (p ∙ ap (λ (x : Bool). flags_put x f w) m))

-- flags that are refused are followed by no slices
pub slices-stuck : (g : Grid) (f : SliceFlags) (rs : List RectSlice) (a : Writing) → (a.sink.refused ≡ 0 → ⊥) → a ≡ slices_put g (codes f) (is_set f.pps_tile_idx_delta_present_flag) f.pps_num_slices_in_pic_minus1 rs a
unfolding slices_put
slices-stuck g f rs a h = sym (on-refused a _ h)

-- the grid that sizes made from it hold
sizes-back : (ws hs : List ℕ) → grid_in (grid_of_sizes ws hs) ≡ grid_with ws hs
unfolding grid_of_sizes
sizes-back ws hs = ap₂ grid_with (front-is max_tile_columns ws _ _ refl refl) (front-is max_tiles hs _ _ refl refl)

module _ (W H : ℕ) (p : VvcPpsPartition) (ws hs : List ℕ) (rs : List RectSlice) (w : Writing) {a : Writing} (tiles_are : a ≡ tiles_put W H p.pps_log2_ctu_size_minus5 ws hs w) where
  abbrev ctu : ℕ
  ctu = p.pps_log2_ctu_size_minus5

  abbrev g : Grid
  g = tile_grid W H ctu ws hs

  abbrev rest_in : Grid → Writing → Writing
  rest_in x = rest_put x (several x) (flags_of p) rs p.pps_loop_filter_across_slices_enabled_flag

  abbrev Put : Writing → Type 0
  Put v = v ≡ play_on w (symbols_for (partition W H) (block_with p ws hs rs))

  stops : {b : Writing} → b ≡ grid_put W H ctu ws hs (tiles_put W H ctu ws hs w) → (b.sink.refused ≡ 0 → ⊥) → Put b
  stops {b} e h = sym (rest-refused g (several g) (flags_of p) rs p.pps_loop_filter_across_slices_enabled_flag b h) ∙ ap (rest_in g) e ∙ block-put W H (block_with p ws hs rs) w

  -- the tile sizes are refused
  pub tiles-refused : (a.sink.refused ≡ 0 → ⊥) → Put a
  tiles-refused h = stops (grid-stuck W H ctu ws hs w tiles_are h) h

  -- the grid is refused
  pub grid-refused : (e : Refusal) → with_number (Err e) ≡ grid_sizes W H ctu ws hs → {b : Writing} → b ≡ play_on a (check false (number e)) → Put b
  unfolding refused
  grid-refused e q {b} m =
      let made : b ≡ play_on a (check (eqb (number e) 0) (number e)) = m ∙ ap (λ (t : Bool). play_on a (check t (number e))) (sym (ne_eqb (number e) 0 (above e))) in
      stops (grid-put W H ctu ws hs w (Err e) tiles_are q made) (λ z. not-true (passed a false (number e) (number_above0 e) (m ∙ on-check a false (number e)) z).0)
    where
      above : (e : Refusal) → number e ≡ 0 → ⊥
      above e z = omega (arith, number_above0 e)

  -- or it is held in its tables
  pub block_goes : (s : GridSizes) → with_number (Ok s) ≡ grid_sizes W H ctu ws hs → {v : Writing} → v ≡ rest_in (grid_in s) a → Put v
  unfolding refused
  block_goes s q e =
      let held : grid_in s ≡ g = ap grid_in (answer-sizes W H ctu ws hs s q) ∙ sizes-back g.column_widths g.row_heights in
      let made : a ≡ play_on a (check (eqb 0 0) 0) = sym (ap (play_on a) (check-true true 0 refl) ∙ on_none a) in
      e ∙ ap (λ (x : Grid). rest_in x a) held ∙ ap (rest_in g) (grid-put W H ctu ws hs w (Ok s) tiles_are q made) ∙ block-put W H (block_with p ws hs rs) w

-- the first n of a table
pub front-taken : (n a : ℕ) (l : List ℕ) → a ≡ min n (length l) → take a l ≡ take n l
front-taken n a l e = ap (λ (k : ℕ). take k l) e ∙ take-most n l

pub front-short : (n a : ℕ) (l : List ℕ) → n ≤ 4294967295 → a ≡ min n (length l) → length (take a l) ≤ 4294967295
front-short n a l h e = omega (arith, length-take a l)

pub partition-made : (W H : ℕ) (p : VvcPpsPartition) (ids ws hs : List ℕ) (t : SliceTables) (w : Writing) {v : Writing} {columns rows : ℕ} → columns ≡ min p.num_tile_column_widths (length ws) → rows ≡ min p.num_tile_row_heights (length hs)
    → v ≡ play_on w (symbols_for (partition W H) (block_with p (take columns ws) (take rows hs) (slices_from t 0 0 p.num_rect_slices)))
    → v ≡ play_on w (symbols_for (partition W H) (block_from p (lent ids ws hs t)))
partition-made W H p ids ws hs t w {v} {columns} {rows} ec er ev =
    let symbols : List ℕ → List ℕ → List Symbol = λ x y. symbols_for (partition W H) (block_with p x y (slices_from t 0 0 p.num_rect_slices)) in
    ev ∙ ap (play_on w) (ap₂ symbols (front-taken p.num_tile_column_widths columns ws ec) (front-taken p.num_tile_row_heights rows hs er))
