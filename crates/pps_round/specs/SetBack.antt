-- The record of a set that was read, with the triples beside it and the tables that reading leaves, says that set.
use Rattle.std.specs.Prelude.{ℕ, suc, ◌-◌, ◌≤◌, min, ◌≡◌, refl, List, [], ◌∷◌, map, Bool, true, false, cond, ◌&&◌, eqb, leb, length, take, drop}
use Rattle.std.proofs.Common.{ap, ◌∙◌, append_assoc, arith, take_at, eqb-true, leb-true}
use Rattle.std.proofs.lemmas.List.{length-map}
use Rattle.codes.specs.Symbols.{refusal_in}
use Rattle.partition.specs.Entry.{first_position}
use Rattle.partition.specs.Grid.{Grid, max_tile_columns, max_tiles, max_slices_minus1, max_slices}
use Rattle.pps_tables.specs.Cleared.{cleared_slices, cleared}
use Rattle.pps_answer.specs.Lending.{columns_of, rows_of, slices_of, filled}
use Rattle.pps_tables.specs.Rows.{no_entry}
use Rattle.pps_round.specs.SlicesBack.{AllCounted, Room, put_entries, slices-back, slices-counted}
use Rattle.pps_syntax.specs.Chroma.{Triple, ChromaToolOffsets, chroma, triple_element}
use Rattle.pps_syntax.specs.FromRecord.{Lent, subpic_ids_from, triple_of, triples_from, chroma_from, block_from, partition_from, set_from, lengths_fit, tables_long}
use Rattle.pps_syntax.specs.ListsFit.{ListsFit}
use Rattle.pps_syntax.specs.PartitionSyntax.{PartitionBlock, partition, partition_element, coded}
use Rattle.pps_syntax.specs.Pps.{Pps, front, back, pps, partitioned, pic_width, pic_height}
use Rattle.pps_syntax.specs.Record.{mapping_of, chroma_of, offsets_of, no_triples, triples_of, partition_record, record_of}
use Rattle.pps_syntax.specs.SliceSyntax.{RectSlice, rect_slices}
use Rattle.pps_syntax.specs.SliceTables.{put_slices, all_split_heights}
use Rattle.pps_syntax.specs.SubpicIds.{SubpicIds, subpic_ids, max_subpics}
use Rattle.syntax.specs.Element.{Element}
use Rattle.syntax.specs.Elements.{u, or_else, one_if, is_set}
use Rattle.syntax.specs.Facts.{Facts, facts}
use Rattle.syntax.specs.Lists.{many, none, not-true}
use Rattle.syntax.specs.Round.{and_parts, refusal_parts}
use Rattle.syntax.specs.Syntax.{◌>>=◌, symbols_for, refusal_for, canonical_for}
use Rattle.tables.specs.Tables.{over, blank-length, sets_over}

-- ---- lists
taken-over : {A : Type 0} (xs t : List A) → take (length xs) (over xs t) ≡ xs
unfolding over
taken-over xs t = take_at xs (drop (length xs) t) (length xs) refl

-- a list that reading gives, where it is there or not
here-or-none : {A : Type 0} (on : Bool) (k : ℕ) (e : Element A) (n m : ℕ) (l : List A) → (or_else on (many k e n) (none m)).canonical l ≡ true → cond on l [] ≡ l
unfolding or_else
here-or-none true k e n m l c = refl
here-or-none false k e n m [] c = refl
here-or-none false k e n m (x ∷ l) c = absurd (not-true c)

-- ---- tables at their stated lengths
pub record Long (t : Lent) : Type 0 where
  pub subpic_ids : max_subpics ≤ length t.subpic_ids
  pub column_widths : max_tile_columns ≤ length t.column_widths
  pub row_heights : max_tiles ≤ length t.row_heights
  pub entries : max_slices_minus1 ≤ length t.slices.entries
  pub split_heights : max_slices ≤ length t.slices.split_heights

pub long_of : (t : Lent) → tables_long t ≡ true → Long t
unfolding lengths_fit
long_of t e =
    let a = and_parts (leb max_subpics (length t.subpic_ids)) _ e in
    let b = and_parts (leb max_tile_columns (length t.column_widths)) _ a.1 in
    let c = and_parts (leb max_tiles (length t.row_heights)) _ b.1 in
    let d = and_parts (leb max_slices_minus1 (length t.slices.entries)) (leb max_slices (length t.slices.split_heights)) c.1 in
    record {
      subpic_ids = leb-true _ _ a.0;
      column_widths = leb-true _ _ b.0;
      row_heights = leb-true _ _ c.0;
      entries = leb-true _ _ d.0;
      split_heights = leb-true _ _ d.1;
    }

pub room_of : (t : Lent) (rs : List RectSlice) → Long t → length rs ≤ max_slices_minus1 → length (all_split_heights rs) ≤ max_slices → Room (cleared_slices t.slices) rs
unfolding cleared_slices
room_of t rs l h k =
    record {
      entries = omega (arith, l.entries, blank-length {A = List ℕ} (length t.slices.entries) no_entry);
      split_heights = omega (arith, l.split_heights, blank-length {A = ℕ} (length t.slices.split_heights) 0);
    }

-- ---- the subpicture ids
pub ids-back : (parted : Bool) (m : SubpicIds) (t : List ℕ) → refusal_for (subpic_ids parted) m ≡ 0 → canonical_for (subpic_ids parted) m ≡ true → subpic_ids_from (mapping_of m) (over m.pps_subpic_id t) ≡ m
unfolding subpic_ids Facts ◌>>=◌
ids-back parted m t h c =
    let f = facts (subpic_ids parted) m h c in
    let on : Bool = is_set m.present in
    let ids : List ℕ = m.pps_subpic_id in
    let e : cond on (take (length ids) (over ids t)) [] ≡ ids =
    ap (λ (l : List ℕ). cond on l []) (taken-over ids t) ∙ here-or-none on (suc m.pps_num_subpics_minus1) (u (suc (min m.pps_subpic_id_len_minus1 15)) 27) 27 0 ids f.1.1.1.0.1 in
    rw e

-- ---- the chroma offset list
offsets_back : (l : List Triple) → map triple_of (map offsets_of l) ≡ l
offsets_back [] = refl
offsets_back (t ∷ l) = ap (λ (m : List Triple). t ∷ m) (offsets_back l)

six : length no_triples ≡ 6
unfolding no_triples
six = blank-length 6 _

triples-laid : (l : List Triple) → length l ≤ 6 → triples_of l ≡ over (map offsets_of l) no_triples
triples-laid l h = sets_over no_triples (map offsets_of l) (omega (arith, length-map l offsets_of, six))

list_back : (l : List Triple) → length l ≤ 6 → triples_from (length l) (triples_of l) ≡ l
unfolding triples_from over
list_back l h =
    let n = length-map l offsets_of in
    rw (triples-laid l h, n, append_assoc, take_at (map offsets_of l) _ (length l) n) (offsets_back l)

pub chroma-back : (t : ChromaToolOffsets) → length t.list ≤ 6 → refusal_for chroma t ≡ 0 → canonical_for chroma t ≡ true
    → chroma_from (chroma_of t) (triples_of t.list) ≡ t
unfolding chroma Facts ◌>>=◌
chroma-back t few h c =
    let f = (facts chroma t h c).1.1.1.1.1.1.1 in
    let on : Bool = is_set t.present && is_set t.pps_cu_chroma_qp_offset_list_enabled_flag in
    let joint : Bool = is_set t.present && is_set t.pps_joint_cbcr_qp_offset_present_flag in
    let e : cond on (triples_from (length t.list) (triples_of t.list)) [] ≡ t.list =
    ap (λ (l : List Triple). cond on l []) (list_back t.list few) ∙ here-or-none on (suc (length t.list - 1)) (triple_element joint) 21 0 t.list f.1.1.1.0.1 in
    rw e

-- ---- the partition block
block-counted : (on : Bool) (g : Grid) (deltas : Bool) (N : ℕ) (rs : List RectSlice) → refusal_in ((or_else on (rect_slices g deltas N first_position) (none 26)).symbols rs) ≡ 0
    → (or_else on (rect_slices g deltas N first_position) (none 26)).canonical rs ≡ true → AllCounted rs
unfolding or_else AllCounted
block-counted true g deltas N rs h c = slices-counted g deltas N first_position rs h c
block-counted false g deltas N [] h c = tt
block-counted false g deltas N (r ∷ rs) h c = absurd (not-true c)

pub entries-counted : (W H : ℕ) (b : PartitionBlock) → refusal_for (partition W H) b ≡ 0 → canonical_for (partition W H) b ≡ true → AllCounted b.rect_slices
unfolding partition Facts ◌>>=◌
entries-counted W H b h c =
    let slices = (facts (partition W H) b h c).1.1.1.1.1.1.1.1.1.1.1.1.1.1.1.1.1.1 in
    block-counted (coded b.pps_rect_slice_flag b.pps_single_slice_per_subpic_flag) _ (is_set b.pps_tile_idx_delta_present_flag) b.pps_num_slices_in_pic_minus1 b.rect_slices slices.1.1.0.0 slices.1.1.0.1

-- tables that hold the lists of a set
abbrev pub holding : List PartitionBlock → Lent → Lent → Lent
holding ps z t =
    record {
      subpic_ids = t.subpic_ids;
      column_widths = over (columns_of ps) z.column_widths;
      row_heights = over (rows_of ps) z.row_heights;
      slices = put_slices z.slices 0 0 (slices_of ps);
    }

block_back : (W H present : ℕ) (b : PartitionBlock) (z t : Lent) → Room z.slices b.rect_slices → AllCounted b.rect_slices → block_from (partition_record present (b ∷ [])) (holding (b ∷ []) z t) ≡ b
unfolding partition_record
block_back W H present b z t m c =
    rw (
      taken-over b.pps_tile_column_width_minus1 z.column_widths,
      taken-over b.pps_tile_row_height_minus1 z.row_heights,
      slices-back (put_slices z.slices 0 0 b.rect_slices) _ _ b.rect_slices 0 0 (put_entries z.slices b.rect_slices m) c,
    )

partition-back : (parted : Bool) (W H present : ℕ) (ps : List PartitionBlock) (z t : Lent) → ((b : PartitionBlock) → ps ≡ b ∷ [] → Room z.slices b.rect_slices) → eqb present (one_if parted) ≡ true
    → refusal_in ((or_else parted (many 1 (partition_element W H) 26) (none 0)).symbols ps) ≡ 0 → (or_else parted (many 1 (partition_element W H) 26) (none 0)).canonical ps ≡ true
    → partition_from (partition_record present ps) (holding ps z t) ≡ ps
unfolding or_else many partition_from partition_record
partition-back true W H present [] z t m p h c = absurd (not-true c)
partition-back true W H present (b ∷ []) z t m p h c =
    let k = entries-counted W H b (refusal_parts (symbols_for (partition W H) b) [] h).0 (and_parts (canonical_for (partition W H) b) true c).0 in
    rw (eqb-true present 1 p) (ap (λ (x : PartitionBlock). x ∷ []) (block_back W H 1 b z t (m b refl) k))
partition-back true W H present (b ∷ d ∷ ps) z t m p h c = absurd (not-true (and_parts (canonical_for (partition W H) b) false c).1)
partition-back false W H present [] z t m p h c = rw (eqb-true present 0 p)
partition-back false W H present (b ∷ ps) z t m p h c = absurd (not-true c)

-- ---- the set
pub present-back : (present : ℕ) (ps : List PartitionBlock) → (partition_record present ps).present ≡ present
unfolding partition_record
present-back present [] = refl
present-back present (b ∷ ps) = refl

pub set_back : (r : Pps) (t : Lent) (first bits : ℕ) → refusal_for pps r ≡ 0 → canonical_for pps r ≡ true → Long t → ListsFit r
    → set_from (record_of r first bits) (triples_of r.back.chroma.list) (filled r t) ≡ r
unfolding pps front back Facts ◌>>=◌ set_from record_of filled cleared
set_back r t first bits h c l fits =
    let f = facts pps r h c in
    let parted = partitioned r.front.kind in
    let a = (facts front r.front f.0.0 f.0.1).1.1.1.1.0 in
    let d = (facts (back parted) r.back f.1.1.1.0.0 f.1.1.1.0.1).1.0 in
    let z = cleared t in
    let ids = ids-back parted r.front.subpic_ids z.subpic_ids a.0 a.1 in
    let list = chroma-back r.back.chroma fits.triples d.0 d.1 in
    let block = partition-back parted (pic_width r.front) (pic_height r.front) r.partition_present r.partition z (filled r t) (λ b e. let k = fits.blocks b e in room_of t b.rect_slices l k.entries k.split-heights) f.1.0.1 f.1.1.0.0 f.1.1.0.1 in
    rw (ids, list, block, present-back r.partition_present r.partition)
