-- The lists of a set that was read fit the tables that are lent for them, of the lengths that docs/BEHAVIOUR.md states: no entry that the record counts is left out.
use Rattle.std.specs.Prelude.{ℕ, ◌-◌, ◌≤◌, ◌≡◌, List, [], ◌∷◌, Bool, true, false, ltb, length}
use Rattle.std.proofs.Common.{arith, lit<, ltb-true}
use Rattle.codes.specs.Symbols.{refusal_in}
use Rattle.partition.specs.Entry.{first_position}
use Rattle.partition.specs.Grid.{Grid, max_tile_columns, max_tiles, max_slices_minus1, max_slices}
use Rattle.pps_syntax.specs.PartitionSyntax.{PartitionBlock, partition, partition_element, coded}
use Rattle.pps_syntax.specs.Pps.{Pps, front, back, pps, partitioned, pic_width, pic_height}
use Rattle.pps_syntax.specs.Rbsp.{ReadSet, accepted, read_rbsp}
use Rattle.pps_syntax.proofs.ReadWhole.{read_whole}
use Rattle.pps_syntax.specs.SliceSyntax.{RectSlice, rect_slices}
use Rattle.pps_syntax.specs.SliceTables.{all_split_heights}
use Rattle.pps_syntax.proofs.SlicesFit.{slices-fit}
use Rattle.syntax.specs.Elements.{or_else, is_set}
use Rattle.syntax.specs.Facts.{Facts, facts}
use Rattle.syntax.specs.Lists.{many, none, not-true}
use Rattle.syntax.specs.Round.{and_parts, refusal_parts}
use Rattle.syntax.specs.Syntax.{◌>>=◌, symbols_for, refusal_for, canonical_for}
use Rattle.pps_syntax.specs.ListsFit.{bounded, ids-fit, BlockFits, triples-fit, ListsFit}

-- ---- the partition block

slices-of-block : (on : Bool) (g : Grid) (deltas : Bool) (N : ℕ) (rs : List RectSlice) → N ≤ max_slices_minus1 → refusal_in ((or_else on (rect_slices g deltas N first_position) (none 26)).symbols rs) ≡ 0
    → (or_else on (rect_slices g deltas N first_position) (none 26)).canonical rs ≡ true → (length rs ≤ max_slices_minus1) × (length (all_split_heights rs) ≤ max_slices)
unfolding or_else all_split_heights
slices-of-block true g deltas N rs few h c = let f = slices-fit g deltas N first_position rs h c in (omega (arith, f.entries), omega (arith, f.heights (omega arith)))
slices-of-block false g deltas N [] few h c = (omega arith, omega arith)
slices-of-block false g deltas N (r ∷ rs) few h c = absurd (not-true c)

pub block-fits : (W H : ℕ) (b : PartitionBlock) → refusal_for (partition W H) b ≡ 0 → canonical_for (partition W H) b ≡ true → BlockFits b
unfolding partition Facts ◌>>=◌
block-fits W H b h c =
    let f = facts (partition W H) b h c in
    let cols : ℕ = length b.pps_tile_column_width_minus1 - 1 in
    let rows : ℕ = length b.pps_tile_row_height_minus1 - 1 in
    let counts = and_parts (ltb cols max_tile_columns) (ltb rows max_tiles) f.1.1.1.1.0 in
    let slices = f.1.1.1.1.1.1.1.1.1.1.1.1.1.1.1.1.1.1 in
    let N : ℕ = b.pps_num_slices_in_pic_minus1 in
    let on : Bool = coded b.pps_rect_slice_flag b.pps_single_slice_per_subpic_flag in
    let few : N ≤ max_slices_minus1 = bounded on max_slices_minus1 N 14 0 (lit< tt) slices.0.0 slices.0.1 in
    let s = slices-of-block on _ (is_set b.pps_tile_idx_delta_present_flag) N b.rect_slices few slices.1.1.0.0 slices.1.1.0.1 in
    record {
      column-widths = omega (arith, ltb-true cols max_tile_columns counts.0);
      row-heights = omega (arith, ltb-true rows max_tiles counts.1);
      entries = s.0;
      split-heights = s.1;
    }

-- ---- the set

block_of : (on : Bool) (W H : ℕ) (b : PartitionBlock) → refusal_in ((or_else on (many 1 (partition_element W H) 26) (none 0)).symbols (b ∷ [])) ≡ 0
    → (or_else on (many 1 (partition_element W H) 26) (none 0)).canonical (b ∷ []) ≡ true → BlockFits b
unfolding or_else many
block_of true W H b h c = block-fits W H b (refusal_parts (symbols_for (partition W H) b) [] h).0 (and_parts (canonical_for (partition W H) b) true c).0
block_of false W H b h c = absurd (not-true c)

pub lists_fit : (r : Pps) → refusal_for pps r ≡ 0 → canonical_for pps r ≡ true → ListsFit r
unfolding pps front back Facts ◌>>=◌
lists_fit r h c =
    let f = facts pps r h c in
    let a = (facts front r.front f.0.0 f.0.1).1.1.1.1.0 in
    let z = (facts (back (partitioned r.front.kind)) r.back f.1.1.1.0.0 f.1.1.1.0.1).1.0 in
    record {
      subpic_ids_lem = ids-fit (partitioned r.front.kind) r.front.subpic_ids a.0 a.1;
      blocks = λ b q. block_of (partitioned r.front.kind) (pic_width r.front) (pic_height r.front) b (rw q at f.1.1.0.0) (rw q at f.1.1.0.1);
      triples = triples-fit r.back.chroma z.0 z.1;
    }

-- of every set that was read
pub read_lists_fit : (rbsp : List ℕ) (a : ReadSet) → read_rbsp rbsp ≡ accepted a → ListsFit a.set
read_lists_fit rbsp a e = let w = (read_whole rbsp a e).fields in lists_fit a.set w.accepted w.given
