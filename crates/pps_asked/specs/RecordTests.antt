-- The record of a set that was read, with the tables that reading leaves, passes every test that the questions make before the partition's own.
use Rattle.std.specs.Prelude.{ℕ, ◌<◌, ◌≡◌, refl, List, [], ◌∷◌, Bool, true, false, not, ◌&&◌, ◌||◌, eqb, ltb}
use Rattle.std.specs.Bool.{beq}
use Rattle.std.proofs.Common.{arith, lit<, ltb-true, eqb-true, le-ltb}
use Rattle.codes.specs.Symbols.{refusal_in}
use Rattle.partition.specs.Checks.{fine, first_bad, AllPass, passed}
use Rattle.partition.specs.Grid.{tiles}
use Rattle.partition.specs.Partition.{tile_grid}
use Rattle.pps_answer.specs.Lending.{filled}
use Rattle.pps_round.specs.LentBack.{set-few, filled-long, filled-fit}
use Rattle.pps_round.specs.SetBack.{Long, present-back}
use Rattle.pps_syntax.specs.FromRecord.{Lent, tables_long, counts_fit}
use Rattle.pps_syntax.specs.Head.{head, kind}
use Rattle.pps_syntax.specs.ListsFit.{ListsFit}
use Rattle.pps_syntax.specs.PartitionSyntax.{PartitionBlock, coded, partition, partition_element}
use Rattle.pps_syntax.specs.Pps.{Pps, front, pps, partitioned, pic_width, pic_height}
use Rattle.pps_syntax.specs.Record.{partition_record, record_of}
use Rattle.pps_syntax.specs.SameTests.{◌⨟◌}
use Rattle.question_tests.specs.Questions.{flag_over1, record_checks}
use Rattle.syntax.specs.Elements.{flag, sameℕ, is_set, one_if, or_else}
use Rattle.syntax.proofs.Elements.{absent}
use Rattle.syntax.specs.Facts.{Facts, facts}
use Rattle.syntax.specs.Lists.{many, none, not-true}
use Rattle.syntax.specs.Round.{and_parts, refusal_parts}
use Rattle.syntax.specs.Syntax.{◌>>=◌, symbols_for, refusal_for, canonical_for}

-- ---- 7
neither : (a b : Bool) → (not a && not b) ≡ true → (a || b) ≡ false
neither true b e = absurd (not-true e)
neither false true e = absurd (not-true e)
neither false false e = refl

-- ---- 26
-- a flag that was read is at most 1, and so is one that was inferred
low-flag : (v : ℕ) → ltb v 2 ≡ true → ltb 1 v ≡ false
low-flag v e = le-ltb 1 v (omega (arith, ltb-true v 2 e))

low-or-inferred : (on : Bool) (value n v : ℕ) → value < 2 → (or_else on flag (absent sameℕ value n)).canonical v ≡ true → ltb 1 v ≡ false
unfolding or_else
low-or-inferred true value n v l c = low-flag v c
low-or-inferred false value n v l c = le-ltb 1 v (omega (arith, eqb-true v value c))

block_flags : (W H present : ℕ) (b : PartitionBlock) (bs : List PartitionBlock) → refusal_for (partition W H) b ≡ 0 → canonical_for (partition W H) b ≡ true → flag_over1 (partition_record present (b ∷ bs)) ≡ false
unfolding partition Facts ◌>>=◌ flag_over1 partition_record
block_flags W H present b bs h c =
    let f = (facts (partition W H) b h c).1.1.1.1.1.1.1.1.1.1.1.1.1.1.1 in
    let several : Bool = ltb 1 (tiles (tile_grid W H b.pps_log2_ctu_size_minus5 b.pps_tile_column_width_minus1 b.pps_tile_row_height_minus1)) in
    let sliced : Bool = coded b.pps_rect_slice_flag b.pps_single_slice_per_subpic_flag in
    let N : ℕ = b.pps_num_slices_in_pic_minus1 in
    rw (
      low-or-inferred several 0 0 b.pps_loop_filter_across_tiles_enabled_flag (lit< tt) f.0.1,
      low-or-inferred several 1 26 b.pps_rect_slice_flag (lit< tt) f.1.0.1,
      low-or-inferred (is_set b.pps_rect_slice_flag) 0 0 b.pps_single_slice_per_subpic_flag (lit< tt) f.1.1.0.1,
      low-or-inferred (sliced && ltb 1 N) 0 0 b.pps_tile_idx_delta_present_flag (lit< tt) f.1.1.1.1.0.1,
      low-or-inferred (not (sliced && eqb N 0)) 0 0 b.pps_loop_filter_across_slices_enabled_flag (lit< tt) f.1.1.1.1.1.1.0.1,
    )

partition_flags : (parted : Bool) (W H present : ℕ) (bs : List PartitionBlock) → refusal_in ((or_else parted (many 1 (partition_element W H) 26) (none 0)).symbols bs) ≡ 0
    → (or_else parted (many 1 (partition_element W H) 26) (none 0)).canonical bs ≡ true → flag_over1 (partition_record present bs) ≡ false
unfolding or_else many flag_over1 partition_record
partition_flags parted W H present [] h c = refl
partition_flags true W H present (b ∷ bs) h c = block_flags W H present b bs (refusal_parts (symbols_for (partition W H) b) _ h).0 (and_parts (canonical_for (partition W H) b) _ c).0
partition_flags false W H present (b ∷ bs) h c = absurd (not-true c)

-- the block is present exactly where the no-partition flag is 0
present_where : (present unpartitioned : ℕ) → eqb present (one_if (eqb unpartitioned 0)) ≡ true → beq (is_set present) (is_set unpartitioned) ≡ false
present_where present unpartitioned e = split (eqb unpartitioned 0) (eqb-true present _ e)
  where
    split : (parted : Bool) → present ≡ one_if parted → beq (is_set present) (not parted) ≡ false
    split true q = rw q
    split false q = rw q

and-false : (a : Bool) → (a && false) ≡ false
and-false true = refl
and-false false = refl

-- ---- all
module _ (r : Pps) (h : refusal_for pps r ≡ 0) (c : canonical_for pps r ≡ true) (fit : ListsFit r) (t : Lent) (long : Long t) (first bits : ℕ) where
  lent-passes : not (tables_long (filled r t) && counts_fit (record_of r first bits) (filled r t)) ≡ false
  lent-passes =
      let few = set-few r h c fit in
      rw (filled-long r t long fit.subpic_ids_lem few, filled-fit r t first bits long fit.subpic_ids_lem few)

  flags_pass : (is_set (partition_record r.partition_present r.partition).present && flag_over1 (partition_record r.partition_present r.partition)) ≡ false
  unfolding pps Facts ◌>>=◌
  flags_pass =
      let f = (facts pps r h c).1.1.0 in
      rw (partition_flags (partitioned r.front.kind) (pic_width r.front) (pic_height r.front) r.partition_present r.partition f.0 f.1) (and-false (is_set (partition_record r.partition_present r.partition).present))

  presence-passes : beq (is_set (partition_record r.partition_present r.partition).present) (is_set r.front.kind.pps_no_pic_partition_flag) ≡ false
  unfolding pps Facts ◌>>=◌
  presence-passes =
      rw (present-back r.partition_present r.partition) (present_where r.partition_present r.front.kind.pps_no_pic_partition_flag (facts pps r h c).1.0.1)

  pub tests-pass : first_bad (record_checks (record_of r first bits) (filled r t)) ≡ fine
  unfolding record_checks record_of AllPass pps front head kind Facts ◌>>=◌
  tests-pass =
      let f = (facts pps r h c).0 in
      let a = facts front r.front f.0 f.1 in
      let size = (facts head r.front.head a.0.0 a.0.1).1.1.1.1.1.1.0 in
      let unpartitioned = (facts kind r.front.kind a.1.1.1.0.0 a.1.1.1.0.1).1.0.1 in
      passed (record_checks (record_of r first bits) (filled r t))
      (lent-passes
      ⨟ neither (eqb (pic_width r.front) 0) (eqb (pic_height r.front) 0) size
      ⨟ low-flag r.front.kind.pps_no_pic_partition_flag unpartitioned
      ⨟ flags_pass
      ⨟ presence-passes
      ⨟ tt)
