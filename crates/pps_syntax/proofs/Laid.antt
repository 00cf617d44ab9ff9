-- A partition block whose writing is refused nowhere and that reading could have given is accepted: the questions give it a layout. So is every block that was read.
use Rattle.std.proofs.Math.Bool.{and-false}
use Rattle.std.specs.Prelude.{ℕ, suc, ◌-◌, ◌/◌, ◌<◌, ◌≡◌, refl, List, [], ◌∷◌, map, Bool, true, false, not, ◌&&◌, eqb, ltb, leb, length}
use Rattle.std.proofs.Common.{lit<, ltb-true, eqb-true, le-ltb}
use Rattle.std.proofs.lemmas.Bool.{lt-leb}
use Rattle.codes.specs.Symbols.{refusal_in, check}
use Rattle.partition.specs.Accepted.{Accepted, without-slices, with_slices, walk_of}
use Rattle.partition.specs.Checks.{AllPass, passed, pass-both}
use Rattle.partition.specs.Entry.{first_position, asking}
use Rattle.partition.specs.Grid.{tiles, max_tile_columns, max_tiles, max_slices_minus1}
use Rattle.partition.specs.Groups.{Group}
use Rattle.partition.specs.Partition.{in_ctbs, explicit_checks, axis_checks, grid_checks, grid_of, grid_checks_of, slices_coded, delta_flag_checks, partition_checks, from_walk, unless, layout}
use Rattle.partition.specs.Sizes.{sum, explicit_sizes, axis_sizes}
use Rattle.partition.specs.Walk.{placed}
use Rattle.pps_syntax.specs.EntryAccepted.{all-below}
use Rattle.pps_syntax.specs.PartitionSyntax.{PartitionBlock, some, coded, partition, partition_of}
use Rattle.pps_syntax.specs.SameTests.{passes, not_within, twice, ◌⨟◌}
use Rattle.pps_syntax.specs.SliceSyntax.{RectSlice, entry_of}
use Rattle.pps_syntax.proofs.WalkAccepted.{slices-accepted}
use Rattle.syntax.specs.Element.{Element}
use Rattle.syntax.specs.Elements.{u, flag, ue, limited, sameℕ, or_else, is_set, check-held}
use Rattle.syntax.proofs.Elements.{flag_if, absent}
use Rattle.syntax.specs.Facts.{Facts, facts}
use Rattle.syntax.specs.Lists.{none, not-true}
use Rattle.syntax.specs.Round.{and_parts, refusal_parts}
use Rattle.syntax.specs.Syntax.{◌>>=◌, refusal_for, canonical_for}
use Rattle.pps_syntax.specs.Laid.{slices-coded}

-- ---- from an element that was accepted to a check that passes
-- a number up to a limit
limited-within : (e : Element ℕ) (limit v n : ℕ) (l : 0 < n) → refusal_in ((limited e (λ x. leb x limit) n l).symbols v) ≡ 0 → ltb limit v ≡ false
limited-within e limit v n l h =
    passes (leb v limit) (ltb limit v) (not_within v limit) (check-held (leb v limit) n l (refusal_parts (check (leb v limit) n) (e.symbols v) h).0)

-- one tile: the slices are rectangular
one-tile : (tiles rect : ℕ) → refusal_in ((or_else (ltb 1 tiles) flag (absent sameℕ 1 26)).symbols rect) ≡ 0 → (leb tiles 1 && not (is_set rect)) ≡ false
unfolding or_else
one-tile tiles rect h = split (ltb 1 tiles) refl h
  where
    split : (several : Bool) → ltb 1 tiles ≡ several → refusal_in ((or_else several flag (absent sameℕ 1 26)).symbols rect) ≡ 0 → (leb tiles 1 && not (is_set rect)) ≡ false
    split true e h = rw (lt-leb tiles 1 (ltb-true 1 tiles e))
    split false e h = rw (eqb-true rect 1 (check-held (eqb rect 1) 26 (lit< tt) h)) (and-false (leb tiles 1))

-- a delta flag is set only with N over 1
delta-flag : (N d : ℕ) → (flag_if (ltb 1 N)).canonical d ≡ true → (is_set d && ltb N 2) ≡ false
unfolding or_else
delta-flag N d c = split (ltb 1 N) refl c
  where
    split : (several : Bool) → ltb 1 N ≡ several → (flag_if several).canonical d ≡ true → (is_set d && ltb N 2) ≡ false
    split true e c = rw (le-ltb N 2 (ltb-true 1 N e)) (and-false (is_set d))
    split false e c = rw c

no-entries : (rs : List RectSlice) → (none 26).canonical rs ≡ true → not (eqb (length (map entry_of rs)) 0) ≡ false
no-entries [] c = refl
no-entries (r ∷ rs) c = absurd (not-true c)

-- ---- the block
-- its facts, as the checks ask for them
record Passing (W H : ℕ) (r : PartitionBlock) (on : Bool) : Type 0 where
  grid : AllPass (grid_checks_of (partition_of W H r))
  rectangular : (leb (tiles (grid_of (partition_of W H r))) 1 && not (is_set r.pps_rect_slice_flag)) ≡ false
  few : on ≡ true → ltb max_slices_minus1 r.pps_num_slices_in_pic_minus1 ≡ false
  deltas : on ≡ true → (is_set r.pps_tile_idx_delta_present_flag && ltb r.pps_num_slices_in_pic_minus1 2) ≡ false
  walk : on ≡ true → (ps : List Group) × (walk_of (partition_of W H r) ≡ placed ps)
  no-slices : on ≡ false → not (eqb (length (map entry_of r.rect_slices)) 0) ≡ false

passing : (W H : ℕ) (r : PartitionBlock) → refusal_for (partition W H) r ≡ 0 → canonical_for (partition W H) r ≡ true
    → Passing W H r (coded r.pps_rect_slice_flag r.pps_single_slice_per_subpic_flag)
unfolding partition Facts ◌>>=◌ grid_checks_of grid_checks explicit_checks axis_checks grid_of partition_of AllPass or_else
passing W H r h c =
    let f = facts (partition W H) r h c in
    let sizes = f.1.1.1.1.1 in
    let sums = sizes.1.1 in
    let flags = sums.1.1.1.1.1.1.1.1 in
    let slices = flags.1.1.1 in
    let ctu : ℕ = r.pps_log2_ctu_size_minus5 in
    let ws : List ℕ = r.pps_tile_column_width_minus1 in
    let hs : List ℕ = r.pps_tile_row_height_minus1 in
    let w : ℕ = in_ctbs W ctu in
    let v : ℕ = in_ctbs H ctu in
    let N : ℕ = r.pps_num_slices_in_pic_minus1 in
    let d : ℕ = r.pps_tile_idx_delta_present_flag in
    let there = and_parts (some ws) (some hs) (check-held (some ws && some hs) 10 (lit< tt) f.1.0) in
    record {
      grid =
          limited-within (u 2 0) 2 ctu 9 (lit< tt) f.0.0
          ⨟ passes (some ws) (eqb (length ws) 0) (twice (eqb (length ws) 0)) there.0
          ⨟ passes (some hs) (eqb (length hs) 0) (twice (eqb (length hs) 0)) there.1
          ⨟ all-below (suc (length ws - 1)) w ws 11 10 (lit< tt) (lit< tt) sizes.0.0
          ⨟ all-below (suc (length hs - 1)) v hs 11 10 (lit< tt) (lit< tt) sizes.1.0.0
          ⨟ within (sum (explicit_sizes ws)) w sums.0
          ⨟ within (length (axis_sizes ws w)) max_tile_columns sums.1.1.0
          ⨟ within (sum (explicit_sizes hs)) v sums.1.1.1.1.0
          ⨟ within (length (axis_sizes hs v)) (max_tiles / length (axis_sizes ws w)) sums.1.1.1.1.1.1.0
          ⨟ tt;
      rectangular = one-tile (tiles (grid_of (partition_of W H r))) r.pps_rect_slice_flag flags.1.0.0;
      few = λ on. limited-within ue max_slices_minus1 N 14 (lit< tt) (rw on at slices.0.0);
      deltas = λ on. delta-flag N d (rw on at slices.1.0.1);
      walk = λ on. slices-accepted (grid_of (partition_of W H r)) (is_set d) N first_position r.rect_slices (rw on at slices.1.1.0.0) (rw on at slices.1.1.0.1);
      no-slices = λ off. no-entries r.rect_slices (rw off at slices.1.1.0.1);
    }
  where
    within : (x limit : ℕ) → leb x limit ≡ true → ltb limit x ≡ false
    within x limit e = passes (leb x limit) (ltb limit x) (not_within x limit) e

-- the checks before the slice loop, and the layout behind them
checks-pass : (W H : ℕ) (r : PartitionBlock) (on : Bool) → slices_coded (partition_of W H r) ≡ on → Passing W H r on → AllPass (partition_checks asking (partition_of W H r))
unfolding partition_checks delta_flag_checks partition_of AllPass
checks-pass W H r true e p = rw e (pass-both (grid_checks_of (partition_of W H r)) _ p.grid (p.rectangular ⨟ p.few refl ⨟ p.deltas refl ⨟ tt))
checks-pass W H r false e p = rw e (pass-both (grid_checks_of (partition_of W H r)) _ p.grid (p.rectangular ⨟ p.no-slices refl ⨟ tt))

laid_out : (W H : ℕ) (r : PartitionBlock) (on : Bool) → slices_coded (partition_of W H r) ≡ on → Passing W H r on → Accepted (partition_of W H r)
unfolding layout unless from_walk
laid_out W H r true e p = let w = p.walk refl in with_slices w.0 (rw (passed _ (checks-pass W H r true e p), e, w.1))
laid_out W H r false e p = without-slices (rw (passed _ (checks-pass W H r false e p), e))

-- A block whose writing is refused nowhere and that reading could have given is accepted.
pub block-accepted : (W H : ℕ) (r : PartitionBlock) → refusal_for (partition W H) r ≡ 0 → canonical_for (partition W H) r ≡ true → Accepted (partition_of W H r)
block-accepted W H r h c = laid_out W H r (coded r.pps_rect_slice_flag r.pps_single_slice_per_subpic_flag) (slices-coded W H r) (passing W H r h c)
