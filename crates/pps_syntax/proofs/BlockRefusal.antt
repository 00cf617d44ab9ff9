-- The partition block: writing it by the description refuses with the number with which the definitions of tiles and slices decline it, in writing's order.
use Prim.Native.Nat.{ℕ, zero, suc, ◌-◌, ◌/◌, ◌≤◌, ◌<◌}
use Rattle.std.specs.Prelude.{◌≡◌, refl, Bool, true, false, cond, ◌&&◌, eqb, ltb, leb, get_or}
use Rattle.std.proofs.Math.Path.{sym}
use Rattle.std.proofs.Common.{◌∙◌, div-le_self, arith, lit<, ltb-true, ltb-false, ne_eqb, le-leb}
use mathlib.Core.List.{List, [], ◌∷◌, ◌++◌, map}
use Rattle.std.proofs.Math.Bool.{not}
use Rattle.std.proofs.Math.ListN.{length}
use Rattle.std.proofs.lemmas.Bool.{eqb-false, lt-leb}
use Rattle.codes.specs.Bits.{to_bits}
use Rattle.codes.specs.Symbols.{Symbol, refusal_in, check, refusal-putting, refusal-check}
use Rattle.partition.proofs.Axis.{span-one, span_le}
use Rattle.partition.specs.Checks.{Check, refuse, refused_with, first_bad}
use Rattle.partition.specs.Entry.{first_position, writing, tile_y, tile_row_height, some_at_least}
use Rattle.partition.specs.Grid.{Grid, tiles, max_tile_columns, max_tiles, max_slices_minus1}
use Rattle.partition.specs.Partition.{in_ctbs, tile_grid, explicit_checks, axis_checks, grid_checks, grid_of, grid_checks_of, slices_coded, delta_flag_checks, partition_checks, Layout, unsliced, from_walk, unless, layout}
use Rattle.partition.specs.Sizes.{sum, explicit_sizes, axis_sizes}
use Rattle.partition.proofs.Sizes.{sum-sizes}
use Rattle.partition.specs.Walk as walks
use Rattle.partition.specs.Walk.{Walked, refused, placed}
use Rattle.pps_syntax.specs.EntryRefusal.{Codable}
use Rattle.pps_syntax.specs.Laid.{slices-coded}
use Rattle.pps_syntax.specs.PartitionSyntax.{PartitionBlock, some, coded, partition, partition_of}
use Rattle.pps_syntax.specs.RefusalSteps.{first_number, number-none, ends, step, quiet, then_quiet, check-refuses, ue-quiet, limited-refuses, many-refuses, or_quiet, no_number, absent-quiet}
use Rattle.pps_syntax.specs.SameTests.{not_within, twice}
use Rattle.pps_syntax.specs.SliceSyntax.{RectSlice, entry_of, rect_slices}
use Rattle.pps_syntax.specs.WalkRefusal.{walk_refusal, Deltas32}
use Rattle.pps_syntax.proofs.WalkRefusal.{slices-refusal}
use Rattle.syntax.specs.Elements.{u, flag, ue, limited, sameℕ, or_else, is_set, checked-refusal}
use Rattle.syntax.proofs.Elements.{flag_if, absent}
use Rattle.syntax.specs.Lists.{many, none, not-true}
use Rattle.syntax.specs.Syntax.{◌>>=◌, symbols_for, refusal_for}
use Rattle.pps_syntax.specs.BlockRefusal.{declined_with, Numbers32, ctbs_most}

unless-number : (cs : List Check) (l : Layout) → declined_with (unless (first_bad cs) l) ≡ first_number cs (declined_with l)
unfolding first_bad first_number unless declined_with
unless-number [] l = refl
unless-number (c ∷ cs) l = split c.bad (unless-number cs l)
  where
    split : (b : Bool) → declined_with (unless (first_bad cs) l) ≡ first_number cs (declined_with l)
        → declined_with (unless (cond b (refused_with c.number) (first_bad cs)) l) ≡ cond b c.number (first_number cs (declined_with l))
    split true ih = refl
    split false ih = ih

walk-number : (g : Grid) (w : Walked) → declined_with (from_walk g w) ≡ walk_refusal w
unfolding from_walk declined_with walk_refusal
walk-number g (refused n) = refl
walk-number g (placed ps) = refl

-- ---- elements of the block
flag-quiet : (v : ℕ) → refusal_in (flag.symbols v) ≡ 0
flag-quiet v = refusal-putting (cond (eqb v 0) 0 1 ∷ [])

flag_if_quiet : (on : Bool) (v : ℕ) → refusal_in ((flag_if on).symbols v) ≡ 0
flag_if_quiet on v = or_quiet on flag (absent sameℕ 0 0) v (λ _. flag-quiet v) (absent-quiet sameℕ 0 v)

ctu-refuses : (v : ℕ) → refusal_in ((limited (u 2 0) (λ x. leb x 2) 9 (lit< tt)).symbols v) ≡ cond (ltb 2 v) 9 0
ctu-refuses v = limited-refuses (u 2 0) (λ x. leb x 2) 9 v (lit< tt) (ltb 2 v) (not_within v 2) (λ _. checked-refusal (ltb v 4) 0 (to_bits 2 v) ∙ no_number (ltb v 4))

-- one tile: 1 is inferred
rect-refuses : (tiles rect : ℕ) → rect < 2 → refusal_in ((or_else (ltb 1 tiles) flag (absent sameℕ 1 26)).symbols rect) ≡ cond (leb tiles 1 && not (is_set rect)) 26 0
unfolding or_else
rect-refuses tiles rect h = split (ltb 1 tiles) refl
  where
    only : (v : ℕ) → v < 2 → not (eqb v 1) ≡ not (is_set v)
    only zero l = refl
    only (suc zero) l = refl
    only (suc (suc v)) l = absurd (omega arith)

    split : (several : Bool) → ltb 1 tiles ≡ several → refusal_in ((or_else several flag (absent sameℕ 1 26)).symbols rect) ≡ cond (leb tiles 1 && not (is_set rect)) 26 0
    split true e = rw (lt-leb tiles 1 (ltb-true 1 tiles e)) (flag-quiet rect)
    split false e = rw (le-leb tiles 1 (ltb-false 1 tiles e)) (check-refuses (eqb rect 1) 26 (not (is_set rect)) (only rect h))

-- two tests at once
both-refuse : (a b : Bool) (n : ℕ) (ys : List Symbol) (cs : List Check) (behind : ℕ) → 0 < n → (a ≡ false → b ≡ false → refusal_in ys ≡ first_number cs behind)
    → refusal_in (check (not a && not b) n ++ ys) ≡ first_number (refuse n a ∷ refuse n b ∷ cs) behind
unfolding first_number
both-refuse true b n ys cs m l k = step (check false n) ys n true cs m l (refusal-check false n) (λ e. absurd (not-true (sym e)))
both-refuse false b n ys cs m l k = step (check (not b) n) ys n b cs m l (check-refuses (not b) n b (twice b)) (λ e. k refl e)

-- ---- the numbers

-- a row is no higher than the picture
row-most : (ss : List ℕ) (c : ℕ) → get_or ss c 0 ≤ sum ss
row-most ss c = omega (arith, span-one ss c, span_le ss c 1)

-- a grid that passed 12 and 13
grid-codable : (W H ctu : ℕ) (ws hs : List ℕ) → H < 4294967296 → ltb max_tile_columns (length (axis_sizes ws (in_ctbs W ctu))) ≡ false
    → ltb (in_ctbs H ctu) (sum (explicit_sizes hs)) ≡ false → ltb (max_tiles / length (axis_sizes ws (in_ctbs W ctu))) (length (axis_sizes hs (in_ctbs H ctu))) ≡ false
    → Codable (tile_grid W H ctu ws hs)
unfolding tile_grid tile_row_height
grid-codable W H ctu ws hs l a b c =
    let h : ℕ = in_ctbs H ctu in
    let few : length (axis_sizes ws (in_ctbs W ctu)) ≤ max_tile_columns = ltb-false max_tile_columns (length (axis_sizes ws (in_ctbs W ctu))) a in
    let low : length (axis_sizes hs h) ≤ max_tiles / length (axis_sizes ws (in_ctbs W ctu)) = ltb-false (max_tiles / length (axis_sizes ws (in_ctbs W ctu))) (length (axis_sizes hs h)) c in
    let all : sum (axis_sizes hs h) ≡ h = sum-sizes hs h (ltb-false h (sum (explicit_sizes hs)) b) in
    record {
      few-columns = omega arith;
      few-rows = omega (arith, div-le_self max_tiles (length (axis_sizes ws (in_ctbs W ctu))));
      low_rows = λ t. omega (arith, ctbs_most H ctu, row-most (axis_sizes hs h) (tile_y (length (axis_sizes ws (in_ctbs W ctu))) t));
    }

-- explicit sizes on an axis
sizes-refuse : (total : ℕ) (vs : List ℕ) → (length vs ≡ 0 → ⊥) → total ≤ 4294967295
    → refusal_in ((many (suc (length vs - 1)) (limited ue (λ v. ltb v total) 11 (lit< tt)) 10).symbols vs) ≡ cond (some_at_least total vs) 11 0
sizes-refuse total vs some h =
    let all : suc (length vs - 1) ≡ length vs = omega arith in
    rw all (many-refuses total 11 10 (lit< tt) vs h)

-- ---- the slices
-- from N on, where slices are coded and where not
tail-refusal : (g : Grid) → Codable g → (on : Bool) (N d z : ℕ) (rs : List RectSlice) → Deltas32 rs
    → refusal_in ((or_else on (limited ue (λ v. leb v max_slices_minus1) 14 (lit< tt)) (absent sameℕ 0 0)).symbols N
    ++ ((flag_if (on && ltb 1 N)).symbols d
    ++ ((or_else on (rect_slices g (is_set d) N first_position) (none 26)).symbols rs
    ++ ((flag_if (not (on && eqb N 0))).symbols z ++ []))))
    ≡ first_number (cond on (refuse 14 (ltb max_slices_minus1 N) ∷ []) (refuse 26 (not (eqb (length (map entry_of rs)) 0)) ∷ []))
    (declined_with (cond on (from_walk g (walks.walk writing g (is_set d) N first_position (map entry_of rs))) (unsliced g)))
unfolding or_else declined_with
tail-refusal g fit true N d z rs s =
    step _ _ 14 (ltb max_slices_minus1 N) [] _ (lit< tt)
    (limited-refuses ue (λ v. leb v max_slices_minus1) 14 N (lit< tt) (ltb max_slices_minus1 N) (not_within N max_slices_minus1) (λ q. ue-quiet N (omega (arith, ltb-false max_slices_minus1 N q))))
    (λ _. quiet _ _ _ (flag_if_quiet (ltb 1 N) d)
    (then_quiet ((rect_slices g (is_set d) N first_position).symbols rs) _ _ (quiet _ _ _ (flag_if_quiet (not (eqb N 0)) z) (refusal-putting []))
    (slices-refusal g fit (is_set d) N first_position rs s ∙ sym (walk-number g _) ∙ number-none _)))
tail-refusal g fit false N d z rs s =
    quiet _ _ _ (absent-quiet sameℕ 0 N)
    (quiet _ _ _ (absent-quiet sameℕ 0 d)
    (step _ _ 26 (not (eqb (length (map entry_of rs)) 0)) [] 0 (lit< tt) (no-entries rs)
    (λ _. quiet _ _ _ (flag_if_quiet true z) ends)))
  where
    no-entries : (rs : List RectSlice) → refusal_in ((none 26).symbols rs) ≡ cond (not (eqb (length (map entry_of rs)) 0)) 26 0
    no-entries [] = refusal-putting []
    no-entries (r ∷ rs) = refusal-check false 26 ∙ rw (ne_eqb (suc (length (map entry_of rs))) 0 (λ e. omega arith))

-- ---- the block

module _ (W H : ℕ) (r : PartitionBlock) (small : Numbers32 W H r) where
  checks-refusal : refusal_for (partition W H) r
      ≡ first_number (partition_checks writing (partition_of W H r))
      (declined_with (cond (slices_coded (partition_of W H r)) (from_walk (grid_of (partition_of W H r)) (walks.walk writing (grid_of (partition_of W H r)) (partition_of W H r).deltas (partition_of W H r).N first_position (partition_of W H r).entries)) (unsliced (grid_of (partition_of W H r)))))
  unfolding partition symbols_for ◌>>=◌ partition_checks grid_checks_of grid_checks explicit_checks axis_checks delta_flag_checks grid_of partition_of
  checks-refusal =
      let ctu : ℕ = r.pps_log2_ctu_size_minus5 in
      let ws : List ℕ = r.pps_tile_column_width_minus1 in
      let hs : List ℕ = r.pps_tile_row_height_minus1 in
      let w : ℕ = in_ctbs W ctu in
      let h : ℕ = in_ctbs H ctu in
      let cs : ℕ = length (axis_sizes ws w) in
      let g : Grid = tile_grid W H ctu ws hs in
      let rect : ℕ = r.pps_rect_slice_flag in
      let single : ℕ = r.pps_single_slice_per_subpic_flag in
      rw (slices-coded W H r)
      (step _ _ 9 (ltb 2 ctu) _ _ (lit< tt) (ctu-refuses ctu)
      (λ _. both-refuse (eqb (length ws) 0) (eqb (length hs) 0) 10 _ _ _ (lit< tt)
      (λ a b. quiet _ _ _ (ue-quiet (length ws - 1) (omega (arith, small.columns)))
      (quiet _ _ _ (ue-quiet (length hs - 1) (omega (arith, small.rows)))
      (step _ _ 11 (some_at_least w ws) _ _ (lit< tt) (sizes-refuse w ws (eqb-false (length ws) 0 a) (omega (arith, ctbs_most W ctu, small.width)))
      (λ _. step _ _ 11 (some_at_least h hs) _ _ (lit< tt) (sizes-refuse h hs (eqb-false (length hs) 0 b) (omega (arith, ctbs_most H ctu, small.height)))
      (λ _. step _ _ 12 (ltb w (sum (explicit_sizes ws))) _ _ (lit< tt) (check-refuses (leb (sum (explicit_sizes ws)) w) 12 _ (not_within (sum (explicit_sizes ws)) w))
      (λ _. step _ _ 13 (ltb max_tile_columns cs) _ _ (lit< tt) (check-refuses (leb cs max_tile_columns) 13 _ (not_within cs max_tile_columns))
      (λ few. step _ _ 12 (ltb h (sum (explicit_sizes hs))) _ _ (lit< tt) (check-refuses (leb (sum (explicit_sizes hs)) h) 12 _ (not_within (sum (explicit_sizes hs)) h))
      (λ fits. step _ _ 13 (ltb (max_tiles / cs) (length (axis_sizes hs h))) _ _ (lit< tt) (check-refuses (leb (length (axis_sizes hs h)) (max_tiles / cs)) 13 _ (not_within (length (axis_sizes hs h)) (max_tiles / cs)))
      (λ low. quiet _ _ _ (flag_if_quiet (ltb 1 (tiles g)) r.pps_loop_filter_across_tiles_enabled_flag)
      (step _ _ 26 (leb (tiles g) 1 && not (is_set rect)) _ _ (lit< tt) (rect-refuses (tiles g) rect small.rect)
      (λ _. quiet _ _ _ (flag_if_quiet (is_set rect) single)
      (tail-refusal g (grid-codable W H ctu ws hs small.height few fits low) (coded rect single) r.pps_num_slices_in_pic_minus1 r.pps_tile_idx_delta_present_flag r.pps_loop_filter_across_slices_enabled_flag r.rect_slices small.deltas))))))))))))))

  -- Writing the block by the description refuses with the number with which its layout is declined in writing, and with none where it is not.
  pub block-refusal : refusal_for (partition W H) r ≡ declined_with (layout writing (partition_of W H r))
  unfolding layout
  block-refusal = checks-refusal ∙ sym (unless-number (partition_checks writing (partition_of W H r)) _)
