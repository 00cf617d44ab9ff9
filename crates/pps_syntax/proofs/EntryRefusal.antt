-- One entry of the slice loop: writing it by the description refuses with the number of the first check that fails, in the order of the one list of checks.
use Prim.Native.Nat.{ℕ, ◌+◌, ◌-◌, ◌*◌, ◌<◌}
use Rattle.std.specs.Prelude.{◌≡◌, refl, List, ◌++◌, true, false, cond, ◌&&◌, ◌||◌, pos, negsuc, length}
use Rattle.std.proofs.Common.{◌∙◌, arith, lit<, SFits}
use Rattle.std.proofs.Math.Bool.{Bool, not}
use Rattle.std.specs.Bool.{beq}
use Rattle.std.proofs.Math.Dec.{ltb, leb}
use Rattle.std.proofs.Math.IntN.{ℤ}
use Rattle.std.specs.Int.{w32}
use borrow.Author.Tests.{leb-true, leb-false, lt-ltb, le-ltb, not-false}
use Rattle.codes.specs.ExpGolomb.{code_num, se_code}
use Rattle.codes.specs.Coded.{se_symbols}
use Rattle.codes.specs.Symbols.{refusal_in}
use Rattle.partition.specs.Entry.{Position, writing, tile_x, tile_y, width_coded, height_coded, split_coded, last_slice_of, some_at_least, default_advance, delta_refused, delta_uncodable, size_checks, inherited_checks, split_checks, move_checks, entry_checks}
use Rattle.partition.specs.Grid.{Grid, columns, rows, tiles}
use Rattle.partition.specs.Sizes.{sum, explicit_sizes}
use Rattle.partition.specs.Walk.{row_height_of, checks_at}
use Rattle.pps_syntax.specs.RefusalSteps.{first_number, ends, step, quiet, check-refuses, ue-quiet, below-refuses, many-refuses, or-refuses, or_quiet, absent-quiet, none-quiet}
use Rattle.pps_syntax.specs.SameTests.{not-under, not_within, not_where, twice, not-inside, same_flag}
use Rattle.pps_syntax.specs.SliceSyntax.{RectSlice, entry_of, slice_move, slice_split, slice_height, rect_slice}
use Rattle.syntax.specs.Elements.{ue, se, sameℕ, sameℤ, is_set, checked-refusal}
use Rattle.syntax.proofs.Elements.{absent}
use Rattle.syntax.specs.Syntax.{◌>>=◌, symbols_for, refusal_for}
use Rattle.pps_syntax.specs.EntryRefusal.{Codable}

-- of the numbers of 32 bits, −2147483648 has no code
pub se-refuses : (v : ℤ) → SFits w32 v → refusal_in (se_symbols v) ≡ cond (delta_uncodable v) 25 0
unfolding code_num delta_uncodable
se-refuses (pos k) h =
    let l : k < 2147483648 = h.sfits in
    checked-refusal (ltb (code_num (pos k)) 4294967295) 25 (se_code (pos k)) ∙ rw (lt-ltb (2 * k - 1) 4294967295 (omega arith))
se-refuses (negsuc k) h = checked-refusal (ltb (code_num (negsuc k)) 4294967295) 25 (se_code (negsuc k)) ∙ split (leb 2147483647 k) refl
  where
    split : (b : Bool) → leb 2147483647 k ≡ b → ◌≡◌ {A = ℕ} (cond (ltb (2 * (k + 1)) 4294967295) 0 25) (cond b 25 0)
    split true e = rw (le-ltb (2 * (k + 1)) 4294967295 (omega (arith, leb-true 2147483647 k e)))
    split false e = rw (lt-ltb (2 * (k + 1)) 4294967295 (omega (arith, leb-false 2147483647 k e)))

module _ (g : Grid) (fit : Codable g) (deltas : Bool) (N : ℕ) (k : Position) (r : RectSlice) (small : SFits w32 r.pps_tile_idx_delta_val) where
  abbrev w : ℕ
  w = r.pps_slice_width_in_tiles_minus1

  abbrev v : ℕ
  v = r.pps_slice_height_in_tiles_minus1

  abbrev hs : List ℕ
  hs = r.pps_exp_slice_height_in_ctus_minus1

  abbrev row : ℕ
  row = row_height_of g k.tile

  abbrev last : ℕ
  last = last_slice_of k.slice (entry_of r) row

  -- the delta or the default advance
  move-refusal : refusal_for (slice_move g deltas N k w v r.split_present hs) r ≡ first_number (move_checks (columns g) (tiles g) deltas (ltb last N) k.tile (entry_of r)) 0
  unfolding slice_move symbols_for ◌>>=◌ move_checks last_slice_of
  move-refusal =
      let t : ℕ = k.tile in
      let more : Bool = ltb last N in
      let on : Bool = deltas && more in
      let there : Bool = is_set r.delta_present in
      let d : ℤ = r.pps_tile_idx_delta_val in
      let bad : Bool = delta_refused (tiles g) t d in
      let next : ℕ = default_advance (columns g) t w v in
      step _ _ 26 (not (beq there on)) _ 0 (lit< tt) (check-refuses (beq there on) 26 _ refl)
      (λ q. rw (same_flag there on (not-false (beq there on) q))
      (step _ _ 25 (on && delta_uncodable d) _ 0 (lit< tt) (or-refuses on se (absent sameℤ (pos 0) 0) d 25 (delta_uncodable d) (λ _. se-refuses d small) (absent-quiet sameℤ (pos 0) d))
      (λ _. step _ _ 18 (on && bad) _ 0 (lit< tt) (check-refuses (not on || not bad) 18 _ (not_where on (not bad) bad (twice bad)))
      (λ _. step _ _ 19 (not deltas && (more && leb (tiles g) next)) _ 0 (lit< tt) (check-refuses (not (not deltas && more) || ltb next (tiles g)) 19 _ (not-inside deltas more next (tiles g)))
      (λ _. ends)))))

  -- the slices of a tile that is split, and what follows
  split-refusal : refusal_for (slice_split g deltas N k w v) r
      ≡ first_number (split_checks row N k.slice (entry_of r) ++ move_checks (columns g) (tiles g) deltas (ltb last N) k.tile (entry_of r)) 0
  unfolding slice_split symbols_for ◌>>=◌ split_checks last_slice_of
  split-refusal =
      let sp : Bool = split_coded w v row in
      let there : Bool = is_set r.split_present in
      let s : ℕ = sum (explicit_sizes hs) in
      step _ _ 26 (not (beq there sp)) _ 0 (lit< tt) (check-refuses (beq there sp) 26 _ refl)
      (λ _. step _ _ 16 (sp && leb row (length hs)) _ 0 (lit< tt) (or-refuses sp _ _ (length hs) 16 (leb row (length hs)) (λ _. below-refuses row 16 (length hs) (lit< tt) (fit.low_rows k.tile)) (absent-quiet sameℕ 0 (length hs)))
      (λ _. step _ _ 16 (sp && some_at_least row hs) _ 0 (lit< tt) (or-refuses sp _ _ hs 16 (some_at_least row hs) (λ _. many-refuses row 16 26 (lit< tt) hs (fit.low_rows k.tile)) (none-quiet hs))
      (λ _. step _ _ 16 (sp && ltb row s) _ 0 (lit< tt) (check-refuses (not sp || leb s row) 16 _ (not_where sp (leb s row) (ltb row s) (not_within s row)))
      (λ _. step _ _ 17 (ltb N last) _ 0 (lit< tt) (check-refuses (leb last N) 17 _ (not_within last N))
      (λ _. move-refusal)))))

  pub entry-refusal : refusal_for (rect_slice g deltas N k) r ≡ first_number (checks_at writing g deltas N k (entry_of r)) 0
  unfolding rect_slice slice_height symbols_for ◌>>=◌ entry_checks size_checks inherited_checks
  entry-refusal =
      let across : ℕ = columns g - tile_x (columns g) k.tile in
      let down : ℕ = rows g - tile_y (columns g) k.tile in
      step _ _ 15 (leb across w) _ 0 (lit< tt) (check-refuses (ltb w across) 15 (leb across w) (not-under w across))
      (λ wide. step _ _ 15 (leb down v) _ 0 (lit< tt) (check-refuses (ltb v down) 15 (leb down v) (not-under v down))
      (λ tall. quiet _ _ _ (or_quiet (width_coded (columns g) k.tile) ue (absent sameℕ 0 0) w (λ _. ue-quiet w (omega (arith, fit.few-columns, leb-false across w wide))) (absent-quiet sameℕ 0 w))
      (quiet _ _ _ (or_quiet (height_coded (columns g) (rows g) deltas k.tile) ue _ v (λ _. ue-quiet v (omega (arith, fit.few-rows, leb-false down v tall))) (absent-quiet sameℕ _ v))
      split-refusal)))
