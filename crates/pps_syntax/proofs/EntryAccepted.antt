-- One entry of the slice loop: where writing it is refused nowhere and reading could have given it, it passes every check of the questions.
use Prim.Native.Nat.{ℕ, ◌-◌, ◌<◌}
use Rattle.std.specs.Prelude.{◌≡◌, false, ◌&&◌, ◌||◌, eqb, pos, negsuc, length}
use Rattle.std.proofs.Math.Path.{refl}
use mathlib.Core.List.{List}
use Rattle.std.proofs.Math.Bool.{Bool, true, not, beq}
use Rattle.std.proofs.Common.{arith, lit<}
use Rattle.std.proofs.Math.Dec.{ltb, leb}
use Rattle.std.proofs.Math.IntN.{ℤ}
use Rattle.std.proofs.lemmas.Bool.{lt-leb}
use Rattle.codes.specs.ExpGolomb.{code_num}
use Rattle.codes.specs.Symbols.{refusal_in}
use Rattle.partition.specs.Checks.{AllPass}
use Rattle.partition.specs.Entry.{Position, asking, tile_x, tile_y, height_coded, inherited_height, split_coded, last_slice_of, some_at_least, default_advance, delta_refused, delta_uncodable, size_checks, inherited_checks, split_checks, move_checks, entry_checks}
use Rattle.partition.specs.Grid.{Grid, columns, rows, tiles}
use Rattle.partition.specs.Sizes.{sum, explicit_sizes}
use Rattle.partition.specs.Walk.{row_height_of, checks_at}
use Rattle.pps_syntax.specs.SameTests.{passes, not-under, not_within, not_where, twice, not-inside, same_flag, ◌⨟◌}
use Rattle.pps_syntax.specs.SliceSyntax.{RectSlice, entry_of, slice_move, slice_split, slice_height, rect_slice}
use Rattle.syntax.specs.Elements.{ue, se, limited, sameℕ, sameℤ, or_else, is_set, check-held, se_canon}
use Rattle.syntax.proofs.Elements.{absent}
use Rattle.syntax.specs.Facts.{Facts, facts}
use Rattle.syntax.specs.Lists.{many, none}
use Rattle.syntax.specs.Syntax.{◌>>=◌, refusal_for, canonical_for}
use Rattle.pps_syntax.specs.EntryAccepted.{limited-below, all-below}

-- ---- from an element that was accepted to a check that passes

-- the explicit slice heights, where the tile is split: their count, and each
few-heights : (split : Bool) (row n : ℕ) → refusal_in ((or_else split (limited ue (λ v. ltb v row) 16 (lit< tt)) (absent sameℕ 0 0)).symbols n) ≡ 0 → (split && leb row n) ≡ false
unfolding or_else
few-heights true row n h = limited-below row n 16 (lit< tt) h
few-heights false row n h = refl

low-heights : (split : Bool) (row k : ℕ) (vs : List ℕ) → refusal_in ((or_else split (many k (limited ue (λ v. ltb v row) 16 (lit< tt)) 26) (none 0)).symbols vs) ≡ 0
    → (split && some_at_least row vs) ≡ false
unfolding or_else
low-heights true row k vs h = all-below k row vs 16 26 (lit< tt) (lit< tt) h
low-heights false row k vs h = refl

-- an uncoded height is the inherited one
inherits : (coded : Bool) (value v : ℕ) → (or_else coded ue (absent sameℕ value 0)).canonical v ≡ true → (not coded && not (eqb v value)) ≡ false
unfolding or_else
inherits true value v e = refl
inherits false value v e = rw e

-- a delta with a code is not −2147483648
codable : (v : ℤ) → code_num v < 4294967295 → delta_uncodable v ≡ false
unfolding code_num delta_uncodable
codable (pos k) h = refl
codable (negsuc k) h = lt-leb 2147483647 k (omega arith)

delta-coded : (on : Bool) (v : ℤ) → refusal_in ((or_else on se (absent sameℤ (pos 0) 0)).symbols v) ≡ 0 → (on && delta_uncodable v) ≡ false
unfolding or_else
delta-coded true v h = codable v (se_canon v h)
delta-coded false v h = refl

-- ---- the entry

module _ (g : Grid) (deltas : Bool) (N : ℕ) (k : Position) (r : RectSlice) where
  pub entry-accepted : refusal_for (rect_slice g deltas N k) r ≡ 0 → canonical_for (rect_slice g deltas N k) r ≡ true → AllPass (checks_at asking g deltas N k (entry_of r))
  unfolding rect_slice slice_height slice_split slice_move Facts ◌>>=◌ entry_checks size_checks inherited_checks split_checks move_checks AllPass last_slice_of
  entry-accepted h c =
      let size = facts (rect_slice g deltas N k) r h c in
      let split = size.1.1.1.1.1.1 in
      let move = split.1.1.1.1.1.1.1.1 in
      let t : ℕ = k.tile in
      let across : ℕ = columns g - tile_x (columns g) t in
      let down : ℕ = rows g - tile_y (columns g) t in
      let row : ℕ = row_height_of g t in
      let w : ℕ = r.pps_slice_width_in_tiles_minus1 in
      let v : ℕ = r.pps_slice_height_in_tiles_minus1 in
      let hs : List ℕ = r.pps_exp_slice_height_in_ctus_minus1 in
      let s : ℕ = sum (explicit_sizes hs) in
      let sp : Bool = split_coded w v row in
      let sp-flag : Bool = beq (is_set r.split_present) sp in
      let last : ℕ = last_slice_of k.slice (entry_of r) row in
      let more : Bool = ltb last N in
      let on : Bool = deltas && more in
      let on-flag : Bool = beq (is_set r.delta_present) on in
      let d : ℤ = r.pps_tile_idx_delta_val in
      let bad : Bool = delta_refused (tiles g) t d in
      let next : ℕ = default_advance (columns g) t w v in
      let flagged : on-flag ≡ true = check-held on-flag 26 (lit< tt) move.0.0 in
      let there : is_set r.delta_present ≡ on = same_flag (is_set r.delta_present) on flagged in
      passes (ltb w across) (leb across w) (not-under w across) size.1.1.1.0
      ⨟ passes (ltb v down) (leb down v) (not-under v down) size.1.1.1.1.1.0
      ⨟ inherits (height_coded (columns g) (rows g) deltas t) (inherited_height (columns g) (rows g) t k.preceding_height_minus1) v size.1.1.1.1.0.1
      ⨟ passes sp-flag (not sp-flag) refl (check-held sp-flag 26 (lit< tt) split.0.0)
      ⨟ few-heights sp row (length hs) split.1.0.0
      ⨟ low-heights sp row (length hs) hs split.1.1.1.0.0
      ⨟ passes (not sp || leb s row) (sp && ltb row s) (not_where sp (leb s row) (ltb row s) (not_within s row)) split.1.1.1.1.0
      ⨟ passes (leb last N) (ltb N last) (not_within last N) split.1.1.1.1.1.1.0
      ⨟ passes on-flag (not on-flag) refl flagged
      ⨟ rw there (delta-coded on d move.1.0.0)
      ⨟ rw there (passes (not on || not bad) (on && bad) (not_where on (not bad) bad (twice bad)) move.1.1.0)
      ⨟ passes (not (not deltas && more) || ltb next (tiles g)) (not deltas && (more && leb (tiles g) next)) (not-inside deltas more next (tiles g)) move.1.1.1.1.0
      ⨟ tt
