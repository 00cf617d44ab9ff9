-- The way to the next tile, part by part.
use Rattle.std.specs.Prelude.{ℕ, ◌≤◌, ◌<◌, ◌≡◌, List, ◌++◌, Bool, true, false, ◌&&◌, not, cond, ltb, ℤ, Result, Ok, Err}
use Rattle.std.proofs.Common.{sym, ap, ◌∙◌, append-nil, arith, lit<, ltb-true}
use Rattle.std.specs.Bool.{beq}
use Rattle.codes.specs.Coded.{se_symbols, only_if}
use Rattle.codes.specs.Symbols.{Symbol, check}
use Rattle.refusal.specs.declared.Refusal.{Refusal}
use Rattle.refusal.specs.Numbers.{number, refused}
use Rattle.bit_writer.specs.Writing.{Writing, with_refusal}
use Rattle.bit_writer.specs.Stop.{play_on, on_then}
use Rattle.partition.specs.Entry.{tile_after_delta, delta_refused, default_advance}
use Rattle.slice_loop.specs.declared.TileIdx.{TileIdx}
use Rattle.slice_loop.specs.Answers.{tile_idx_of, next_by_delta}
use Rattle.slice_loop.specs.Laws.{held-tile, held_outside, delta-number, delta-tile}
use Rattle.syntax.specs.Elements.{is_set}
use Rattle.syntax.specs.Round.{and_parts}
use Rattle.pps_syntax.specs.SameTests.{not-under, twice}
use Rattle.pps_put_slices.specs.Parts.{move_symbols}
use Rattle.pps_put_slices.proofs.Answered.{renamed, answered_refused, answered_fine, fine_put}

inside-same : (tiles x : ℕ) → tiles ≤ 4294967295 → ltb (tile_idx_of x).0 tiles ≡ ltb x tiles
inside-same tiles x h =
    sym (twice (ltb (tile_idx_of x).0 tiles)) ∙ ap not (not-under (tile_idx_of x).0 tiles ∙ held_outside tiles x h ∙ sym (not-under x tiles)) ∙ twice (ltb x tiles)

move-by : (deltas more : Bool) (pre by on : List Symbol) → (deltas && more) ≡ true → pre ++ (only_if (deltas && more) by ++ only_if (not deltas && more) on) ≡ pre ++ by
move-by true more pre by on e = rw e (ap (λ (l : List Symbol). pre ++ l) (append-nil by))
move-by false more pre by on e = absurd (let z = (and_parts false more e).0 in let y : ◌≡◌ {A = ℕ} 0 1 = cc in omega arith)

move-on : (deltas more : Bool) (pre by on : List Symbol) → (deltas && more) ≡ false → more ≡ true → pre ++ (only_if (deltas && more) by ++ only_if (not deltas && more) on) ≡ pre ++ on
move-on true more pre by on e f = absurd (let y : ◌≡◌ {A = ℕ} 0 1 = cc in omega arith)
move-on false more pre by on e f = rw f

move-none : (deltas more : Bool) (pre by on : List Symbol) → (deltas && more) ≡ false → more ≡ false → pre ++ (only_if (deltas && more) by ++ only_if (not deltas && more) on) ≡ pre
move-none true more pre by on e f = rw f (append-nil pre)
move-none false more pre by on e f = rw f (append-nil pre)

module _ (tiles t : ℕ) (d : ℤ) where
  pub delta-refused : (w : Writing) (e : Refusal) → w.sink.refused ≡ 0 → Err e ≡ next_by_delta tiles t d → with_refusal w (number e) ≡ play_on w (check (not (delta_refused tiles t d)) 18)
  unfolding refused
  delta-refused w e z q = answered_refused w e (delta_refused tiles t d) 18 z (ap (λ (r : Result TileIdx Refusal). refused r) q ∙ delta-number tiles t d)

  module _ (to : TileIdx) (q : Ok to ≡ next_by_delta tiles t d) where
    fine : delta_refused tiles t d ≡ false
    unfolding refused
    fine = answered_fine _ 18 (lit< tt) (ap (λ (r : Result TileIdx Refusal). refused r) q ∙ delta-number tiles t d)

    pub delta-fine : (w : Writing) → w ≡ play_on w (check (not (delta_refused tiles t d)) 18)
    delta-fine w = fine_put w _ 18 fine

    pub delta-moved : tiles ≤ 4294967295 → to.0 ≡ tile_after_delta t d
    delta-moved h = let e = delta-tile tiles t d h fine in let s : to ≡ record { 0 = tile_after_delta t d } = cc in ap (λ (x : TileIdx). x.0) s

module _ (columns tiles : ℕ) (deltas : Bool) (N last t width height present : ℕ) (delta : ℤ) {more : Bool} (more_is : more ≡ ltb last N) where
  abbrev pre : List Symbol
  pre = check (beq (is_set present) (deltas && ltb last N)) 26

  abbrev by : List Symbol
  by = se_symbols delta ++ check (not (delta_refused tiles t delta)) 18

  abbrev on : List Symbol
  on = check (ltb (default_advance columns t width height) tiles) 19

  abbrev moved : List Symbol
  moved = move_symbols columns tiles deltas (ltb last N) t width height present delta

  abbrev tested : Writing → Writing → Type 0
  tested w a = a ≡ play_on w (check (beq (is_set present) (deltas && more)) 26)

  agreed : (w : Writing) {a : Writing} → tested w a → a ≡ play_on w pre
  agreed w p = renamed w 26 (ap (λ (m : Bool). beq (is_set present) (deltas && m)) more_is) p

  pub by-delta : (w : Writing) {a v : Writing} → (deltas && more) ≡ true → tested w a → v ≡ play_on a by → v ≡ play_on w moved
  unfolding move_symbols
  by-delta w c p q = on_then w pre by (agreed w p) q ∙ ap (play_on w) (sym (move-by deltas (ltb last N) pre by on (rw (← more_is) c)))

  pub on-walk : (w : Writing) {a v : Writing} {to : TileIdx} {within : Bool} → tiles ≤ 4294967295 → (deltas && more) ≡ false → more ≡ true → tested w a
      → to ≡ tile_idx_of (default_advance columns t width height) → within ≡ ltb to.0 tiles → v ≡ play_on a (check within 19) → v ≡ play_on w moved
  unfolding move_symbols
  on-walk w {a} h c m p q o r =
      let same = o ∙ ap (λ (x : TileIdx). ltb x.0 tiles) q ∙ inside-same tiles (default_advance columns t width height) h in
      on_then w pre on (agreed w p) (renamed a 19 same r) ∙ ap (play_on w) (sym (move-on deltas (ltb last N) pre by on (rw (← more_is) c) (sym more_is ∙ m)))

  pub at-end : (w : Writing) {a : Writing} → (deltas && more) ≡ false → more ≡ false → tested w a → a ≡ play_on w moved
  unfolding move_symbols
  at-end w c m p = agreed w p ∙ ap (play_on w) (sym (move-none deltas (ltb last N) pre by on (rw (← more_is) c) (sym more_is ∙ m)))

  -- a flag that contradicts ends it
  pub contradicted : (w : Writing) {a v : Writing} → tested w a → v ≡ play_on a (only_if (deltas && ltb last N) by ++ only_if (not deltas && ltb last N) on) → v ≡ play_on w moved
  unfolding move_symbols
  contradicted w p q = on_then w pre _ (agreed w p) q

  -- ---- the tile
  off : (b : Bool) (y : ℕ) {x z : ℕ} → (b && true) ≡ false → x ≡ z → x ≡ cond b y z
  off true y e h = absurd (let q : ◌≡◌ {A = ℕ} 0 1 = cc in omega arith)
  off false y e h = h

  pub tile-by : {tile : ℕ} → (deltas && more) ≡ true → tile ≡ tile_after_delta t delta → tile ≡ cond deltas (tile_after_delta t delta) (default_advance columns t width height)
  tile-by c e = rw (and_parts deltas more c).0 e

  pub tile-on : {to : TileIdx} {within : Bool} → tiles ≤ 4294967295 → (deltas && more) ≡ false → more ≡ true → to ≡ tile_idx_of (default_advance columns t width height)
      → within ≡ ltb to.0 tiles → within ≡ true → to.0 ≡ cond deltas (tile_after_delta t delta) (default_advance columns t width height)
  tile-on {to} h c m q o w =
      let same = o ∙ ap (λ (x : TileIdx). ltb x.0 tiles) q ∙ inside-same tiles (default_advance columns t width height) h in
      let inside : default_advance columns t width height < tiles = ltb-true _ _ (sym same ∙ w) in
      off deltas (tile_after_delta t delta) (rw m at c) (ap (λ (x : TileIdx). x.0) q ∙ held-tile (default_advance columns t width height) (omega arith))
