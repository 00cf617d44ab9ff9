-- How code comes to an entry, part by part, over the numbers that the loop goes by.
use Rattle.std.specs.Prelude.{ℕ, suc, ◌*◌, min, ◌≡◌, List, Bool, true, cond, ltb}
use Rattle.std.proofs.Common.{ap, ◌∙◌, arith, lt-ltb}
use Rattle.bit_writer.specs.Writing.{Writing}
use Rattle.bit_writer.specs.Stop.{play_on}
use Rattle.partition.specs.Entry.{Position, tile_row_height, split_coded, last_slice_of, next_tile, next_position, tile_after_delta, default_advance}
use Rattle.partition.specs.Grid.{Grid}
use Rattle.partition.specs.Walk.{row_height_of, onward}
use Rattle.slice_loop.specs.declared.SliceLoopCtx.{SliceLoopCtx}
use Rattle.slice_loop.specs.Loop.{LoopOver, Follows}
use Rattle.syntax.specs.Syntax.{symbols_for}
use Rattle.pps_syntax.specs.SliceSyntax.{RectSlice, entry_of, rect_slice, slice_split, slice_move}
use Rattle.pps_put_slices.specs.Parts.{size_in_tiles, split_symbols, last_in, move_symbols, size_step, split_step, move_step}

module _ (g : Grid) (ctx : SliceLoopCtx) (rs : List ℕ) (o : LoopOver ctx rs g) (k : Position) (e : RectSlice) where
  abbrev N : ℕ
  N = ctx.num_slices_minus1.0

  abbrev deltas : Bool
  deltas = ctx.delta_present

  abbrev width : ℕ
  width = e.pps_slice_width_in_tiles_minus1

  abbrev height : ℕ
  height = e.pps_slice_height_in_tiles_minus1

  abbrev heights : List ℕ
  heights = e.pps_exp_slice_height_in_ctus_minus1

  abbrev row : ℕ
  row = row_height_of g k.tile

  abbrev split : Bool
  split = split_coded width height row

  pub size-then : (w : Writing) {a : Writing} → a ≡ play_on w (size_in_tiles ctx.num_tile_columns ctx.num_tile_rows deltas k.tile width height)
      → play_on a (symbols_for (slice_split g deltas N k width height) e) ≡ play_on w (symbols_for (rect_slice g deltas N k) e)
  size-then w p =
      ap (λ (x : Writing). play_on x (symbols_for (slice_split g deltas N k width height) e)) (p ∙ rw (o.columns_are, o.rows_are))
      ∙ size_step g deltas N k e w

  module _ {r : ℕ} {s : Bool} (row_is : r ≡ tile_row_height rs ctx.num_tile_columns k.tile) (split_is : s ≡ split_coded width height r) where
    here : r ≡ row
    here = row_is ∙ rw (← o.heights_are, ← o.columns_are)

    there : s ≡ split
    there = split_is ∙ ap (split_coded width height) here

    pub split-then : (a : Writing) {x : Writing} → x ≡ play_on a (split_symbols s r N k.slice e.split_present heights)
        → play_on x (symbols_for (slice_move g deltas N k width height e.split_present heights) e) ≡ play_on a (symbols_for (slice_split g deltas N k width height) e)
    split-then a q =
        ap (λ (y : Writing). play_on y (symbols_for (slice_move g deltas N k width height e.split_present heights) e)) (q ∙ rw (there, here))
        ∙ split_step g deltas N k e a

    module _ {last : ℕ} (last_is : last ≡ last_in k.slice s r heights) where
      same : last ≡ last_in k.slice split row heights
      same = last_is ∙ rw (there, here)

      pub move-then : (x : Writing) {v : Writing}
          → v ≡ play_on x (move_symbols ctx.num_tile_columns (ctx.num_tile_rows * ctx.num_tile_columns) deltas (ltb last N) k.tile width height e.delta_present e.pps_tile_idx_delta_val)
          → v ≡ play_on x (symbols_for (slice_move g deltas N k width height e.split_present heights) e)
      move-then x q = q ∙ rw (same, ← o.columns_are, ← o.rows_are) (move_step g deltas N k e x)

      pub followed : {slice tile : ℕ} → slice ≡ min (suc last) N
          → (ltb last N ≡ true → tile ≡ cond deltas (tile_after_delta k.tile e.pps_tile_idx_delta_val) (default_advance ctx.num_tile_columns k.tile width height))
          → Follows N slice tile (onward g deltas k (entry_of e))
      unfolding next_position last_slice_of next_tile
      followed p q =
          record {
            slice_is = p ∙ ap (λ (n : ℕ). min (suc n) N) same;
            tile_is = λ h. rw (o.columns_are) (q (ap (λ (n : ℕ). ltb n N) same ∙ lt-ltb (last_in k.slice split row heights) N (omega arith)));
          }
