-- The parts of an entry, read one behind the other, are the entry as its description has it.
use Rattle.std.specs.Prelude.{ℕ, suc, ◌+◌, ◌-◌, ◌*◌, ◌≤◌, min, ◌≡◌, List, [], Bool, true, false, cond, ◌&&◌, ltb, ℤ, pos, Result, Ok, Err, Option, Some, None, length, refl}
use Rattle.std.specs.Option.{is_some, unwrap_or}
use Rattle.std.specs.Result.{IsErrAnd}
use Rattle.std.proofs.lemmas.Result.{err_from_is_err_and}
use Rattle.std.proofs.Common.{sym, ap, subst, ◌∙◌, arith, le-leb, lt-ltb}
use Rattle.std.proofs.lemmas.List.Edits.{sets}
use Rattle.refusal.specs.declared.Refusal.{Refusal}
use Rattle.bit_reader.specs.declared.BitReader.{BitReader}
use Rattle.bit_reader.specs.declared.Cursor.{Cursor}
use Rattle.bit_reader.specs.Gives.{Gives, cursor_of, held_as, value_read}
use Rattle.bit_reader.proofs.Gives.{refused_back, not-0}
use Rattle.bit_reader.specs.Reading.{demanded}
use Rattle.partition.specs.Entry.{Position, tile_row_height, split_coded, num_slices_in_tile, split_heights, last_slice_of, next_tile, next_position, tile_after_delta, default_advance}
use Rattle.partition.specs.Grid.{Grid, columns, rows, tiles}
use Rattle.partition.specs.Walk.{row_height_of}
use Rattle.slice_loop.specs.Loop.{LoopOver}
use Rattle.slice_loop.specs.declared.SliceLoopCtx.{SliceLoopCtx}
use Rattle.pps_slices.specs.declared.entry.RectSliceRead.{RectSliceRead}
use Rattle.syntax.specs.Elements.{or_else, one_if}
use Rattle.syntax.specs.Syntax.{Syntax, parse, done, ◌>>=◌}
use Rattle.syntax.proofs.Steps.{end}
use Rattle.pps_syntax.specs.SliceSyntax.{RectSlice, rect_slice, slice_height, slice_split, slice_move}
use Rattle.slice_loop.specs.declared.SliceIdx.{SliceIdx}
use Rattle.pps_slices.specs.declared.parts.SplitRead.{SplitRead}
use Rattle.pps_slices.specs.declared.parts.MoveRead.{MoveRead}
use Rattle.pps_slices.specs.Parts.{width_part, height_part, last_of, explicit_heights, split_part, split_kept, delta_part, move_kept}
use Rattle.pps_slices.specs.Entries.{heights_read, EntryHeld, EntryRead}
use Rattle.pps_slices.proofs.Chain.{Begins, read_behind, behind, refused_there, was_read, was_refused}
use Rattle.pps_slices.proofs.Stuck.{heights_of, move-heights, split-stuck, height-stuck}
use Rattle.pps_slices.proofs.Splits.{slices_enough}

-- ---- what the parts say where they are not coded
pub unsplit_none : (split : Bool) (row N i : ℕ) (p : BitReader) → split ≡ false → value_read (parse (split_part split row N i)) p ≡ []
unfolding split_part parse
unsplit_none split row N i p e = rw e

one_unsplit : (split : Bool) (hs : List ℕ) (row : ℕ) → (split ≡ false → hs ≡ []) → cond split (num_slices_in_tile hs row) 1 ≡ num_slices_in_tile hs row
unfolding num_slices_in_tile split_heights
one_unsplit true hs row e = refl
one_unsplit false hs row e = rw (e refl)

pub last-same : (split : Bool) (hs : List ℕ) (row i : ℕ) → (split ≡ false → hs ≡ []) → i + cond split (num_slices_in_tile hs row) 1 - 1 ≡ last_of i row hs
unfolding last_of
last-same split hs row i e = rw (one_unsplit split hs row e)

pub undelta : (columns tiles : ℕ) (deltas more : Bool) (t w h : ℕ) (p : BitReader) → (deltas && more) ≡ false → value_read (parse (delta_part columns tiles deltas more t w h)) p ≡ pos 0
unfolding delta_part or_else parse ◌>>=◌
undelta columns tiles deltas more t w h p e = rw e

some-coded : {A : Type 0} (b : Bool) (v : A) → is_some (cond b (Some v) None) ≡ b
some-coded true v = refl
some-coded false v = refl

kept-value : {A : Type 0} (b : Bool) (v d : A) → (b ≡ false → v ≡ d) → unwrap_or (cond b (Some v) None) d ≡ v
kept-value true v d e = refl
kept-value false v d e = sym (e refl)

-- ---- the description's steps
module _ (g : Grid) (deltas : Bool) (N : ℕ) (k : Position) where
  abbrev row : ℕ
  row = row_height_of g k.tile

  width_begins : Begins (rect_slice g deltas N k) (width_part (columns g) k.tile) (slice_height g deltas N k)
  unfolding rect_slice parse ◌>>=◌
  width_begins = record { splits = λ s c. refl }

  height_begins : (w : ℕ) → Begins (slice_height g deltas N k w) (height_part (columns g) (rows g) deltas k.tile k.preceding_height_minus1) (slice_split g deltas N k w)
  unfolding slice_height parse ◌>>=◌
  height_begins w = record { splits = λ s c. refl }

  module _ (w h : ℕ) where
    abbrev split : Bool
    split = split_coded w h row

    split_begins : k.slice ≤ N → Begins (slice_split g deltas N k w h) (parse (split_part split row N k.slice)) (slice_move g deltas N k w h (one_if split))
    unfolding slice_split split_part explicit_heights last_of or_else demanded parse ◌>>=◌
    split_begins l = record { splits = λ s c. cases s c split refl }
      where
        cases : (s : List ℕ) (c : Cursor) (b : Bool) → split ≡ b
            → parse (slice_split g deltas N k w h) s c
            ≡ parse (slice_move g deltas N k w h (one_if split) (parse (split_part split row N k.slice) s c).value) s (parse (split_part split row N k.slice) s c).next
        cases s c true e = rw e
        cases s c false e =
            let one : k.slice + 1 - 1 ≡ k.slice = omega arith in
            rw (e, one, le-leb k.slice N l)

    move_begins : (p : ℕ) (hs : List ℕ) → (split ≡ false → hs ≡ [])
        → Begins (slice_move g deltas N k w h p hs) (parse (delta_part (columns g) (tiles g) deltas (ltb (last_of k.slice row hs) N) k.tile w h))
        (λ d. done (record {
          pps_slice_width_in_tiles_minus1 = w;
          pps_slice_height_in_tiles_minus1 = h;
          split_present = p;
          pps_exp_slice_height_in_ctus_minus1 = hs;
          delta_present = one_if (deltas && ltb (last_of k.slice row hs) N);
          pps_tile_idx_delta_val = d;
        }))
    unfolding slice_move delta_part parse ◌>>=◌
    move_begins p hs only = record { splits = λ s c. rw (last-same split hs row k.slice only) }

-- ---- as code comes to it
none_stored : {hs : List ℕ} (t : List ℕ) (from : ℕ) → hs ≡ [] → t ≡ sets t from hs
none_stored t from e = rw e

module _ (g : Grid) (deltas : Bool) (N : ℕ) (k : Position) {p : BitReader} where
  module _ {q : BitReader} {e : Refusal} (W : Gives (width_part (columns g) k.tile) p q (Err e)) where
    pub no_width : Gives (parse (rect_slice g deltas N k)) p q (Err e)
    no_width = (refused_there (width_begins g deltas N k) W).gives

    -- nothing is read behind it
    pub no_width_table : (t : List ℕ) (from : ℕ) → t ≡ sets t from (heights_read g deltas N k p)
    no_width_table t from =
        let w = width_part (columns g) k.tile p.bytes.now (cursor_of p) in
        none_stored t from
        (ap heights_of ((width_begins g deltas N k).splits p.bytes.now (cursor_of p)) ∙ height-stuck g deltas N k p.bytes.now w.value w.next (not-0 e q.bit_pos (refused_back W)))

  module _ {q : BitReader} {w : ℕ} (W : Gives (width_part (columns g) k.tile) p q (Ok w)) where
    pub no_height : {r : BitReader} {e : Refusal} → Gives (height_part (columns g) (rows g) deltas k.tile k.preceding_height_minus1) q r (Err e) → Gives (parse (rect_slice g deltas N k)) p r (Err e)
    no_height H = (behind (width_begins g deltas N k) W (refused_there (height_begins g deltas N k w) H)).gives

    pub no_height_table : {r : BitReader} {e : Refusal} → Gives (height_part (columns g) (rows g) deltas k.tile k.preceding_height_minus1) q r (Err e)
        → (t : List ℕ) (from : ℕ) → t ≡ sets t from (heights_read g deltas N k p)
    no_height_table {r} {e} H t from =
        let h = height_part (columns g) (rows g) deltas k.tile k.preceding_height_minus1 q.bytes.now (cursor_of q) in
        none_stored t from
        (ap heights_of (sym (read_behind (width_begins g deltas N k) W) ∙ (height_begins g deltas N k w).splits q.bytes.now (cursor_of q))
        ∙ split-stuck g deltas N k q.bytes.now w h.value h.next (not-0 e r.bit_pos (refused_back H)))

    module _ {r : BitReader} {h : ℕ} (H : Gives (height_part (columns g) (rows g) deltas k.tile k.preceding_height_minus1) q r (Ok h)) (l : k.slice ≤ N) where
      abbrev there : Bool
      there = split_coded w h (row_height_of g k.tile)

      abbrev part : Syntax (List ℕ)
      part = split_part there (row_height_of g k.tile) N k.slice

      -- the heights are those that the split part read, refused or not
      heights_are : heights_read g deltas N k p ≡ value_read (parse part) r
      heights_are =
          ap heights_of
          (sym (read_behind (width_begins g deltas N k) W) ∙ sym (read_behind (height_begins g deltas N k w) H)
          ∙ (split_begins g deltas N k w h l).splits r.bytes.now (cursor_of r))
          ∙ move-heights g deltas N k r.bytes.now w h (one_if there) (value_read (parse part) r) _

      pub heights_table : (t : List ℕ) (from : ℕ) {u : List ℕ} → u ≡ sets t from (value_read (parse part) r) → u ≡ sets t from (heights_read g deltas N k p)
      heights_table t from e = e ∙ ap (sets t from) (sym heights_are)

      pub no_split : {v : BitReader} {e : Refusal} → Gives (held_as (split_kept there (row_height_of g k.tile) k.slice) (parse part)) r v (Err e) → Gives (parse (rect_slice g deltas N k)) p v (Err e)
      no_split K = let S = was_refused (split_kept there (row_height_of g k.tile) k.slice) (parse part) K in
          (behind (width_begins g deltas N k) W (behind (height_begins g deltas N k w) H (refused_there (split_begins g deltas N k w h l) S))).gives

      module _ {v : BitReader} {hs : List ℕ} (S : Gives (parse part) r v (Ok hs)) where
        only : there ≡ false → hs ≡ []
        only e = sym S.value ∙ unsplit_none there (row_height_of g k.tile) N k.slice r e

        abbrev more : Bool
        more = ltb (last_of k.slice (row_height_of g k.tile) hs) N

        abbrev way : Syntax ℤ
        way = delta_part (columns g) (tiles g) deltas more k.tile w h

        no_move : {x : BitReader} {e : Refusal} → Gives (parse way) v x (Err e) → Gives (parse (rect_slice g deltas N k)) p x (Err e)
        no_move M =
            (behind (width_begins g deltas N k) W (behind (height_begins g deltas N k w) H (behind (split_begins g deltas N k w h l) S (refused_there (move_begins g deltas N k w h (one_if there) hs only) M)))).gives

        abbrev read : ℤ → RectSlice
        read d =
            record {
              pps_slice_width_in_tiles_minus1 = w;
              pps_slice_height_in_tiles_minus1 = h;
              split_present = one_if there;
              pps_exp_slice_height_in_ctus_minus1 = hs;
              delta_present = one_if (deltas && more);
              pps_tile_idx_delta_val = d;
            }

        whole : {x : BitReader} {d : ℤ} → Gives (parse way) v x (Ok d) → Gives (parse (rect_slice g deltas N k)) p x (Ok (read d))
        whole M =
            (behind (width_begins g deltas N k) W (behind (height_begins g deltas N k w) H (behind (split_begins g deltas N k w h l) S (behind (move_begins g deltas N k w h (one_if there) hs only) M end)))).gives

      -- as code keeps it
      module _ {v : BitReader} {sp : SplitRead} (SP : Gives (held_as (split_kept there (row_height_of g k.tile) k.slice) (parse part)) r v (Ok sp)) where
        abbrev hs : List ℕ
        hs = value_read (parse part) r

        S : Gives (parse part) r v (Ok hs)
        S = was_read (split_kept there (row_height_of g k.tile) k.slice) (parse part) SP

        abbrev coming : Bool
        coming = ltb (last_of k.slice (row_height_of g k.tile) hs) N

        abbrev walk : Syntax ℤ
        walk = delta_part (columns g) (tiles g) deltas coming k.tile w h

        last_is : sp.last.0 ≡ last_of k.slice (row_height_of g k.tile) hs
        last_is = sym (ap (λ (y : SplitRead). y.last.0) SP.value)

        abbrev Kept : BitReader → Result MoveRead Refusal → Type 0
        Kept x y = Gives (held_as (move_kept (columns g) deltas (ltb sp.last.0 N) k.tile w h) (parse (delta_part (columns g) (tiles g) deltas (ltb sp.last.0 N) k.tile w h))) v x y

        pub no_way : {x : BitReader} {e : Refusal} → Kept x (Err e) → Gives (parse (rect_slice g deltas N k)) p x (Err e)
        no_way M = no_move S (was_refused (move_kept (columns g) deltas coming k.tile w h) (parse walk) (rw last_is at M))

        module _ {x : BitReader} {m : MoveRead} (M : Kept x (Ok m)) where
          moved : Gives (held_as (move_kept (columns g) deltas coming k.tile w h) (parse walk)) v x (Ok m)
          moved = rw last_is at M

          abbrev d : ℤ
          d = value_read (parse walk) v

          pub entry_held : {slice : SliceIdx} → slice.0 ≡ min (suc sp.last.0) N
              → EntryHeld g deltas N k p x (record { width = w; height = h; split_count = sp.count; delta = m.delta; next = record { slice = slice; tile = m.tile; preceding_height = h } })
          unfolding last_of next_tile next_position last_slice_of
          entry_held {slice} at =
              let count_is : sp.count ≡ cond there (Some (length hs)) None = sym (ap (λ (y : SplitRead). y.count) SP.value) in
              let delta_is : m.delta ≡ cond (deltas && coming) (Some d) None = sym (ap (λ (y : MoveRead). y.delta) moved.value) in
              let tile_is : m.tile.0 ≡ cond coming (cond deltas (tile_after_delta k.tile d) (default_advance (columns g) k.tile w h)) k.tile = sym (ap (λ (y : MoveRead). y.tile.0) moved.value) in
              let same = last-same there hs (row_height_of g k.tile) k.slice (only S) in
              let enough = slices_enough hs (row_height_of g k.tile) in
              let coded : is_some sp.count ≡ there = ap is_some count_is ∙ some-coded there (length hs) in
              let present : is_some m.delta ≡ (deltas && coming) = ap is_some delta_is ∙ some-coded (deltas && coming) d in
              let value : unwrap_or m.delta (pos 0) ≡ d = ap (λ (y : Option ℤ). unwrap_or y (pos 0)) delta_is ∙ kept-value (deltas && coming) d (pos 0) (λ e. undelta (columns g) (tiles g) deltas coming k.tile w h v e) in
              let are = heights_are in
              record {
                gives = rw (are, coded, present, value) (whole S (was_read (move_kept (columns g) deltas coming k.tile w h) (parse walk) moved));
                count = rw are (ap (λ (y : Option ℕ). unwrap_or y 0) count_is ∙ kept-value there (length hs) 0 (λ e. ap length (only S e)));
                moves = rw are (omega (arith, same, enough), omega (arith, same, enough));
                precedes = refl;
                follows =
                    rw are
                    (record {
                      slice_is = omega (arith, at, last_is, same);
                      tile_is = λ z.
                          tile_is
                          ∙ ap (λ (b : Bool). cond b (cond deltas (tile_after_delta k.tile d) (default_advance (columns g) k.tile w h)) k.tile) (lt-ltb (last_of k.slice (row_height_of g k.tile) hs) N (omega (arith, z, same)))
                          ∙ ap (λ (y : ℤ). cond deltas (tile_after_delta k.tile y) (default_advance (columns g) k.tile w h)) (sym value);
                    });
              }

-- ---- over the numbers that the loop goes by
pub entry_exit : (g : Grid) (deltas : Bool) (N : ℕ) (k : Position) (p q : BitReader) (x : Result RectSliceRead Refusal) {e : Refusal} → IsErrAnd x (λ y. y ≡ e) → Gives (parse (rect_slice g deltas N k)) p q (Err e)
    → EntryRead g deltas N k p q x
entry_exit g deltas N k p q x h G = let y = err_from_is_err_and x h in rw (y.1, y.2) G

module _ (g : Grid) (ctx : SliceLoopCtx) (rs : List ℕ) (o : LoopOver ctx rs g) (t : ℕ) where
  abbrev C : ℕ
  C = ctx.num_tile_columns

  abbrev R : ℕ
  R = ctx.num_tile_rows

  pub width_over : (p q : BitReader) (x : Result ℕ Refusal) → Gives (width_part C t) p q x → Gives (width_part (columns g) t) p q x
  width_over p q x W = subst (λ (n : ℕ). Gives (width_part n t) p q x) (sym o.columns_are) W

  pub height_over : (deltas : Bool) (preceding : ℕ) (p q : BitReader) (x : Result ℕ Refusal) → Gives (height_part C R deltas t preceding) p q x → Gives (height_part (columns g) (rows g) deltas t preceding) p q x
  height_over deltas preceding p q x H =
      subst (λ (n : ℕ). Gives (height_part n (rows g) deltas t preceding) p q x) (sym o.columns_are)
      (subst (λ (m : ℕ). Gives (height_part C m deltas t preceding) p q x) (sym o.rows_are) H)

  module _ (N i row w h : ℕ) (split : Bool) (r : row ≡ tile_row_height rs C t) (s : split ≡ split_coded w h row) where
    abbrev row' : ℕ
    row' = row_height_of g t

    row_over : row ≡ row'
    row_over = r ∙ rw (← o.heights_are, ← o.columns_are)

    split_over : split ≡ split_coded w h row'
    split_over = s ∙ ap (split_coded w h) row_over

    pub heights_over : (p q : BitReader) (x : Result SplitRead Refusal) → Gives (held_as (split_kept split row i) (parse (split_part split row N i))) p q x
        → Gives (held_as (split_kept (split_coded w h row') row' i) (parse (split_part (split_coded w h row') row' N i))) p q x
    heights_over p q x S =
        subst (λ (b : Bool). Gives (held_as (split_kept b row' i) (parse (split_part b row' N i))) p q x) split_over
        (subst (λ (n : ℕ). Gives (held_as (split_kept split n i) (parse (split_part split n N i))) p q x) row_over S)

    pub table_over : (p : BitReader) (from : ℕ) (a b : List ℕ) → a ≡ sets b from (value_read (parse (split_part split row N i)) p) → a ≡ sets b from (value_read (parse (split_part (split_coded w h row') row' N i)) p)
    table_over p from a b e =
        e ∙ ap (λ (n : ℕ). sets b from (value_read (parse (split_part split n N i)) p)) row_over
        ∙ ap (λ (c : Bool). sets b from (value_read (parse (split_part c row' N i)) p)) split_over

  pub way_over : (deltas more : Bool) (w h : ℕ) (p q : BitReader) (x : Result MoveRead Refusal) → Gives (held_as (move_kept C deltas more t w h) (parse (delta_part C (R * C) deltas more t w h))) p q x
      → Gives (held_as (move_kept (columns g) deltas more t w h) (parse (delta_part (columns g) (tiles g) deltas more t w h))) p q x
  way_over deltas more w h p q x M =
      subst (λ (n : ℕ). Gives (held_as (move_kept n deltas more t w h) (parse (delta_part n (rows g * n) deltas more t w h))) p q x) (sym o.columns_are)
      (subst (λ (m : ℕ). Gives (held_as (move_kept C deltas more t w h) (parse (delta_part C (m * C) deltas more t w h))) p q x) (sym o.rows_are) M)
