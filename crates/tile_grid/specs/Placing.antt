-- The slice loop over accepted entries, turn by turn: what is placed, and the groups that are left.
use Prim.Native.Nat.{ℕ, suc, ◌+◌, ◌-◌, ◌*◌, ◌≤◌, ◌<◌, min}
use Rattle.std.specs.Prelude.{◌≡◌, Bool, not, get_or, set, take, drop, replicate}
use Rattle.std.proofs.Math.Path.{refl, sym, ap}
use Rattle.std.proofs.Common.{subst, ◌∙◌, length-append, length-drop}
use mathlib.Core.List.{List, [], ◌∷◌, ◌++◌, map, append-nil}
use Rattle.std.proofs.Math.Bool.{true, false, cond}
use Rattle.std.specs.Bool.{beq}
use native.Mathlib.Omega.{arith}
use Rattle.std.proofs.lemmas.List.{drop-replicate, length-take}
use Rattle.std.proofs.lemmas.List.Edits.{sets-eq}
use Rattle.std.proofs.Math.ListN.{length, length-replicate}
use borrow.Author.Tests.{ltb-false}
use Rattle.partition.specs.Axis.{boundary, boundary_le, span}
use Rattle.partition.proofs.Axis.{boundary-suc, boundary_mono}
use Rattle.partition.specs.Entry.{Entry, Position, asking, first_position, tile_x, tile_y, split_coded, split_heights, last_slice_of, next_tile, next_position}
use Rattle.partition.specs.Grid.{Grid, grid_with, tiles, max_slices_minus1, max_slices}
use Rattle.partition.specs.Groups.{Group, stacked, group_slices, plan, stacked-length}
use Rattle.partition.specs.Placed.{Step, step, End, to-bottom-right, used_by-split, end, Passed, tile_x-lt, tile_y-lt, split_flat, placed_same}
use Rattle.partition.proofs.Placed.{entry-passed, row-span, entry-slices, some_piece, walk-slices}
use Rattle.partition.specs.Sizes.{sum, explicit_sizes, Fit}
use Rattle.partition.specs.Slices.{Slice}
use Rattle.partition.specs.Walk.{row_height_of, slice_heights_of, entry_group, last_group, placed, onward, walk}
use Rattle.pps_syntax.specs.SliceTables.{SliceTables, split_count}
use Rattle.pps_tables.specs.declared.RectSliceEntry.{RectSliceEntry}
use Rattle.pps_tables.specs.Rows.{entry_of}
use Rattle.question_tests.specs.Questions.{entries_in}
use Rattle.question_tests.specs.Refusing.{no-entries}
use Rattle.question_tests.specs.Steps.{moved_to}
use Rattle.question_tests.specs.Tables.{entry_at, entry_with}
use Rattle.question_tests.specs.Walking.{entries_from, first_entry, StandsAt, stands-first, stands_here, stands_after, tile-after}
use Rattle.slice_loop.specs.Loop.{position}
use Rattle.syntax.specs.Elements.{is_set}
use Rattle.grid_sizes.specs.Answers.{grid_of_sizes}
use Rattle.tile_grid.specs.Placed.{AcceptedIn, placed_of}
use Rattle.tile_sizes.specs.Padded.{table_of}
use Rattle.std.proofs.Math.Seq.{take-append_seam}
use Rattle.grid_sizes.specs.Fronts.{take-most}
use Rattle.grid_sizes.specs.declared.GridSizes.{GridSizes}
use Rattle.pps_record.specs.declared.VvcPpsPartition.{VvcPpsPartition}
use Rattle.question_tests.specs.Sliced.{walked}
use Rattle.tile_grid.specs.declared.SliceRect.{SliceRect}
use Rattle.tile_grid.specs.declared.placed.Placed.{Placed}
use Rattle.tile_grid.specs.declared.placed.TileGroup.{TileGroup}
use Rattle.tile_grid.specs.Rects.{rect_of, tiles_of, no_rect, no_tiles, table_with, plan_with}
use Rattle.tile_grid.specs.Stacking.{put, put_plan, put_groups, put_one, put-none, put_both, kept-length}
use Rattle.tile_grid.specs.Starts.{ProperSizes, StartsAt}

-- ---- a group, from where columns and rows begin

module _ {ws hs cs rs : List ℕ} (C : StartsAt ws cs) (R : StartsAt hs rs) (x y w h slice : ℕ) (es : List ℕ) (wide : x + w ≤ length ws) (tall : y + h ≤ length hs) where
  across : get_or cs (x + w) 0 - get_or cs x 0 ≡ span ws x w
  unfolding span
  across = rw (C.each x (omega arith), C.each (x + w) wide)

  down : get_or rs (y + h) 0 - get_or rs y 0 ≡ span hs y h
  unfolding span
  down = rw (R.each y (omega arith), R.each (y + h) tall)

  rows-some : 1 ≤ h → get_or rs y 0 < get_or rs (y + h) 0
  rows-some s =
      let e : suc y + (h - 1) ≡ y + h = omega arith in
      omega (
        arith,
        R.each y (omega arith),
        R.each (y + h) tall,
        boundary-suc hs y,
        R.some y (omega arith),
        boundary_mono hs (suc y) (h - 1),
        ap (boundary hs) e,
      )

  pub group_fits : 1 ≤ h → Fit es (span hs y h) → slice + length (split_heights es (span hs y h)) ≤ max_slices
      → (x + w < length cs) × (y + h < length rs) × (get_or cs x 0 ≤ get_or cs (x + w) 0) × (get_or rs y 0 < get_or rs (y + h) 0) × Fit es (get_or rs (y + h) 0 - get_or rs y 0)
      × (slice + length (split_heights es (get_or rs (y + h) 0 - get_or rs y 0)) ≤ max_slices) × (x + w ≤ 4294967295) × (y + h ≤ 4294967295) × (get_or rs (y + h) 0 ≤ 4294967295)
  group_fits s f l = (
    omega (arith, C.long, C.few),
    omega (arith, R.long, R.few),
    omega (arith, C.each x (omega arith), C.each (x + w) wide, boundary_mono ws x w),
    rows-some s,
    rw down f,
    rw down l,
    omega (arith, C.few),
    omega (arith, R.few),
    omega (arith, R.each (y + h) tall, boundary_le hs (y + h), R.fits),
  )

  pub group_stacked : stacked (get_or cs x 0) (get_or cs (x + w) 0 - get_or cs x 0) (get_or rs y 0) (split_heights es (get_or rs (y + h) 0 - get_or rs y 0))
      ≡ stacked (boundary ws x) (span ws x w) (boundary hs y) (split_heights es (span hs y h))
  group_stacked = rw (across, down, C.each x (omega arith), R.each y (omega arith))

  pub group_count : length (split_heights es (get_or rs (y + h) 0 - get_or rs y 0)) ≡ length (split_heights es (span hs y h))
  group_count = rw down

-- ---- the loop

module _ (ws hs : List ℕ) (d : Bool) (N : ℕ) (t : SliceTables) (n : ℕ) (P₀ : List SliceRect) (G₀ : List TileGroup) where
  abbrev grid : Grid
  grid = grid_with ws hs

  -- `all` are the groups, `rest` those that are still to be placed.
  pub record Placing (P : List SliceRect) (G : List TileGroup) (slice tile i from : ℕ) : Type 0 where
    pub all : List Group
    pub whole : walk asking grid d N first_position (entries_in t n) ≡ placed all
    pub at : Position
    pub place : ℕ
    pub stands : StandsAt N t at place slice tile at.preceding_height_minus1 from
    pub within : i ≤ n
    pub rest : List Group
    pub walks : walk asking grid d N at (entries_from t i place (n - i)) ≡ placed rest
    pub on_tile : slice ≤ N → tile < tiles grid
    pub plans : put_plan P₀ 0 (plan grid all) ≡ put_plan P slice (plan grid rest)
    pub groups : put_groups G₀ 0 all ≡ put_groups G i rest
    pub ahead : i ≤ slice
    pub counted : slice + length (plan grid rest) ≡ suc N
    pub left : i + length rest ≡ length all

  pub placing_begins : (ps : List Group) → walk asking grid d N first_position (entries_in t n) ≡ placed ps → 0 < tiles grid → Placing P₀ G₀ 0 0 0 0
  unfolding entries_in
  placing_begins ps q some =
      record {
        all = ps;
        whole = q;
        at = first_position;
        place = 0;
        stands = stands-first N t;
        within = omega arith;
        rest = ps;
        walks = (let z : n - 0 ≡ n = omega arith in rw z q);
        on_tile = (λ _. some);
        plans = refl;
        groups = refl;
        ahead = omega arith;
        counted = walk-slices grid asking d N _ first_position ps (omega arith) q;
        left = omega arith;
      }

-- All is placed.
module _ (ws hs : List ℕ) (d : Bool) (N : ℕ) (t : SliceTables) (n : ℕ) (P₀ : List SliceRect) (G₀ : List TileGroup) where
  pub record Done (P : List SliceRect) (G : List TileGroup) (slice groups : ℕ) : Type 0 where
    pub all : List Group
    pub whole : walk asking (grid_with ws hs) d N first_position (entries_in t n) ≡ placed all
    pub plans : P ≡ put_plan P₀ 0 (plan (grid_with ws hs) all)
    pub tiled : G ≡ put_groups G₀ 0 all
    pub slices : slice ≡ suc N
    pub count : groups ≡ length all
    pub few : groups ≤ suc N

module _ {ws hs : List ℕ} {d : Bool} {N : ℕ} {t : SliceTables} {n : ℕ} {P₀ : List SliceRect} {G₀ : List TileGroup} {P : List SliceRect} {G : List TileGroup} {slice tile i from : ℕ} (H : Placing ws hs d N t n P₀ G₀ P G slice tile i from) where
  abbrev g : Grid
  g = grid_with ws hs

  abbrev here : ℕ
  here = H.at.preceding_height_minus1

  pub from-within : from ≤ length t.split_heights
  from-within = omega (arith, H.stands.place_is)

  -- the tables are as long as they were
  pub plan_length : length P ≡ length P₀
  plan_length = kept-length rect_of P₀ P 0 slice (plan g H.all) (plan g H.rest) H.plans

  module _ (more : i < n) (e : RectSliceEntry) (es : List ℕ) (e-is : e ≡ entry_at t i) (es-is : es ≡ take (split_count t i) (drop from t.split_heights)) where
    abbrev to : ℕ
    to = from + length es

    abbrev entry : Entry
    entry = entry_with e es

    abbrev later : List Entry
    later = entries_from t (i + 1) (H.place + split_count t i) (n - (i + 1))

    es-count : length es ≡ min (split_count t i) (length (drop from t.split_heights))
    es-count = ap length es-is ∙ length-take (split_count t i) (drop from t.split_heights)

    to-place : to ≡ min (length t.split_heights) (from + split_count t i)
    to-place = omega (arith, es-count, length-drop from t.split_heights, from-within)

    pub placing_to : to ≤ length t.split_heights
    placing_to = omega (arith, to-place)

    heights-taken : take (to - from) (drop from t.split_heights) ≡ es
    heights-taken =
        let c : to - from ≡ length es = omega arith in
        rw (c, es-count) (take-most (split_count t i) (drop from t.split_heights) ∙ sym es-is)

    next : entries_from t i H.place (n - i) ≡ entry ∷ later
    next = first_entry t i H.place n from to more H.stands.place_is to-place ∙ rw (e-is, heights-taken)

    turn : Step asking g d N H.at entry later H.rest
    turn = step asking g d N H.at entry later H.rest (sym (ap (walk asking g d N H.at) next) ∙ H.walks)

    lower : slice < N
    lower = omega (arith, H.stands.slice_is, turn.slices-left)

    -- a place is left for the group
    pub placing_room : i < N
    placing_room = omega (arith, H.ahead, lower)

    at-is : position slice tile here ≡ H.at
    at-is = stands_here H.stands (omega (arith, lower))

    passed : Passed g d N (position slice tile here) entry
    passed = subst (λ (k : Position). Passed g d N k entry) (sym at-is) (entry-passed asking g d N H.at entry turn.pass)

    on-tile : tile < tiles g
    on-tile = H.on_tile (omega (arith, lower))

    pub placing_wide : tile_x (length ws) tile + (e.width + 1) ≤ length ws
    placing_wide = omega (arith, passed.wide, tile_x-lt g tile on-tile)

    pub placing_tall : tile_y (length ws) tile + (e.height + 1) ≤ length hs
    placing_tall = omega (arith, passed.tall, tile_y-lt g tile on-tile)

    -- without a split there are no heights
    heights-none : is_set e.split_present ≡ false → es ≡ []
    unfolding entry_of split_count
    heights-none z = let q : is_set (entry_at t i).split_present ≡ false = ap (λ (x : RectSliceEntry). is_set x.split_present) (sym e-is) ∙ z in es-is ∙ rw q

    absent : (b : Bool) → not (beq b false) ≡ false → b ≡ false
    absent true e = absurd (let z : ◌≡◌ {A = ℕ} 0 1 = cc in omega arith)
    absent false e = refl

    abbrev row : ℕ
    row = row_height_of g tile

    abbrev down-span : ℕ
    down-span = span hs (tile_y (length ws) tile) (e.height + 1)

    one-row : split_coded e.width e.height row ≡ true → row ≡ down-span
    one-row z = let f : e.height + 1 ≡ 1 = omega (arith, split_flat g e.width e.height row z) in row-span g tile ∙ rw f

    lone : es ≡ [] → down-span ∷ [] ≡ split_heights es down-span
    unfolding split_heights
    lone z = rw z

    -- the heights of the entry's slices, split or not
    heights_are_lem : slice_heights_of g tile entry ≡ split_heights es down-span
    unfolding slice_heights_of
    heights_are_lem = go (split_coded e.width e.height row) refl
      where
        go : (b : Bool) → split_coded e.width e.height row ≡ b
            → cond (split_coded e.width e.height row) (split_heights es row) (span hs (tile_y (length ws) tile) (suc e.height) ∷ []) ≡ split_heights es down-span
        go true z = rw z (ap (split_heights es) (one-row z))
        go false z = let f : suc e.height ≡ e.height + 1 = omega arith in rw (z, f) (lone (heights-none (absent (is_set e.split_present) (rw z at passed.agrees))))

    heights-fit : Fit es down-span
    unfolding sum explicit_sizes
    heights-fit = go (split_coded e.width e.height row) refl
      where
        go : (b : Bool) → split_coded e.width e.height row ≡ b → sum (explicit_sizes es) ≤ down-span
        go true z = omega (arith, ltb-false row (sum (explicit_sizes es)) (rw z at passed.cut), one-row z)
        go false z = rw (heights-none (absent (is_set e.split_present) (rw z at passed.agrees))) (omega arith)

    abbrev slices : List Slice
    slices = stacked (boundary ws (tile_x (length ws) tile)) (span ws (tile_x (length ws) tile) (e.width + 1)) (boundary hs (tile_y (length ws) tile)) (split_heights es down-span)

    group_is : group_slices g (entry_group g H.at.tile entry) ≡ slices
    unfolding group_slices entry_group
    group_is =
        let k : H.at.tile ≡ tile = sym (ap (λ (q : Position). q.tile) at-is) in
        let f : suc e.width ≡ e.width + 1 = omega arith in
        rw (k, f, heights_are_lem)

    rest-is : plan g H.rest ≡ slices ++ plan g turn.others
    unfolding plan
    rest-is = ap (plan g) turn.is ∙ rw group_is

    slices-count : length slices ≡ length (split_heights es down-span)
    slices-count = stacked-length _ _ _ (split_heights es down-span)

    counted-on : slice + length (split_heights es down-span) + length (plan g turn.others) ≡ suc N
    counted-on = omega (arith, H.counted, ap length rest-is, length-append slices (plan g turn.others), slices-count)

    abbrev Fits : List ℕ → List ℕ → ℕ → ℕ → Type 0
    Fits cs rs x y =
        (x + (e.width + 1) < length cs) × (y + (e.height + 1) < length rs) × (get_or cs x 0 ≤ get_or cs (x + (e.width + 1)) 0) × (get_or rs y 0 < get_or rs (y + (e.height + 1)) 0)
        × Fit es (get_or rs (y + (e.height + 1)) 0 - get_or rs y 0) × (slice + length (split_heights es (get_or rs (y + (e.height + 1)) 0 - get_or rs y 0)) ≤ max_slices) × (x + (e.width + 1) ≤ 4294967295)
        × (y + (e.height + 1) ≤ 4294967295) × (get_or rs (y + (e.height + 1)) 0 ≤ 4294967295)

    module _ {cs rs : List ℕ} (C : StartsAt ws cs) (R : StartsAt hs rs) (x y : ℕ) (x-is : x ≡ tile_x (length ws) tile) (y-is : y ≡ tile_y (length ws) tile) where
      pub placing_fits : N ≤ max_slices_minus1 → Fits cs rs x y
      placing_fits few =
          rw (x-is, y-is)
          (group_fits C R (tile_x (length ws) tile) (tile_y (length ws) tile) (e.width + 1) (e.height + 1) slice es placing_wide placing_tall (omega arith) heights-fit (omega (arith, counted-on)))

      module _ (slice' : ℕ) (slice_is : slice' ≡ slice + length (split_heights es (get_or rs (y + (e.height + 1)) 0 - get_or rs y 0))) (P' : List SliceRect)
          (P-is : P' ≡ put_plan P slice (stacked (get_or cs x 0) (get_or cs (x + (e.width + 1)) 0 - get_or cs x 0) (get_or rs y 0) (split_heights es (get_or rs (y + (e.height + 1)) 0 - get_or rs y 0))))
          (tile' : ℕ) (tile-is : tile' ≡ (moved_to (length ws) (length hs * length ws) d tile e).0) (small : length hs * length ws ≤ 4294967295) where
        count-is : slice' ≡ slice + length (split_heights es down-span)
        count-is = slice_is ∙ rw y-is (ap (λ (k : ℕ). slice + k) (group_count C R (tile_x (length ws) tile) (tile_y (length ws) tile) (e.width + 1) (e.height + 1) slice es placing_wide placing_tall))

        plan-is : P' ≡ put_plan P slice slices
        plan-is = P-is ∙ rw (x-is, y-is) (ap (put_plan P slice) (group_stacked C R (tile_x (length ws) tile) (tile_y (length ws) tile) (e.width + 1) (e.height + 1) slice es placing_wide placing_tall))

        index_is : slice' ≡ (next_position (length ws) d row (position slice tile here) entry).slice
        unfolding next_position
        index_is = count-is ∙ sym (entry-slices g slice tile entry ∙ rw heights_are_lem)

        behind : slice' ≡ suc (last_slice_of slice entry row)
        behind = count-is ∙ sym (entry-slices g slice tile entry ∙ rw heights_are_lem)

        moved : slice' ≤ N → tile' ≡ next_tile (length ws) d tile entry
        moved l = tile-is ∙ tile-after (length ws) (length hs * length ws) d tile e es small (passed.onto (omega (arith, behind)))

        tile-next : slice' ≤ N → tile' ≡ (next_position (length ws) d row (position slice tile here) entry).tile
        unfolding next_position
        tile-next l = moved l

        abbrev group : TileGroup
        group = record { x = x; y = y; columns = e.width + 1; rows = e.height + 1 }

        tiles-are : tiles_of (entry_group g H.at.tile entry) ≡ group
        unfolding entry_group
        tiles-are =
            let k : H.at.tile ≡ tile = sym (ap (λ (q : Position). q.tile) at-is) in
            let f : suc e.width ≡ e.width + 1 = omega arith in
            let h : suc e.height ≡ e.height + 1 = omega arith in
            rw (k, f, h, x-is, y-is)

        groups-is : put_groups G i H.rest ≡ put_groups (set G i group) (i + 1) turn.others
        groups-is =
            ap (put_groups G i) turn.is
            ∙ put_one tiles_of G i (entry_group g H.at.tile entry) turn.others
            ∙ ap (λ (u : TileGroup). put_groups (set G i u) (i + 1) turn.others) tiles-are

        plans-is : put_plan P slice (plan g H.rest) ≡ put_plan P' slice' (plan g turn.others)
        plans-is =
            ap (put_plan P slice) rest-is ∙ put_both rect_of slices (plan g turn.others) P slice
            ∙ (let k : slice + length slices ≡ slice' = omega (arith, slices-count, count-is) in rw (k, ← plan-is))

        pub placing_goes-on : Placing ws hs d N t n P₀ G₀ P' (set G i group) slice' tile' (i + 1) to
        unfolding next_position
        placing_goes-on =
            record {
              all = H.all;
              whole = H.whole;
              at = onward g d H.at entry;
              place = H.place + split_count t i;
              stands = stands_after H.stands g d e es (split_count t i) slice' tile' to (omega (arith, lower)) index_is tile-next to-place;
              within = omega arith;
              rest = turn.others;
              walks = turn.goes;
              on_tile = (λ l. omega (arith, moved l, passed.moves (omega (arith, behind))));
              plans = H.plans ∙ plans-is;
              groups = H.groups ∙ groups-is;
              ahead = omega (arith, H.ahead, count-is, some_piece down-span es);
              counted = omega (arith, counted-on, count-is);
              left = omega (arith, H.left, ap length turn.is);
            }

  -- ---- no entry is left

  module _ (done : n ≤ i) where
    all-walked : i ≡ n
    all-walked = omega (arith, H.within)

    ended : End g N H.at H.rest
    ended = end asking g d N H.at H.rest (sym (ap (walk asking g d N H.at) (no-entries t i H.place (n - i) (omega arith))) ∙ H.walks)

    module _ (last : slice ≤ N) where
      on : tile < tiles g
      on = H.on_tile last

      tile-same : H.at.tile ≡ tile
      tile-same = sym (H.stands.tile_is last)

      only : H.rest ≡ last_group g tile ∷ []
      only = go ended
        where
          go : End g N H.at H.rest → H.rest ≡ last_group g tile ∷ []
          go (to-bottom-right z q) = q ∙ rw tile-same
          go (used_by-split z q) = absurd (omega (arith, H.stands.slice_is))

      abbrev C : ℕ
      C = length ws

      abbrev R : ℕ
      R = length hs

      abbrev X : ℕ
      X = tile_x C tile

      abbrev Y : ℕ
      Y = tile_y C tile

      left_is : X + (C - X) ≡ C
      left_is = omega (arith, tile_x-lt g tile on)

      down_is : Y + (R - Y) ≡ R
      down_is = omega (arith, tile_y-lt g tile on)

      abbrev bottom : List Slice
      bottom = stacked (boundary ws X) (span ws X (C - X)) (boundary hs Y) (split_heights [] (span hs Y (R - Y)))

      bottom-is : plan g H.rest ≡ bottom
      unfolding plan group_slices last_group split_heights
      bottom-is = ap (plan g) only ∙ append-nil bottom

      bottom-count : length bottom ≡ 1
      unfolding split_heights stacked
      bottom-count = refl

      one : length (split_heights [] (span hs Y (R - Y))) ≡ 1
      unfolding split_heights
      one = refl

      slice-last : slice ≡ N
      slice-last = omega (arith, H.counted, ap length bottom-is, bottom-count)

      module _ {cs rs : List ℕ} (SC : StartsAt ws cs) (SR : StartsAt hs rs) (x y w h : ℕ) (x-is : x ≡ X) (y-is : y ≡ Y) (w-is : w ≡ C - X) (h-is : h ≡ R - Y) (es : List ℕ) (es-is : es ≡ []) where
        pub last_fits : N ≤ max_slices_minus1
            → (x + w < length cs) × (y + h < length rs) × (get_or cs x 0 ≤ get_or cs (x + w) 0) × (get_or rs y 0 < get_or rs (y + h) 0) × Fit es (get_or rs (y + h) 0 - get_or rs y 0)
            × (slice + length (split_heights es (get_or rs (y + h) 0 - get_or rs y 0)) ≤ max_slices) × (x + w ≤ 4294967295) × (y + h ≤ 4294967295) × (get_or rs (y + h) 0 ≤ 4294967295)
        unfolding sum explicit_sizes
        last_fits few =
            rw (x-is, y-is, w-is, h-is, es-is)
            (group_fits SC SR X Y (C - X) (R - Y) slice [] (omega (arith, left_is)) (omega (arith, down_is)) (omega (arith, tile_y-lt g tile on)) (omega arith) (omega (arith, one)))

        module _ (slice' : ℕ) (slice_is : slice' ≡ slice + length (split_heights es (get_or rs (y + h) 0 - get_or rs y 0))) (P' : List SliceRect)
            (P-is : P' ≡ put_plan P slice (stacked (get_or cs x 0) (get_or cs (x + w) 0 - get_or cs x 0) (get_or rs y 0) (split_heights es (get_or rs (y + h) 0 - get_or rs y 0)))) where
          last-count : slice' ≡ suc N
          last-count = let k : slice' ≡ slice + 1 = slice_is ∙ rw (y-is, h-is, es-is) (ap (λ (k : ℕ). slice + k) (group_count SC SR X Y (C - X) (R - Y) slice [] (omega (arith, left_is)) (omega (arith, down_is)) ∙ one)) in omega (arith, slice-last)

          last-plan : P' ≡ put_plan P₀ 0 (plan g H.all)
          last-plan =
              P-is
              ∙ rw (x-is, y-is, w-is, h-is, es-is) (ap (put_plan P slice) (group_stacked SC SR X Y (C - X) (R - Y) slice [] (omega (arith, left_is)) (omega (arith, down_is)) ∙ sym bottom-is))
              ∙ sym H.plans

          abbrev bottom_right : TileGroup
          bottom_right = record { x = x; y = y; columns = w; rows = h }

          last-tiles : tiles_of (last_group g tile) ≡ bottom_right
          unfolding last_group
          last-tiles = rw (x-is, y-is, w-is, h-is)

          last-groups : set G i bottom_right ≡ put_groups G₀ 0 H.all
          last-groups =
              ap (λ (u : TileGroup). set G i u) (sym last-tiles)
              ∙ sym (put-none tiles_of _ (i + 1))
              ∙ sym (put_one tiles_of G i (last_group g tile) [])
              ∙ ap (put_groups G i) (sym only)
              ∙ sym H.groups

          pub with_last : Done ws hs d N t n P₀ G₀ P' (set G n bottom_right) slice' (n + 1)
          with_last =
              subst (λ (k : ℕ). Done ws hs d N t n P₀ G₀ P' (set G k bottom_right) slice' (k + 1)) all-walked
              (record {
                all = H.all;
                whole = H.whole;
                plans = last-plan;
                tiled = last-groups;
                slices = last-count;
                count = omega (arith, H.left, ap length only);
                few = omega (arith, H.ahead, slice-last);
              })

    module _ (over : N < slice) where
      none : H.rest ≡ []
      none = go ended
        where
          go : End g N H.at H.rest → H.rest ≡ []
          go (to-bottom-right z q) = absurd (omega (arith, H.stands.slice_is))
          go (used_by-split z q) = q

      no-slices : plan g H.rest ≡ []
      unfolding plan
      no-slices = ap (plan g) none

      pub without-last : Done ws hs d N t n P₀ G₀ P G slice n
      without-last =
          subst (Done ws hs d N t n P₀ G₀ P G slice) all-walked
          (record {
            all = H.all;
            whole = H.whole;
            plans = sym (H.plans ∙ rw no-slices (put-none rect_of P slice));
            tiled = sym (H.groups ∙ rw none (put-none tiles_of G i));
            slices = omega (arith, H.counted, ap length no-slices);
            count = omega (arith, H.left, ap length none);
            few = omega (arith, H.ahead, H.counted, ap length no-slices);
          })

-- ---- the tables, from zeros

abbrev pub blank_plan : List SliceRect
blank_plan = replicate max_slices no_rect

abbrev pub blank_groups : List TileGroup
blank_groups = replicate max_slices no_tiles

pub blank-long : length blank_plan ≡ max_slices
blank-long = length-replicate max_slices no_rect

map-length : {A B : Type 0} (f : A → B) (l : List A) → length (map f l) ≡ length l
map-length f [] = refl
map-length f (x ∷ l) = ap suc (map-length f l)

filled : {A B : Type 0} (f : A → B) (none : B) (l : List A) → length l ≤ max_slices → put f (replicate max_slices none) 0 l ≡ table_with none (map f l)
unfolding put table_with
filled f none l h =
    let z : 0 + length (map f l) ≡ length (map f l) = omega arith in
    let m = length-replicate max_slices none in
    sets-eq (map f l) (replicate max_slices none) 0 (omega (arith, map-length f l, m)) ∙ rw (z, drop-replicate (length (map f l)) max_slices none)

module _ {ws hs : List ℕ} {d : Bool} {N : ℕ} {t : SliceTables} {n : ℕ} {P : List SliceRect} {G : List TileGroup} {slice groups : ℕ}
    (D : Done ws hs d N t n blank_plan blank_groups P G slice groups) (few : N ≤ max_slices_minus1) where
  module _ (ps : List Group) (q : walk asking (grid_with ws hs) d N first_position (entries_in t n) ≡ placed ps) where
    all-is : D.all ≡ ps
    all-is = placed_same D.all ps (sym D.whole ∙ q)

    slices_are : length (plan (grid_with ws hs) ps) ≡ suc N
    slices_are = omega (arith, walk-slices (grid_with ws hs) asking d N _ first_position ps (omega arith) q)

    plan-made : P ≡ table_with no_rect (map rect_of (plan (grid_with ws hs) ps))
    plan-made = D.plans ∙ rw all-is (filled rect_of no_rect (plan (grid_with ws hs) ps) (omega (arith, slices_are)))

    groups-made : G ≡ table_with no_tiles (map tiles_of ps)
    groups-made = D.tiled ∙ rw all-is (filled tiles_of no_tiles ps (omega (arith, D.count, D.few, ap length all-is)))

    pub all_placed : record { plan = record { num_slices = slice; slices = P }; num_groups = groups; groups = G } ≡ placed_of (plan (grid_with ws hs) ps) ps
    unfolding placed_of plan_with
    all_placed =
        let a : slice ≡ length (plan (grid_with ws hs) ps) = omega (arith, D.slices, slices_are) in
        let b : groups ≡ length ps = D.count ∙ ap length all-is in
        rw (a, b, plan-made, groups-made)

-- ---- in the columns and rows in use of the sizes that hold the grid

module _ {s : GridSizes} {p : VvcPpsPartition} {t : SliceTables} {g : Grid} {ps : List Group} (A : AcceptedIn s p t g ps)
    {ws hs : List ℕ} (W : ws ≡ take s.num_tile_columns s.column_widths) (H : hs ≡ take s.num_tile_rows s.row_heights) where
  columns-are : ws ≡ g.column_widths
  unfolding grid_of_sizes table_of
  columns-are = W ∙ rw A.held (take-append_seam g.column_widths _)

  rows-are : hs ≡ g.row_heights
  unfolding grid_of_sizes table_of
  rows-are = H ∙ rw A.held (take-append_seam g.row_heights _)

  grid-is : grid_with ws hs ≡ g
  grid-is = rw (columns-are, rows-are)

  pub accepted-columns : ProperSizes ws
  accepted-columns = rw columns-are A.proper.column_sizes

  pub accepted-rows : ProperSizes hs
  accepted-rows = rw rows-are A.proper.row_sizes

  pub accepted-some : {cs rs : List ℕ} → StartsAt ws cs → StartsAt hs rs
      → StartsAt ws cs × StartsAt hs rs × (0 < length hs * length ws) × (p.pps_num_slices_in_pic_minus1 ≤ max_slices_minus1) × ((ps : List Group) × (walked (grid_with ws hs) p t ≡ placed ps))
  accepted-some c r = (c, r, rw (columns-are, rows-are) A.proper.some-tile, A.few, (ps, rw grid-is A.walks))

  pub accepted-made : (x : Placed) → ((ps : List Group) → walked (grid_with ws hs) p t ≡ placed ps → x ≡ placed_of (plan (grid_with ws hs) ps) ps) → x ≡ placed_of (plan g ps) ps
  accepted-made x f = rw grid-is at (f ps (rw grid-is A.walks))
