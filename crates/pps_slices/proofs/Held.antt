-- What holds at each turn of the slice loop over the tables: what is left to be read and put, with what is there,
-- makes the whole.
use Rattle.std.specs.Prelude.{ℕ, suc, ◌+◌, ◌-◌, ◌≤◌, ◌<◌, ◌≡◌, List, [], Bool, true, ltb, length, set, Ok, Err, refl}
use Rattle.std.specs.Option.{unwrap_or}
use Rattle.std.proofs.Common.{Bor, sym, ap, ap₂, subst, ◌∙◌, add-zero, arith, lt-ltb, le-ltb}
use Rattle.std.proofs.Math.Nat.{zero-add, sub-zero}
use Rattle.std.proofs.lemmas.List.Edits.{sets}
use Rattle.refusal.specs.declared.Refusal.{Refusal}
use Rattle.refusal.specs.Numbers.{number}
use Rattle.bit_reader.specs.declared.BitReader.{BitReader}
use Rattle.bit_reader.specs.Gives.{Parsed, parsed, cursor_of, Gives, held_as}
use Rattle.bit_reader.specs.Reading.{refusal}
use Rattle.bit_reader.proofs.Gives.{given, given_back, refused_back, refuses, not-0, over}
use Rattle.partition.specs.Entry.{Position, first_position, next_position}
use Rattle.partition.specs.Grid.{Grid}
use Rattle.partition.specs.Walk.{onward}
use Rattle.slice_loop.specs.declared.LoopPosition.{LoopPosition}
use Rattle.slice_loop.specs.Loop.{Follows, position_of}
use Rattle.syntax.specs.Syntax.{parse}
use Rattle.pps_syntax.specs.SliceSyntax.{RectSlice, entry_of, rect_slice, rect_slices}
use Rattle.pps_syntax.specs.SliceTables.{SliceTables, slice_tables, row_of}
use Rattle.pps_slices.specs.declared.entry.RectSliceRead.{RectSliceRead}
use Rattle.pps_slices.specs.Entries.{slice_of, read_row, heights_read, EntryHeld}
use Rattle.pps_slices.specs.Loop.{slices_left, refused_from, refused_heights}
use Rattle.pps_slices.proofs.Turns.{put_slice, left-end, left-more, turns, turns-end, turns_more, turns_stop}

module _ (g : Grid) (deltas : Bool) (N : ℕ) (p₀ : BitReader) (t₀ : SliceTables) where
  abbrev whole : Parsed (List RectSlice)
  whole = (rect_slices g deltas N first_position).read p₀.bytes.now (cursor_of p₀)

  pub record Held (t : SliceTables) (p : BitReader) (at : LoopPosition) (i from : ℕ) : Type 0 where
    pub bytes : p.bytes ≡ p₀.bytes
    pub place : Position
    pub follows : Follows N at.slice.0 at.tile.0 place
    pub precedes : at.preceding_height ≡ place.preceding_height_minus1
    pub few : i ≤ place.slice
    pub room : from ≤ place.slice
    pub within : i ≤ N
    pub next : whole.next ≡ ((turns g deltas N (N - i) place).read p₀.bytes.now (cursor_of p)).next
    pub counted : length whole.value ≡ i + length ((turns g deltas N (N - i) place).read p₀.bytes.now (cursor_of p)).value
    pub tables : slices_left t₀ 0 0 whole.value (refused_heights g deltas N first_position p₀.bytes.now (cursor_of p₀))
        ≡ slices_left t i from ((turns g deltas N (N - i) place).read p₀.bytes.now (cursor_of p)).value (refused_from g deltas N (N - i) place p₀.bytes.now (cursor_of p))

  pub held-begins : Held t₀ p₀ (record { slice = record { 0 = 0 }; tile = record { 0 = 0 }; preceding_height = 0 }) 0 0
  unfolding rect_slices refused_heights
  held-begins =
      record {
        bytes = refl;
        place = first_position;
        follows = record { slice_is = omega arith; tile_is = λ l. refl };
        precedes = refl;
        few = omega arith;
        room = omega arith;
        within = omega arith;
        next = rw (sub-zero N);
        counted = rw (sub-zero N, zero-add (length ((turns g deltas N N first_position).read p₀.bytes.now (cursor_of p₀)).value));
        tables = rw (sub-zero N);
      }

tables_equal : {es es' : List (List ℕ)} {sh sh' : List ℕ} → es ≡ es' → sh ≡ sh' → slice_tables es sh ≡ slice_tables es' sh'
tables_equal p q = rw (p, q)

-- an entry that was read, and its explicit slice heights, are in their places
stored-slice : (i from : ℕ) (r : RectSliceRead) (hs : List ℕ) (t u : SliceTables) → unwrap_or r.split_count 0 ≡ length hs → u.entries ≡ set t.entries i (read_row r) → u.split_heights ≡ sets t.split_heights from hs
    → u ≡ put_slice t i from (slice_of r hs)
unfolding put_slice row_of
stored-slice i from r hs t u e p q = tables_equal (p ∙ rw e) q

positions : {a b c a' b' c' : ℕ} → a ≡ a' → b ≡ b' → c ≡ c' → ◌≡◌ {A = Position} (record { slice = a; tile = b; preceding_height_minus1 = c }) (record { slice = a'; tile = b'; preceding_height_minus1 = c' })
positions p q r = rw (p, q, r)

tables-from : {t u : SliceTables} {i i' j j' : ℕ} → u ≡ t → i ≡ i' → j ≡ j' → (rs : List RectSlice) (left : List ℕ) → slices_left t i j rs left ≡ slices_left u i' j' rs left
tables-from p q r rs left = rw (p, q, r)

module _ {g : Grid} {deltas : Bool} {N : ℕ} {p₀ : BitReader} {t₀ t : SliceTables} {p : BitReader} {at : LoopPosition} {i from : ℕ} (H : Held g deltas N p₀ t₀ t p at i from) where
  abbrev s : List ℕ
  s = p₀.bytes.now

  abbrev all : Parsed (List RectSlice)
  all = (rect_slices g deltas N first_position).read s (cursor_of p₀)

  -- the tables as the loop is to leave them
  abbrev pub all_put : SliceTables
  all_put = slices_left t₀ 0 0 all.value (refused_heights g deltas N first_position s (cursor_of p₀))

  -- the counts stay below 2^32
  pub held_small : at.slice.0 < N → (from < N) × (i < N)
  held_small go = (omega (arith, H.room, H.follows.slice_is), omega (arith, H.few, H.follows.slice_is))

  module _ (h : N ≤ at.slice.0) where
    none_left : ((turns g deltas N (N - i) H.place).read s (cursor_of p) ≡ parsed [] (cursor_of p)) × (refused_from g deltas N (N - i) H.place s (cursor_of p) ≡ [])
    none_left = turns-end g deltas N s (cursor_of p) H.place (N - i) (le-ltb H.place.slice N (omega (arith, H.follows.slice_is)))

    pub held-ends : Gives (held_as length (rect_slices g deltas N first_position).read) p₀ p (Ok i)
    held-ends = given H.bytes (ap₂ parsed (sym (H.counted ∙ rw (none_left.0, add-zero i))) (sym (H.next ∙ rw none_left.0)))

    pub held-put : t ≡ all_put
    held-put = sym (H.tables ∙ rw (none_left.0, none_left.1) (left-end t i from []))

  module _ (go : at.slice.0 < N) where
    -- where the loop stands is where the description does
    here : position_of at ≡ H.place
    here =
        let e : at.slice.0 ≡ H.place.slice = omega (arith, H.follows.slice_is) in
        let l : H.place.slice < N = omega arith in
        positions e (H.follows.tile_is l) H.precedes

    abbrev left_over : ℕ
    left_over = N - (i + 1)

    one_less : N - i ≡ suc left_over
    one_less = omega (arith, H.few, H.follows.slice_is)

    on : ltb H.place.slice N ≡ true
    on = lt-ltb H.place.slice N (omega (arith, H.follows.slice_is))

    module _ {q : BitReader} {e : Refusal} (E : Gives (parse (rect_slice g deltas N (position_of at))) p q (Err e)) where
      entry_refused : refusal (cursor_of q) (number e) ≡ (parse (rect_slice g deltas N H.place) s (cursor_of p)).next
      entry_refused = refused_back (over H.bytes E) ∙ ap (λ (k : Position). (parse (rect_slice g deltas N k) s (cursor_of p)).next) here

      stops : ((turns g deltas N (suc left_over) H.place).read s (cursor_of p) ≡ parsed [] (parse (rect_slice g deltas N H.place) s (cursor_of p)).next)
          × (refused_from g deltas N (suc left_over) H.place s (cursor_of p) ≡ (parse (rect_slice g deltas N H.place) s (cursor_of p)).value.pps_exp_slice_height_in_ctus_minus1)
      stops = turns_stop g deltas N s (cursor_of p) H.place left_over on (not-0 e q.bit_pos entry_refused)

      pub held-stops : Gives (held_as length (rect_slices g deltas N first_position).read) p₀ q (Err e)
      held-stops = refuses (E.bytes ∙ H.bytes) (entry_refused ∙ sym (H.next ∙ rw (one_less, stops.0)))

      -- the explicit slice heights that were read of it are in their table
      pub held-left : (u : SliceTables) → u.entries ≡ t.entries → u.split_heights ≡ sets t.split_heights from (heights_read g deltas N (position_of at) p) → u ≡ all_put
      held-left u f h =
          let hs : heights_read g deltas N (position_of at) p ≡ (parse (rect_slice g deltas N H.place) s (cursor_of p)).value.pps_exp_slice_height_in_ctus_minus1 =
          ap (λ (b : Bor (List ℕ)). (parse (rect_slice g deltas N (position_of at)) b.now (cursor_of p)).value.pps_exp_slice_height_in_ctus_minus1) H.bytes
          ∙ ap (λ (k : Position). (parse (rect_slice g deltas N k) s (cursor_of p)).value.pps_exp_slice_height_in_ctus_minus1) here in
          tables_equal f (h ∙ ap (sets t.split_heights from) hs) ∙ sym (H.tables ∙ rw (one_less, stops.0, stops.1) (left-end t i from _))

    pub held_more : {q : BitReader} {r : RectSliceRead} (u : SliceTables) → EntryHeld g deltas N (position_of at) p q r → u.entries ≡ set t.entries i (read_row r)
        → u.split_heights ≡ sets t.split_heights from (heights_read g deltas N (position_of at) p)
        → Held g deltas N p₀ t₀ u q r.next (i + 1) (from + unwrap_or r.split_count 0)
    unfolding next_position
    held_more {q} {r} u E st h =
        let hs : List ℕ = heights_read g deltas N (position_of at) p in
        let entry : RectSlice = slice_of r hs in
        let read : parsed entry (cursor_of q) ≡ parse (rect_slice g deltas N H.place) s (cursor_of p) =
        given_back (over H.bytes E.gives) ∙ ap (λ (k : Position). parse (rect_slice g deltas N k) s (cursor_of p)) here in
        let e = turns_more g deltas N s (cursor_of p) H.place left_over on entry (cursor_of q) read refl in
        let place : Position = onward g deltas H.place (entry_of entry) in
        let same : onward g deltas (position_of at) (entry_of entry) ≡ place = ap (λ (k : Position). onward g deltas k (entry_of entry)) here in
        let put : u ≡ put_slice t i from entry = stored-slice i from r hs t u E.count st h in
        let rest = (turns g deltas N left_over place).read s (cursor_of q) in
        let left = refused_from g deltas N left_over place s (cursor_of q) in
        record {
          bytes = E.gives.bytes ∙ H.bytes;
          place = place;
          follows = subst (λ (k : Position). Follows N r.next.slice.0 r.next.tile.0 k) same E.follows;
          precedes = E.precedes;
          few = omega (arith, H.few, E.moves.1, ap (λ (k : Position). k.slice) same, ap (λ (k : Position). k.slice) here);
          room = omega (arith, H.room, E.moves.0, E.count, ap (λ (k : Position). k.slice) same, ap (λ (k : Position). k.slice) here);
          within = omega (arith, H.few, H.follows.slice_is);
          next = H.next ∙ rw (one_less, e.0);
          counted = H.counted ∙ rw (one_less, e.0) (omega arith);
          tables =
              H.tables ∙ rw (one_less, e.0, e.1)
              (left-more t i from entry rest.value left
              ∙ tables-from put (omega arith) (ap (λ (n : ℕ). from + n) (sym E.count)) rest.value left);
        }
