-- Flags, slices and the last flag, read one behind the other.
use Rattle.std.specs.Prelude.{ℕ, ◌*◌, ◌≤◌, ◌<◌, ◌≡◌, List, [], Bool, true, false, cond, ltb, Result, Ok, Err, length, take, refl}
use Rattle.std.proofs.Common.{Bor, sym, ap, ◌∙◌, mul-le-mul_left, mul-le-mul_right, arith, take_all}
use Rattle.refusal.specs.declared.Refusal.{Refusal}
use Rattle.bit_reader.specs.declared.BitReader.{BitReader}
use Rattle.bit_reader.specs.declared.Cursor.{Cursor}
use Rattle.bit_reader.specs.Gives.{Parsed, parsed, cursor_of, Gives, held_as, value_read}
use Rattle.bit_reader.proofs.Gives.{holds, holds-none, given, given_back, refused_back, not-0}
use Rattle.partition.specs.Entry.{first_position}
use Rattle.partition.specs.Grid.{Grid, max_tiles}
use Rattle.pps_syntax.specs.PartitionSyntax.{several}
use Rattle.pps_syntax.specs.SliceFlags.{SliceFlags, codes}
use Rattle.pps_syntax.specs.SliceSyntax.{RectSlice, rect_slices}
use Rattle.pps_syntax.specs.SliceTables.{SliceTables, all_split_heights}
use Rattle.refusal.specs.Numbers.{refused}
use Rattle.syntax.specs.Elements.{or_else, is_set}
use Rattle.syntax.specs.Lists.{none}
use Rattle.syntax.specs.Syntax.{Syntax, parse, done, ◌for◌, ◌>>=◌}
use Rattle.syntax.proofs.Round.{parse-stuck}
use Rattle.syntax.proofs.Steps.{Follows, ◌⟫◌, stop, end}
use Rattle.pps_slices.specs.Grids.{GridHas}
use Rattle.pps_slices.specs.Loop.{slices_left, refused_heights}
use Rattle.pps_slices.proofs.Chain.{Begins, behind, refused_there, was_read, was_refused}
use Rattle.pps_slices.proofs.Stuck.{Stuck, stays-stuck, slices-stuck, refused-stuck}
use Rattle.pps_partition.specs.declared.slicing.SliceFlagsRead.{SliceFlagsRead}
use Rattle.pps_partition.specs.SliceFlags.{slice_flags, flags_kept}
use Rattle.pps_partition.specs.Slicing.{Slicing, slices_if, left_if, coded_slices, coded_left, across_slices, slicing, slicing_kept, slicing_left}

-- ---- the slices, where they are coded
module _ (on : Bool) (g : Grid) (deltas : Bool) (N : ℕ) where
  pub slices-coded : {p q : BitReader} {x : Result ℕ Refusal} → on ≡ true → Gives (held_as length (rect_slices g deltas N first_position).read) p q x → Gives (held_as length (slices_if on g deltas N).read) p q x
  unfolding or_else
  slices-coded e r = rw e r

  pub slices-put : (p : BitReader) (t u : SliceTables) → on ≡ true
      → u ≡ slices_left t 0 0 (value_read (rect_slices g deltas N first_position).read p) (refused_heights g deltas N first_position p.bytes.now (cursor_of p))
      → u ≡ slices_left t 0 0 (value_read (slices_if on g deltas N).read p) (left_if on g deltas N p.bytes.now (cursor_of p))
  unfolding or_else
  slices-put p t u e r = rw e r

  pub slices-absent : {p : BitReader} → on ≡ false → Gives (held_as length (slices_if on g deltas N).read) p p (Ok 0)
  unfolding or_else
  slices-absent e = rw e (given refl refl)

  pub slices-unput : (p : BitReader) (t : SliceTables) → on ≡ false → t ≡ slices_left t 0 0 (value_read (slices_if on g deltas N).read p) (left_if on g deltas N p.bytes.now (cursor_of p))
  unfolding or_else slices_left all_split_heights
  slices-unput p t e = rw e

  -- none, behind a refusal
  coded_stuck : (s : List ℕ) (c : Cursor) → Stuck c → ((slices_if on g deltas N).read s c ≡ parsed [] c) × (left_if on g deltas N s c ≡ [])
  unfolding or_else
  coded_stuck s c h = cases on
    where
      cases : (b : Bool) → ((or_else b (rect_slices g deltas N first_position) (none 26)).read s c ≡ parsed [] c) × (cond b (refused_heights g deltas N first_position s c) [] ≡ [])
      cases true = (slices-stuck g deltas N first_position s c h, refused-stuck g deltas N first_position s c h)
      cases false = (refl, refl)

-- ---- the flags as the description has them
abbrev pub flags_of : SliceFlagsRead → SliceFlags
flags_of r =
    record {
      pps_loop_filter_across_tiles_enabled_flag = r.across_tiles;
      pps_rect_slice_flag = r.rect;
      pps_single_slice_per_subpic_flag = r.single;
      pps_num_slices_in_pic_minus1 = r.num_slices_minus1;
      pps_tile_idx_delta_present_flag = r.deltas;
    }

module _ (g : Grid) where
  abbrev pub flags_read : List ℕ → Cursor → Parsed SliceFlags
  flags_read = parse (slice_flags (several g))

  abbrev rest : SliceFlags → Syntax Slicing
  rest f = ◌>>=◌ (coded_slices g f for (λ r. r.rect_slices)) (λ slices.
      ◌>>=◌ (across_slices f for (λ r. r.pps_loop_filter_across_slices_enabled_flag)) (λ across.
      done (record { flags = f; rect_slices = slices; pps_loop_filter_across_slices_enabled_flag = across })))

  slicing_begins : Begins (slicing g) flags_read rest
  unfolding slicing slice_flags parse ◌>>=◌
  slicing_begins = record { splits = λ s c. refl }

  -- the slices, and what a refused entry leaves, wherever the flags left the cursor
  slices_at : (s : List ℕ) (c : Cursor) → (parse (slicing g) s c).value.rect_slices ≡ ((coded_slices g (flags_read s c).value).read s (flags_read s c).next).value
  unfolding slicing slice_flags parse ◌>>=◌
  slices_at s c = refl

  pub left_at : (s : List ℕ) (c : Cursor) → slicing_left g s c ≡ coded_left g (flags_read s c).value s (flags_read s c).next
  unfolding slicing_left
  left_at s c = refl

  -- nothing is put where a refusal stands before them
  pub unsliced : (s : List ℕ) (c : Cursor) → Stuck (flags_read s c).next → (t : SliceTables) → t ≡ slices_left t 0 0 (parse (slicing g) s c).value.rect_slices (slicing_left g s c)
  unfolding slices_left all_split_heights coded_left
  unsliced s c h t =
      let f = (flags_read s c).value in
      let none = coded_stuck (codes f) g (is_set f.pps_tile_idx_delta_present_flag) f.pps_num_slices_in_pic_minus1 s (flags_read s c).next h in
      sym (rw (slices_at s c, left_at s c, none.0, none.1))

  pub sliced-none : (s : List ℕ) (c : Cursor) → Stuck c → (t : SliceTables) → t ≡ slices_left t 0 0 (parse (slicing g) s c).value.rect_slices (slicing_left g s c)
  sliced-none s c h = unsliced s c (stays-stuck (parse-stuck (slice_flags (several g)) refl s c h) h)

  module _ (several' : Bool) (S : several' ≡ several g) {p : BitReader} where
    pub no_flags : {q : BitReader} {e : Refusal} → Gives (held_as flags_kept (parse (slice_flags several'))) p q (Err e) → Gives (held_as slicing_kept (parse (slicing g))) p q (Err e)
    no_flags F = holds-none slicing_kept (refused_there slicing_begins (was_refused flags_kept flags_read (rw S at F))).gives

    pub no_flags_put : {q : BitReader} {e : Refusal} → Gives (held_as flags_kept (parse (slice_flags several'))) p q (Err e)
        → (t : SliceTables) → t ≡ slices_left t 0 0 (value_read (parse (slicing g)) p).rect_slices (slicing_left g p.bytes.now (cursor_of p))
    no_flags_put {q} {e} F = unsliced p.bytes.now (cursor_of p) (not-0 e q.bit_pos (refused_back (was_refused flags_kept flags_read (rw S at F))))

    module _ {q : BitReader} {f : SliceFlagsRead} (F : Gives (held_as flags_kept (parse (slice_flags several'))) p q (Ok f)) where
      flags_are : Gives flags_read p q (Ok (flags_of f))
      unfolding refused
      flags_are = let G = rw S at F in record { bytes = G.bytes; next = G.next; value = ap flags_of G.value }

      abbrev slices_read : List ℕ → Cursor → Parsed (List RectSlice)
      slices_read = (coded_slices g (flags_of f)).read

      pub no_slices : {r : BitReader} {e : Refusal} → Gives (held_as length slices_read) q r (Err e) → Gives (held_as slicing_kept (parse (slicing g))) p r (Err e)
      unfolding ◌>>=◌
      no_slices L = holds-none slicing_kept (behind slicing_begins flags_are (stop (was_refused length slices_read L))).gives

      -- refused or not
      pub sliced_put : (t u : SliceTables) → u ≡ slices_left t 0 0 (value_read slices_read q) (coded_left g (flags_of f) q.bytes.now (cursor_of q))
          → u ≡ slices_left t 0 0 (value_read (parse (slicing g)) p).rect_slices (slicing_left g p.bytes.now (cursor_of p))
      sliced_put t u e =
          let there : parsed (flags_of f) (cursor_of q) ≡ flags_read p.bytes.now (cursor_of p) = given_back flags_are in
          e ∙ ap (λ (b : Bor (List ℕ)). slices_left t 0 0 (slices_read b.now (cursor_of q)).value (coded_left g (flags_of f) b.now (cursor_of q))) flags_are.bytes
          ∙ ap (λ (x : Parsed SliceFlags). slices_left t 0 0 ((coded_slices g x.value).read p.bytes.now x.next).value (coded_left g x.value p.bytes.now x.next)) there
          ∙ rw (slices_at p.bytes.now (cursor_of p), left_at p.bytes.now (cursor_of p))

      module _ {r v : BitReader} {n across : ℕ} (L : Gives (held_as length slices_read) q r (Ok n)) (A : Gives (across_slices (flags_of f)).read r v (Ok across)) where
        abbrev slices : List RectSlice
        slices = value_read slices_read q

        all : Follows (slicing g) p v (Ok (record { flags = flags_of f; rect_slices = slices; pps_loop_filter_across_slices_enabled_flag = across }))
        unfolding ◌>>=◌
        all = behind slicing_begins flags_are (was_read length slices_read L ⟫ A ⟫ end)

        pub sliced : Gives (held_as slicing_kept (parse (slicing g))) p v (Ok (record { flags = f; num_rect_slices = n; across_slices = across }))
        sliced = holds slicing_kept all.gives (ap (λ (m : ℕ). record { flags = f; num_rect_slices = m; across_slices = across }) (sym L.value))

-- ---- the grid, in the numbers of the code
-- there is more than one tile
pub several-made : (m : ℕ) (hs : List ℕ) (g : Grid) → GridHas m hs g → ltb 1 (length hs * m) ≡ several g
several-made m hs g h = rw (h.columns_are, h.heights_are)

-- all row heights are looked at
pub all-rows : (m : ℕ) (hs : List ℕ) (g : Grid) → length hs ≤ max_tiles → GridHas m hs g → GridHas m (take max_tiles hs) g
all-rows m hs g l h = record { columns_are = h.columns_are; heights_are = h.heights_are ∙ sym (take_all max_tiles hs l) }

pub tiles-fit : (rows m : ℕ) → rows ≤ max_tiles → m < 256 → rows * m < 18446744073709551616
tiles-fit rows m low h =
    let few : m ≤ 255 = omega arith in
    omega (arith, mul-le-mul_right m low, mul-le-mul_left max_tiles few)
