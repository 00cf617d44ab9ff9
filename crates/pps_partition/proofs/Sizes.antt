-- The front of the block, as code comes to it.
use Rattle.std.specs.Prelude.{ℕ, zero, suc, ◌+◌, ◌≤◌, ◌<◌, min, ◌≡◌, List, [], Bool, true, false, ◌&&◌, cond, eqb, ltb, leb, Result, Ok, Err, refl, length}
use Rattle.std.proofs.Common.{Bor, sym, ap, ap₂, ◌∙◌, add-one, arith, lit<, ltb-true, le-leb}
use Rattle.std.proofs.lemmas.Bool.{lt-leb, eqb-false}
use Rattle.std.proofs.lemmas.List.Edits.{sets}
use Rattle.refusal.specs.declared.Refusal.{Refusal}
use Rattle.refusal.specs.declared.Refusal.TheVariants.{CtuSize, TileCounts}
use Rattle.refusal.specs.Numbers.{number}
use Rattle.bit_reader.specs.declared.BitReader.{BitReader}
use Rattle.bit_reader.specs.Gives.{Parsed, parsed, Gives, held_as, value_read, cursor_of, u_parsed, ue_parsed}
use Rattle.bit_reader.specs.declared.Cursor.{Cursor}
use Rattle.bit_reader.specs.Laws.{demanded-true}
use Rattle.bit_reader.specs.Reading.{refusal, demanded}
use Rattle.bit_reader.proofs.Gives.{given_back, refused_back, not-0, over, holds, holds-none, passes, fails_test, same-read}
use Rattle.partition.specs.Grid.{max_tile_columns, max_tiles}
use Rattle.partition.specs.Partition.{in_ctbs}
use Rattle.slice_loop.specs.declared.CtbCount.{CtbCount}
use Rattle.syntax.specs.Elements.{ue, limited}
use Rattle.syntax.specs.Lists.{not-true}
use Rattle.syntax.specs.Syntax.{parse, ◌>>=◌}
use Rattle.syntax.proofs.Steps.{Follows, ◌⟫◌, stop, held, fails, end}
use Rattle.pps_fields.specs.declared.lists.AxisRead.{AxisRead}
use Rattle.pps_fields.specs.Axis.{axis_of}
use Rattle.pps_fields.specs.ListReads.{list_read}
use Rattle.pps_fields.specs.Sizes.{size_read, sizes_read, sizes-many}
use Rattle.syntax.specs.Round.{and_parts}
use Rattle.pps_slices.proofs.SizeReads.{sizes-most}
use Rattle.pps_slices.proofs.Chain.{was_read, was_refused}
use Rattle.pps_slices.proofs.Stuck.{Stuck, stays-stuck, demanded-on, many-stuck}
use Rattle.pps_syntax.specs.PartitionSyntax.{ctu_size, explicit}
use Rattle.pps_partition.specs.declared.tiles.TileSizesRead.{TileSizesRead}
use Rattle.pps_partition.specs.TileSizes.{TileSizes, tile_sizes, sizes_kept}

-- a list of explicit sizes, as the description has it
listed_as : (count S k c : ℕ) → k ≡ in_ctbs S c → (s : List ℕ) (d : Cursor) → sizes_read (count + 1) k 11 s d ≡ (explicit count (in_ctbs S c)).read s d
listed_as count S k c z s d = rw (add-one count, z) (sizes-many (suc count) (in_ctbs S c) 11 10 (lit< tt) s d)

listed : (count S k c : ℕ) (a b : BitReader) (x : Result (List ℕ) Refusal) → k ≡ in_ctbs S c → Gives (sizes_read (count + 1) k 11) a b x → Gives (explicit count (in_ctbs S c)).read a b x
listed count S k c a b x z = same-read (listed_as count S k c z a.bytes.now (cursor_of a))

-- a test that failed leaves a refusal
failed-stuck : (ok : Bool) (n : ℕ) (c : Cursor) → 0 < n → ok ≡ false → Stuck (demanded ok n c)
unfolding demanded
failed-stuck true n c l e = absurd (not-true (sym e))
failed-stuck false n c l e = cases (eqb c.refused 0) refl
  where
    cases : (b : Bool) → eqb c.refused 0 ≡ b → Stuck (cond b (refusal c n) c)
    cases true q = λ z. omega (arith, z)
    cases false q = eqb-false c.refused 0 q

-- ---- the lists, wherever the CTU size and the counts left the cursor
module _ (W H : ℕ) (s : List ℕ) where
  abbrev counted : Parsed ℕ → Parsed ℕ → Cursor
  counted y z = demanded (ltb y.value max_tile_columns && ltb z.value max_tiles) 10 z.next

  abbrev widths_at : Parsed ℕ → Parsed ℕ → Parsed ℕ → Parsed (List ℕ)
  widths_at x y z = (explicit y.value (in_ctbs W x.value)).read s (counted y z)

  abbrev heights_at : Parsed ℕ → Parsed ℕ → Parsed ℕ → Parsed (List ℕ)
  heights_at x y z = (explicit z.value (in_ctbs H x.value)).read s (widths_at x y z).next

  abbrev sizes_at : Parsed ℕ → Parsed ℕ → Parsed ℕ → TileSizes
  sizes_at x y z = record { pps_log2_ctu_size_minus5 = x.value; pps_tile_column_width_minus1 = (widths_at x y z).value; pps_tile_row_height_minus1 = (heights_at x y z).value }

  module _ (c : Cursor) where
    abbrev ctu_at : Parsed ℕ
    ctu_at = ctu_size.read s c

    abbrev columns_at : Parsed ℕ
    columns_at = ue.read s ctu_at.next

    abbrev rows_at : Parsed ℕ
    rows_at = ue.read s columns_at.next

    sizes_are : (parse (tile_sizes W H) s c).value ≡ sizes_at ctu_at columns_at rows_at
    unfolding tile_sizes parse ◌>>=◌
    sizes_are = refl

    -- none, behind a refusal
    none_listed : Stuck (counted columns_at rows_at) → ((parse (tile_sizes W H) s c).value.pps_tile_column_width_minus1 ≡ []) × ((parse (tile_sizes W H) s c).value.pps_tile_row_height_minus1 ≡ [])
    none_listed h =
        let w = many-stuck (limited ue (λ v. ltb v (in_ctbs W ctu_at.value)) 11 (lit< tt)) s (suc columns_at.value) 10 (counted columns_at rows_at) h in
        let behind = ap (λ (x : Parsed (List ℕ)). x.next) w in
        let v = many-stuck (limited ue (λ v. ltb v (in_ctbs H ctu_at.value)) 11 (lit< tt)) s (suc rows_at.value) 10 (widths_at ctu_at columns_at rows_at).next (stays-stuck behind h) in
        (ap (λ (t : TileSizes). t.pps_tile_column_width_minus1) sizes_are ∙ ap (λ (x : Parsed (List ℕ)). x.value) w, ap (λ (t : TileSizes). t.pps_tile_row_height_minus1) sizes_are ∙ ap (λ (x : Parsed (List ℕ)). x.value) v)

    stuck_rows : Stuck rows_at.next → Stuck (counted columns_at rows_at)
    stuck_rows h = stays-stuck (demanded-on _ 10 refl h) h

    stuck_columns : Stuck columns_at.next → Stuck (counted columns_at rows_at)
    stuck_columns h = stuck_rows (stays-stuck (ue.stuck refl s columns_at.next h) h)

    stuck_ctu : Stuck ctu_at.next → Stuck (counted columns_at rows_at)
    stuck_ctu h = stuck_columns (stays-stuck (ue.stuck refl s ctu_at.next h) h)

    -- there are no more rows than a table of the limit holds
    pub rows_few : length (parse (tile_sizes W H) s c).value.pps_tile_row_height_minus1 ≤ max_tiles
    rows_few = cases (ltb columns_at.value max_tile_columns && ltb rows_at.value max_tiles) refl
      where
        cases : (b : Bool) → (ltb columns_at.value max_tile_columns && ltb rows_at.value max_tiles) ≡ b → length (parse (tile_sizes W H) s c).value.pps_tile_row_height_minus1 ≤ max_tiles
        cases true e =
            let few = ltb-true rows_at.value max_tiles (and_parts (ltb columns_at.value max_tile_columns) (ltb rows_at.value max_tiles) e).1 in
            omega (
              arith,
              few,
              ap (λ (t : TileSizes). length t.pps_tile_row_height_minus1) sizes_are,
              ap (λ (x : Parsed (List ℕ)). length x.value) (listed_as rows_at.value H (in_ctbs H ctu_at.value) ctu_at.value refl s (widths_at ctu_at columns_at rows_at).next),
              sizes-most (rows_at.value + 1) (in_ctbs H ctu_at.value) 11 s (widths_at ctu_at columns_at rows_at).next,
            )
        cases false e = omega (arith, ap length (none_listed (failed-stuck _ 10 rows_at.next (lit< tt) e)).1)

-- what was read is in the tables
abbrev pub SizesPut : ℕ → ℕ → BitReader → List ℕ → List ℕ → List ℕ → List ℕ → Type 0
SizesPut W H p t t' u u' = (t' ≡ sets t 0 (value_read (parse (tile_sizes W H)) p).pps_tile_column_width_minus1) × (u' ≡ sets u 0 (value_read (parse (tile_sizes W H)) p).pps_tile_row_height_minus1)

none_put : (W H : ℕ) (p : BitReader) → Stuck (counted W H p.bytes.now (columns_at W H p.bytes.now (cursor_of p)) (rows_at W H p.bytes.now (cursor_of p))) → (t u : List ℕ) → SizesPut W H p t t u u
none_put W H p h t u = let none = none_listed W H p.bytes.now (cursor_of p) h in (ap (sets t 0) (sym none.0), ap (sets u 0) (sym none.1))

-- ---- as code comes to it
module _ (W H : ℕ) {p : BitReader} where
  kept : {q : BitReader} {t : TileSizes} {r : TileSizesRead} → Follows (tile_sizes W H) p q (Ok t) → r ≡ sizes_kept W H t → Gives (held_as (sizes_kept W H) (parse (tile_sizes W H))) p q (Ok r)
  kept f e = holds (sizes_kept W H) f.gives e

  not-kept : {q : BitReader} {e : Refusal} → Follows (tile_sizes W H) p q (Err e) → Gives (held_as (sizes_kept W H) (parse (tile_sizes W H))) p q (Err e)
  not-kept f = holds-none (sizes_kept W H) f.gives

  module _ {q : BitReader} {ctu : ℕ} (C : Gives (u_parsed 2) p q (Ok ctu)) where
    pub large_ctu : 2 < ctu → Gives (held_as (sizes_kept W H) (parse (tile_sizes W H))) p q (Err CtuSize)
    unfolding tile_sizes ◌>>=◌ number
    large_ctu h = not-kept (stop (fails_test (λ v. leb v 2) 9 C (lt-leb _ _ h) refl))

    pub large_ctu_put : 2 < ctu → (t u : List ℕ) → SizesPut W H p t t u u
    unfolding number
    large_ctu_put h =
        let bad : Gives ctu_size.read p q (Err CtuSize) = fails_test (λ v. leb v 2) 9 C (lt-leb _ _ h) refl in
        none_put W H p (stuck_ctu W H p.bytes.now (cursor_of p) (not-0 CtuSize q.bit_pos (refused_back bad)))

    module _ (small : ctu ≤ 2) where
      coded : Gives ctu_size.read p q (Ok ctu)
      coded = passes (λ v. leb v 2) 9 C (le-leb _ _ small)

      ctu_is : ctu_at W H p.bytes.now (cursor_of p) ≡ parsed ctu (cursor_of q)
      ctu_is = sym (given_back coded)

      pub no_columns_put : {r : BitReader} {e : Refusal} → Gives ue_parsed q r (Err e) → (t u : List ℕ) → SizesPut W H p t t u u
      no_columns_put {r} {e} m =
          let is = refused_back (over C.bytes m) ∙ ap (λ (x : Parsed ℕ). (ue.read p.bytes.now x.next).next) (sym ctu_is) in
          none_put W H p (stuck_columns W H p.bytes.now (cursor_of p) (not-0 e r.bit_pos is))

      pub no_columns : {r : BitReader} {e : Refusal} → Gives ue_parsed q r (Err e) → Gives (held_as (sizes_kept W H) (parse (tile_sizes W H))) p r (Err e)
      unfolding tile_sizes ◌>>=◌
      no_columns m = not-kept (coded ⟫ stop m)

      module _ {r : BitReader} {m : ℕ} (M : Gives ue_parsed q r (Ok m)) where
        columns_is : columns_at W H p.bytes.now (cursor_of p) ≡ parsed m (cursor_of r)
        columns_is = ap (λ (x : Parsed ℕ). ue.read p.bytes.now x.next) ctu_is ∙ sym (given_back (over C.bytes M))

        pub no_rows_put : {v : BitReader} {e : Refusal} → Gives ue_parsed r v (Err e) → (t u : List ℕ) → SizesPut W H p t t u u
        no_rows_put {v} {e} n =
            let is = refused_back (over (M.bytes ∙ C.bytes) n) ∙ ap (λ (x : Parsed ℕ). (ue.read p.bytes.now x.next).next) (sym columns_is) in
            none_put W H p (stuck_rows W H p.bytes.now (cursor_of p) (not-0 e v.bit_pos is))

        pub no_rows : {v : BitReader} {e : Refusal} → Gives ue_parsed r v (Err e) → Gives (held_as (sizes_kept W H) (parse (tile_sizes W H))) p v (Err e)
        unfolding tile_sizes ◌>>=◌
        no_rows n = not-kept (coded ⟫ M ⟫ stop n)

        module _ {v : BitReader} {n : ℕ} (N : Gives ue_parsed r v (Ok n)) where
          rows_is : rows_at W H p.bytes.now (cursor_of p) ≡ parsed n (cursor_of v)
          rows_is = ap (λ (x : Parsed ℕ). ue.read p.bytes.now x.next) columns_is ∙ sym (given_back (over (M.bytes ∙ C.bytes) N))

          -- the lists, behind what was read
          sizes_there : value_read (parse (tile_sizes W H)) p ≡ sizes_at W H p.bytes.now (parsed ctu (cursor_of q)) (parsed m (cursor_of r)) (parsed n (cursor_of v))
          sizes_there =
              sizes_are W H p.bytes.now (cursor_of p)
              ∙ ap (λ (x : Parsed ℕ). sizes_at W H p.bytes.now x (columns_at W H p.bytes.now (cursor_of p)) (rows_at W H p.bytes.now (cursor_of p))) ctu_is
              ∙ ap₂ (λ (y z : Parsed ℕ). sizes_at W H p.bytes.now (parsed ctu (cursor_of q)) y z) columns_is rows_is

          pub many_counted_put : (ltb m max_tile_columns && ltb n max_tiles) ≡ false → (t u : List ℕ) → SizesPut W H p t t u u
          many_counted_put h =
              let test : (ltb (columns_at W H p.bytes.now (cursor_of p)).value max_tile_columns && ltb (rows_at W H p.bytes.now (cursor_of p)).value max_tiles) ≡ false =
              ap₂ (λ (y z : Parsed ℕ). ltb y.value max_tile_columns && ltb z.value max_tiles) columns_is rows_is ∙ h in
              none_put W H p (failed-stuck _ 10 _ (lit< tt) test)

          pub many_counted : (ltb m max_tile_columns && ltb n max_tiles) ≡ false → Gives (held_as (sizes_kept W H) (parse (tile_sizes W H))) p v (Err TileCounts)
          unfolding tile_sizes ◌>>=◌ number
          many_counted h = not-kept (coded ⟫ M ⟫ N ⟫ fails h refl)

          module _ (few : (ltb m max_tile_columns && ltb n max_tiles) ≡ true) where
            module _ {w : ℕ} (wide : w ≡ in_ctbs W (min ctu 5)) where
              wide_is : w ≡ in_ctbs W ctu
              wide_is = wide ∙ ap (in_ctbs W) (omega arith)

              -- the widths that were read
              widths_are : widths_at W H p.bytes.now (parsed ctu (cursor_of q)) (parsed m (cursor_of r)) (parsed n (cursor_of v)) ≡ sizes_read (m + 1) w 11 v.bytes.now (cursor_of v)
              widths_are =
                  ap (λ (c : Cursor). (explicit m (in_ctbs W ctu)).read p.bytes.now c) (demanded-true _ 10 (cursor_of v) few)
                  ∙ ap (λ (b : Bor (List ℕ)). (explicit m (in_ctbs W ctu)).read b.now (cursor_of v)) (sym (N.bytes ∙ M.bytes ∙ C.bytes))
                  ∙ sym (listed_as m W w ctu wide_is v.bytes.now (cursor_of v))

              widths_put : (t : List ℕ) {t' : List ℕ} → t' ≡ sets t 0 (value_read (sizes_read (m + 1) w 11) v) → t' ≡ sets t 0 (value_read (parse (tile_sizes W H)) p).pps_tile_column_width_minus1
              widths_put t e = e ∙ ap (sets t 0) (sym (ap (λ (z : TileSizes). z.pps_tile_column_width_minus1) sizes_there ∙ ap (λ (x : Parsed (List ℕ)). x.value) widths_are))

              pub no_widths_put : {a : BitReader} {e : Refusal} → Gives (held_as (λ (es : List ℕ). axis_of es w) (sizes_read (m + 1) w 11)) v a (Err e) → (t u : List ℕ) {t' : List ℕ}
                  → t' ≡ sets t 0 (value_read (sizes_read (m + 1) w 11) v) → SizesPut W H p t t' u u
              no_widths_put {a} {e} A t u z =
                  let at : Cursor = (widths_at W H p.bytes.now (parsed ctu (cursor_of q)) (parsed m (cursor_of r)) (parsed n (cursor_of v))).next in
                  let is : refusal (cursor_of a) (number e) ≡ at = refused_back A ∙ ap (λ (x : Parsed (List ℕ)). x.next) (sym widths_are) in
                  let none = many-stuck (limited ue (λ x. ltb x (in_ctbs H ctu)) 11 (lit< tt)) p.bytes.now (suc n) 10 at (not-0 e a.bit_pos is) in
                  (widths_put t z, ap (sets u 0) (sym (ap (λ (z : TileSizes). z.pps_tile_row_height_minus1) sizes_there ∙ ap (λ (x : Parsed (List ℕ)). x.value) none)))

              pub no_widths : {a : BitReader} {e : Refusal} → Gives (held_as (λ (es : List ℕ). axis_of es w) (sizes_read (m + 1) w 11)) v a (Err e) → Gives (held_as (sizes_kept W H) (parse (tile_sizes W H))) p a (Err e)
              unfolding tile_sizes ◌>>=◌
              no_widths {a} A = not-kept (coded ⟫ M ⟫ N ⟫ held few (stop (listed m W w ctu v a _ wide_is (was_refused (λ (es : List ℕ). axis_of es w) (sizes_read (m + 1) w 11) A))))

              module _ {a : BitReader} {x : AxisRead} (A : Gives (held_as (λ (es : List ℕ). axis_of es w) (sizes_read (m + 1) w 11)) v a (Ok x)) where
                abbrev ws : List ℕ
                ws = value_read (sizes_read (m + 1) w 11) v

                widths : Gives (explicit m (in_ctbs W ctu)).read v a (Ok ws)
                widths = listed m W w ctu v a _ wide_is (was_read (λ (es : List ℕ). axis_of es w) (sizes_read (m + 1) w 11) A)

                module _ {h : ℕ} (high : h ≡ in_ctbs H (min ctu 5)) where
                  high_is : h ≡ in_ctbs H ctu
                  high_is = high ∙ ap (in_ctbs H) (omega arith)

                  -- both, refused at a height or not
                  pub sizes_put : (t u : List ℕ) {t' u' : List ℕ} → t' ≡ sets t 0 ws → u' ≡ sets u 0 (value_read (sizes_read (n + 1) h 11) a) → SizesPut W H p t t' u u'
                  sizes_put t u e f =
                      let behind : (widths_at W H p.bytes.now (parsed ctu (cursor_of q)) (parsed m (cursor_of r)) (parsed n (cursor_of v))).next ≡ cursor_of a =
                      ap (λ (x : Parsed (List ℕ)). x.next) (widths_are ∙ sym (given_back (was_read (λ (es : List ℕ). axis_of es w) (sizes_read (m + 1) w 11) A))) in
                      let heights : heights_at W H p.bytes.now (parsed ctu (cursor_of q)) (parsed m (cursor_of r)) (parsed n (cursor_of v)) ≡ sizes_read (n + 1) h 11 a.bytes.now (cursor_of a) =
                      ap (λ (c : Cursor). (explicit n (in_ctbs H ctu)).read p.bytes.now c) behind
                      ∙ ap (λ (b : Bor (List ℕ)). (explicit n (in_ctbs H ctu)).read b.now (cursor_of a)) (sym (A.bytes ∙ N.bytes ∙ M.bytes ∙ C.bytes))
                      ∙ sym (listed_as n H h ctu high_is a.bytes.now (cursor_of a)) in
                      (widths_put t e, f ∙ ap (sets u 0) (sym (ap (λ (z : TileSizes). z.pps_tile_row_height_minus1) sizes_there ∙ ap (λ (x : Parsed (List ℕ)). x.value) heights)))

                  pub no_heights : {b : BitReader} {e : Refusal} → Gives (held_as (λ (es : List ℕ). axis_of es h) (sizes_read (n + 1) h 11)) a b (Err e) → Gives (held_as (sizes_kept W H) (parse (tile_sizes W H))) p b (Err e)
                  unfolding tile_sizes ◌>>=◌
                  no_heights {b} B = not-kept (coded ⟫ M ⟫ N ⟫ held few (widths ⟫ stop (listed n H h ctu a b _ high_is (was_refused (λ (es : List ℕ). axis_of es h) (sizes_read (n + 1) h 11) B))))

                  module _ {b : BitReader} {y : AxisRead} (B : Gives (held_as (λ (es : List ℕ). axis_of es h) (sizes_read (n + 1) h 11)) a b (Ok y)) where
                    abbrev hs : List ℕ
                    hs = value_read (sizes_read (n + 1) h 11) a

                    all : Follows (tile_sizes W H) p b (Ok (record { pps_log2_ctu_size_minus5 = ctu; pps_tile_column_width_minus1 = ws; pps_tile_row_height_minus1 = hs }))
                    unfolding tile_sizes ◌>>=◌
                    all = coded ⟫ M ⟫ N ⟫ held few (widths ⟫ listed n H h ctu a b _ high_is (was_read (λ (es : List ℕ). axis_of es h) (sizes_read (n + 1) h 11) B) ⟫ end)

                    pub sizes_made : {pic : CtbCount} → pic.0 ≡ h → Gives (held_as (sizes_kept W H) (parse (tile_sizes W H))) p b (Ok (record { ctu = ctu; columns = x; rows = y; pic_height = pic }))
                    sizes_made {pic} e =
                        let columns_are : x ≡ axis_of ws (in_ctbs W ctu) = sym A.value ∙ ap (axis_of ws) wide_is in
                        let rows_are : y ≡ axis_of hs (in_ctbs H ctu) = sym B.value ∙ ap (axis_of hs) high_is in
                        kept all (rw (columns_are, rows_are, ← high_is, ← e))
