-- The tests of the grid, as `grid_sizes` makes them: the number of the first check that fails does for all of them.
use Rattle.std.specs.Prelude.{ℕ, ◌-◌, ◌/◌, ◌<◌, ◌≡◌, Bool, cond, ◌&&◌, ltb}
use Rattle.std.proofs.Math.Path.{refl, sym, ap}
use Rattle.std.proofs.Common.{◌∙◌, arith, lit<}
use mathlib.Core.List.{List, [], ◌∷◌, ◌++◌}
use Rattle.std.proofs.Math.Bool.{true, false, not}
use Rattle.std.proofs.Math.Dec.{eqb}
use Rattle.std.proofs.Math.ListN.{length}
use borrow.Author.Tests.{eqb-true, eqb-false, ne_eqb, le-ltb}
use Rattle.codes.specs.Coded.{ue_symbols}
use Rattle.codes.specs.Symbols.{Symbol, check, check-true}
use Rattle.bit_writer.specs.Writing.{Writing}
use Rattle.partition.specs.Checks as checks
use Rattle.partition.specs.Checks.{Check, refused_with, first_bad, number_of, AllPass, Numbered, not_past}
use Rattle.partition.specs.Entry.{some_at_least}
use Rattle.partition.specs.Grid.{max_tile_columns, max_tiles}
use Rattle.partition.specs.Partition.{in_ctbs, explicit_checks, axis_checks, grid_checks}
use Rattle.partition.specs.Sizes.{sum, explicit_sizes, axis_sizes}
use Rattle.syntax.specs.Lists.{not-true}
use Rattle.syntax.specs.Round.{and_parts}
use Rattle.pps_syntax.specs.PartitionSyntax.{some, ctu_size, explicit}
use Rattle.pps_syntax.specs.SameTests.{not-under}
use Rattle.std.specs.Prelude.{Result}
use Rattle.refusal.specs.declared.Refusal.{Refusal}
use Rattle.refusal.specs.Numbers.{refused}
use Rattle.grid_sizes.specs.declared.GridSizes.{GridSizes}
use Rattle.refusal.specs.Answers.{with_number}
use Rattle.grid_sizes.specs.Answers.{grid_sizes}
use Rattle.grid_sizes.specs.Laws.{answer-number}
use Rattle.bit_writer.specs.Stop.{play_on, on_none, on-append, on-check, on-refused, passed}
use Rattle.pps_put_slices.specs.Sizes.{size_symbols, sizes_symbols}
use Rattle.pps_put_partition.specs.Puts.{tiles_put, grid_put}
use Rattle.pps_put_partition.specs.Made.{none_before, ctu-small, listed}

-- ---- checks as tests of writing
unfoldable pub checks_on : List Check → Writing → Writing
checks_on [] w = w
checks_on (k ∷ ks) w = checks_on ks (play_on w (check (not k.bad) k.number))

on-true : (w : Writing) (n : ℕ) → play_on w (check true n) ≡ w
on-true w n = ap (play_on w) (check-true true n refl) ∙ on_none w

checks-stuck : (ks : List Check) (w : Writing) → (w.sink.refused ≡ 0 → ⊥) → checks_on ks w ≡ w
unfolding checks_on
checks-stuck [] w h = refl
checks-stuck (k ∷ ks) w h = ap (checks_on ks) (on-refused w _ h) ∙ checks-stuck ks w h

checks-pass : (ks ls : List Check) (w : Writing) → AllPass ks → checks_on (ks ++ ls) w ≡ checks_on ls w
unfolding checks_on AllPass
checks-pass [] ls w a = refl
checks-pass (k ∷ ks) ls w a = ap (λ (b : Bool). checks_on (ks ++ ls) (play_on w (check (not b) k.number))) a.0 ∙ ap (checks_on (ks ++ ls)) (on-true w k.number) ∙ checks-pass ks ls w a.1

checks-first : (ks : List Check) (w : Writing) → Numbered ks → play_on w (check (eqb (number_of (first_bad ks)) 0) (number_of (first_bad ks))) ≡ checks_on ks w
unfolding checks_on first_bad number_of Numbered
checks-first [] w l = on-true w 0
checks-first (k ∷ ks) w l = cases k.bad (checks-first ks w l.1)
  where
    failed : (play_on w (check false k.number)).sink.refused ≡ 0 → ⊥
    failed z = not-true (passed w false k.number l.0 (on-check w false k.number) z).0

    cases : (b : Bool) → play_on w (check (eqb (number_of (first_bad ks)) 0) (number_of (first_bad ks))) ≡ checks_on ks w
        → play_on w (check (eqb (number_of (cond b (refused_with k.number) (first_bad ks))) 0) (number_of (cond b (refused_with k.number) (first_bad ks)))) ≡ checks_on ks (play_on w (check (not b) k.number))
    cases false ih = ih ∙ ap (checks_on ks) (sym (on-true w k.number))
    cases true ih =
        ap (λ (t : Bool). play_on w (check t k.number)) (ne_eqb k.number 0 (λ z. omega (arith, l.0)))
        ∙ sym (checks-stuck ks (play_on w (check false k.number)) failed)

-- ---- what an unrefused list of explicit sizes says
sizes-below : (limit n : ℕ) (vs : List ℕ) (w : Writing) → 0 < n → (play_on w (sizes_symbols limit n vs)).sink.refused ≡ 0 → some_at_least limit vs ≡ false
unfolding sizes_symbols some_at_least
sizes-below limit n [] w l h = refl
sizes-below limit n (v ∷ vs) w l h =
    let one = play_on w (size_symbols limit n v) in
    let more : (play_on one (sizes_symbols limit n vs)).sink.refused ≡ 0 = sym (ap (λ (x : Writing). x.sink.refused) (on-append w (size_symbols limit n v) (sizes_symbols limit n vs))) ∙ h in
    let first = none_before one (sizes_symbols limit n vs) refl more in
    let ok = (passed w (ltb v limit) n l (on-check w (ltb v limit) n) (none_before (play_on w (check (ltb v limit) n)) (ue_symbols v) (on-append w (check (ltb v limit) n) (ue_symbols v)) first)).0 in
    rw (sym (not-under v limit) ∙ ap not ok, sizes-below limit n vs one l more)

module _ (W H ctu : ℕ) (ws hs : List ℕ) (w : Writing) where
  abbrev a₁ : Writing
  a₁ = play_on w (ctu_size.symbols ctu)

  abbrev a₂ : Writing
  a₂ = play_on a₁ (check (some ws && some hs) 10)

  abbrev a₃ : Writing
  a₃ = play_on a₂ (ue_symbols (length ws - 1))

  abbrev a₄ : Writing
  a₄ = play_on a₃ (ue_symbols (length hs - 1))

  abbrev a₅ : Writing
  a₅ = play_on a₄ ((explicit (length ws - 1) (in_ctbs W ctu)).symbols ws)

  -- the checks of the explicit sizes pass
  fine-sizes : (tiles_put W H ctu ws hs w).sink.refused ≡ 0
      → (ltb 2 ctu ≡ false) × (eqb (length ws) 0 ≡ false) × (eqb (length hs) 0 ≡ false) × (some_at_least (in_ctbs W ctu) ws ≡ false) × (some_at_least (in_ctbs H ctu) hs ≡ false)
  unfolding tiles_put
  fine-sizes h =
      let z₅ = none_before a₅ ((explicit (length hs - 1) (in_ctbs H ctu)).symbols hs) refl h in
      let z₄ = none_before a₄ ((explicit (length ws - 1) (in_ctbs W ctu)).symbols ws) refl z₅ in
      let z₃ = none_before a₃ (ue_symbols (length hs - 1)) refl z₄ in
      let z₂ = none_before a₂ (ue_symbols (length ws - 1)) refl z₃ in
      let z₁ = none_before a₁ (check (some ws && some hs) 10) refl z₂ in
      let both = and_parts (some ws) (some hs) (passed a₁ (some ws && some hs) 10 (lit< tt) (on-check a₁ (some ws && some hs) 10) z₂).0 in
      let small = ctu-small w ctu refl z₁ in (
        le-ltb 2 ctu small,
        flip (eqb (length ws) 0) both.0,
        flip (eqb (length hs) 0) both.1,
        sizes-below (in_ctbs W ctu) 11 ws a₄ (lit< tt) (sym (ap (λ (l : List Symbol). (play_on a₄ l).sink.refused) (listed ws (in_ctbs W ctu) both.0)) ∙ z₅),
        sizes-below (in_ctbs H ctu) 11 hs a₅ (lit< tt) (sym (ap (λ (l : List Symbol). (play_on a₅ l).sink.refused) (listed hs (in_ctbs H ctu) both.1)) ∙ h),
      )
    where
      flip : (b : Bool) → not b ≡ true → b ≡ false
      flip true e = sym e
      flip false e = refl

  grid-checks : (v : Writing) → v.sink.refused ≡ 0 → tiles_put W H ctu ws hs w ≡ v → checks_on (grid_checks W H ctu ws hs) v ≡ grid_put W H ctu ws hs v
  unfolding grid_checks explicit_checks axis_checks grid_put AllPass checks_on
  grid-checks v z e =
      let f = fine-sizes (ap (λ (x : Writing). x.sink.refused) e ∙ z) in
      checks-pass
      (checks.refuse 9 (ltb 2 ctu) ∷ checks.refuse 10 (eqb (length ws) 0) ∷ checks.refuse 10 (eqb (length hs) 0) ∷ checks.refuse 11 (some_at_least (in_ctbs W ctu) ws) ∷ checks.refuse 11 (some_at_least (in_ctbs H ctu) hs) ∷ [])
      (axis_checks ws (in_ctbs W ctu) max_tile_columns ++ axis_checks hs (in_ctbs H ctu) (max_tiles / length (axis_sizes ws (in_ctbs W ctu)))) v
      (f.0, (f.1, (f.2, (f.3, (f.4, tt)))))
      ∙ rw (
        not_past (in_ctbs W ctu) (sum (explicit_sizes ws)),
        not_past max_tile_columns (length (axis_sizes ws (in_ctbs W ctu))),
        not_past (in_ctbs H ctu) (sum (explicit_sizes hs)),
        not_past (max_tiles / length (axis_sizes ws (in_ctbs W ctu))) (length (axis_sizes hs (in_ctbs H ctu))),
      )

  -- the answer's number does for the four tests
  pub grid-put : {a b : Writing} (r : Result GridSizes Refusal) → a ≡ tiles_put W H ctu ws hs w → with_number r ≡ grid_sizes W H ctu ws hs → b ≡ play_on a (check (eqb (refused r) 0) (refused r)) → b ≡ grid_put W H ctu ws hs (tiles_put W H ctu ws hs w)
  unfolding grid_put grid_checks explicit_checks axis_checks Numbered
  grid-put {a} {b} r e f h = cases (eqb a.sink.refused 0) refl ∙ ap (grid_put W H ctu ws hs) e
    where
      cases : (t : Bool) → eqb a.sink.refused 0 ≡ t → b ≡ grid_put W H ctu ws hs a
      cases true z =
          let number : refused r ≡ number_of (first_bad (grid_checks W H ctu ws hs)) = answer-number W H ctu ws hs r f in
          h ∙ ap (λ (n : ℕ). play_on a (check (eqb n 0) n)) number
          ∙ checks-first (grid_checks W H ctu ws hs) a (lit< tt, (lit< tt, (lit< tt, (lit< tt, (lit< tt, (lit< tt, (lit< tt, (lit< tt, (lit< tt, tt)))))))))
          ∙ grid-checks a (eqb-true _ _ z) (sym e)
      cases false z =
          let n = eqb-false _ _ z in
          h ∙ on-refused a _ n
          ∙ sym (rw (on-refused a _ n, on-refused a _ n, on-refused a _ n, on-refused a _ n) refl)

  -- behind a refusal it makes none
  pub grid-stuck : {a : Writing} → a ≡ tiles_put W H ctu ws hs w → (a.sink.refused ≡ 0 → ⊥) → a ≡ grid_put W H ctu ws hs (tiles_put W H ctu ws hs w)
  unfolding grid_put
  grid-stuck {a} e n = sym (rw (on-refused a _ n, on-refused a _ n, on-refused a _ n, on-refused a _ n) refl) ∙ ap (grid_put W H ctu ws hs) e
