-- The way to the next tile, as code comes to it.
use Rattle.std.specs.Prelude.{ℕ, ◌≤◌, min, ◌≡◌, Bool, true, false, ltb, ℤ, Result, Ok, Err, Some, None, refl}
use Rattle.std.proofs.Common.{sym, ap, ◌∙◌, arith, ltb-true, ltb-false, lt-ltb, le-ltb}
use Rattle.refusal.specs.declared.Refusal.{Refusal}
use Rattle.refusal.specs.declared.Refusal.TheVariants.{TileIdxDelta, WalkLeavesGrid}
use Rattle.refusal.specs.Numbers.{number}
use Rattle.bit_reader.specs.declared.BitReader.{BitReader}
use Rattle.bit_reader.specs.Gives.{Gives, held_as}
use Rattle.bit_reader.proofs.Gives.{given, holds, holds-none}
use Rattle.partition.specs.Entry.{tile_after_delta, delta_refused, default_advance}
use Rattle.slice_loop.specs.declared.TileIdx.{TileIdx}
use Rattle.slice_loop.specs.Answers.{tile_idx_of, next_by_delta}
use Rattle.slice_loop.specs.Laws.{held-tile, delta-tile}
use Rattle.syntax.specs.Elements.{se}
use Rattle.syntax.specs.Syntax.{parse, ◌>>=◌}
use Rattle.syntax.proofs.Steps.{Follows, ◌⟫◌, stop, held, fails, end, coded, uncoded}
use Rattle.pps_slices.specs.declared.parts.MoveRead.{MoveRead}
use Rattle.pps_slices.specs.Parts.{delta_part, move_kept}

module _ (columns tiles : ℕ) (deltas more : Bool) (t width height : ℕ) where
  abbrev pub Move : BitReader → BitReader → Result MoveRead Refusal → Type 0
  Move p q x = Gives (held_as (move_kept columns deltas more t width height) (parse (delta_part columns tiles deltas more t width height))) p q x

  moved : {p q : BitReader} {d : ℤ} {m : MoveRead} → Follows (delta_part columns tiles deltas more t width height) p q (Ok d) → m ≡ move_kept columns deltas more t width height d → Move p q (Ok m)
  moved f e = holds (move_kept columns deltas more t width height) f.gives e

  not-moved : {p q : BitReader} {e : Refusal} → Follows (delta_part columns tiles deltas more t width height) p q (Err e) → Move p q (Err e)
  not-moved f = holds-none (move_kept columns deltas more t width height) f.gives

-- held in 32 bits or not, a tile is inside the same grids
inside-same : (tiles x : ℕ) → tiles ≤ 4294967295 → ltb (tile_idx_of x).0 tiles ≡ ltb x tiles
unfolding tile_idx_of
inside-same tiles x h = cases (ltb x tiles) refl
  where
    cases : (b : Bool) → ltb x tiles ≡ b → ltb (min 4294967295 x) tiles ≡ b
    cases true e = lt-ltb (min 4294967295 x) tiles (omega (arith, ltb-true x tiles e))
    cases false e = le-ltb (min 4294967295 x) tiles (omega (arith, ltb-false x tiles e))

module _ (columns tiles : ℕ) (t width height : ℕ) where
  -- no slice is to come
  pub last_move : (deltas more : Bool) {p : BitReader} → more ≡ false → Move columns tiles deltas more t width height p p (Ok (record { delta = None; tile = record { 0 = t } }))
  unfolding delta_part ◌>>=◌
  last_move true more e = rw e (moved columns tiles true false t width height (uncoded _ _ _ refl (given refl refl) ⟫ held refl (held refl end)) refl)
  last_move false more e = rw e (moved columns tiles false false t width height (uncoded _ _ _ refl (given refl refl) ⟫ held refl (held refl end)) refl)

  -- a delta is coded
  module _ (deltas more : Bool) {p q : BitReader} (D : deltas ≡ true) (M : more ≡ true) where
    pub move_uncoded : {e : Refusal} → Gives se.read p q (Err e) → Move columns tiles deltas more t width height p q (Err e)
    unfolding delta_part ◌>>=◌
    move_uncoded g = rw (D, M) (not-moved columns tiles true true t width height (stop (coded _ _ _ refl g)))

    module _ {d : ℤ} (g : Gives se.read p q (Ok d)) (fits : tiles ≤ 4294967295) where
      pub move_by_delta : {x : TileIdx} → Ok x ≡ next_by_delta tiles t d → Move columns tiles deltas more t width height p q (Ok (record { delta = Some d; tile = x }))
      unfolding delta_part ◌>>=◌ next_by_delta
      move_by_delta {x} e = rw (D, M) (cases (delta_refused tiles t d) refl)
        where
          cases : (b : Bool) → delta_refused tiles t d ≡ b → Move columns tiles true true t width height p q (Ok (record { delta = Some d; tile = x }))
          cases false r = moved columns tiles true true t width height (coded _ _ _ refl g ⟫ held (rw r) (held refl end)) (ap (λ (z : TileIdx). record { delta = Some d; tile = z }) (let same : Ok x ≡ Ok (record { 0 = tile_after_delta t d }) = e ∙ delta-tile tiles t d fits r in cc))
          cases true r = absurd (let other : Ok x ≡ Err TileIdxDelta = rw r at e in cc)

      pub move_wrong : {y : Refusal} → Err y ≡ next_by_delta tiles t d → Move columns tiles deltas more t width height p q (Err y)
      unfolding delta_part ◌>>=◌ next_by_delta number
      move_wrong {y} e = rw (D, M) (cases (delta_refused tiles t d) refl)
        where
          cases : (b : Bool) → delta_refused tiles t d ≡ b → Move columns tiles true true t width height p q (Err y)
          cases false r = absurd (let other : Err y ≡ Ok (tile_idx_of (tile_after_delta t d)) = rw r at e in cc)
          cases true r = not-moved columns tiles true true t width height (coded _ _ _ refl g ⟫ fails (rw r) (let same : Err y ≡ Err TileIdxDelta = rw r at e in let is : y ≡ TileIdxDelta = cc in rw is))

  -- by default
  module _ (deltas more : Bool) (D : deltas ≡ false) (M : more ≡ true) (fits : tiles ≤ 4294967295) {a : TileIdx} (A : a ≡ tile_idx_of (default_advance columns t width height)) where
    within : {b : Bool} → b ≡ ltb a.0 tiles → ltb (default_advance columns t width height) tiles ≡ b
    within e = sym (e ∙ ap (λ (z : TileIdx). ltb z.0 tiles) A ∙ inside-same tiles (default_advance columns t width height) fits)

    pub move_on : {p : BitReader} → true ≡ ltb a.0 tiles → Move columns tiles deltas more t width height p p (Ok (record { delta = None; tile = a }))
    unfolding delta_part ◌>>=◌
    move_on e =
        let small = held-tile (default_advance columns t width height) (omega (arith, ltb-true (default_advance columns t width height) tiles (within e))) in
        rw (D, M)
        (moved columns tiles false true t width height (uncoded _ _ _ refl (given refl refl) ⟫ held refl (held (within e) end))
        (ap (λ (n : ℕ). record { delta = None; tile = record { 0 = n } }) (ap (λ (z : TileIdx). z.0) A ∙ small)))

    pub move_out : {p : BitReader} → false ≡ ltb a.0 tiles → Move columns tiles deltas more t width height p p (Err WalkLeavesGrid)
    unfolding delta_part ◌>>=◌ number
    move_out e = rw (D, M) (not-moved columns tiles false true t width height (uncoded _ _ _ refl (given refl refl) ⟫ held refl (fails (within e) refl)))
