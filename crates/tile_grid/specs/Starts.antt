-- Where the columns or the rows of a grid begin.
use Rattle.std.specs.Prelude.{ℕ, suc, ◌+◌, ◌*◌, ◌≤◌, ◌<◌, ◌≡◌, refl, List, Bool, true, false, eqb, length, get_or, set}
use Rattle.std.proofs.Common.{mul-le-mul_left, sym, ap, ◌∙◌, add-one, arith, length-set, get_or-set_same, get_or-set_other, eqb-true}
use Rattle.std.proofs.lemmas.Bool.{eqb-false}
use Rattle.partition.specs.Axis.{boundary, boundary_le}
use Rattle.partition.proofs.Axis.{boundary-zero, boundary-suc}
use Rattle.partition.specs.Grid.{max_tiles}
use Rattle.partition.specs.Sizes.{sum, Positive}

-- The sizes on an axis of a picture: at most 990, none of them 0, their sum of 32 bits.
pub record ProperSizes (ss : List ℕ) : Type 0 where
  pub few : length ss ≤ max_tiles
  pub some : Positive ss
  pub fits : sum ss ≤ 4294967295

-- A table with where each of them begins, and behind the last where the picture ends.
pub record StartsAt (ss at : List ℕ) : Type 0 where
  pub long : length at ≡ max_tiles + 1
  pub few : length ss ≤ max_tiles
  pub each : (c : ℕ) → c ≤ length ss → get_or at c 0 ≡ boundary ss c
  pub some : Positive ss
  pub fits : sum ss ≤ 4294967295

-- ---- the loop

-- The first i sizes are summed.
pub record Starting (ss at : List ℕ) (total i : ℕ) : Type 0 where
  pub long : length at ≡ max_tiles + 1
  pub within : i ≤ length ss
  pub is : total ≡ boundary ss i
  pub each : (c : ℕ) → c ≤ i → get_or at c 0 ≡ boundary ss c

pub starting_begins : (ss at : List ℕ) → length at ≡ max_tiles + 1 → get_or at 0 0 ≡ 0 → Starting ss at 0 0
starting_begins ss at l z =
    record {
      long = l;
      within = omega arith;
      is = sym (boundary-zero ss);
      each = λ c h. let e : c ≡ 0 = omega arith in rw e (z ∙ sym (boundary-zero ss));
    }

module _ {ss at : List ℕ} {total i : ℕ} (P : ProperSizes ss) (S : Starting ss at total i) where
  module _ (more : i < length ss) where
    pub starting_fits : total + get_or ss i 0 ≤ 4294967295
    starting_fits = omega (arith, P.fits, S.is, boundary-suc ss i, boundary_le ss (suc i))

    pub starting_room : i + 1 < length at
    starting_room = omega (arith, S.long, P.few)

    pub starting_goes-on : Starting ss (set at (i + 1) (total + get_or ss i 0)) (total + get_or ss i 0) (i + 1)
    starting_goes-on =
        record {
          long = length-set at (i + 1) (total + get_or ss i 0) ∙ S.long;
          within = omega arith;
          is = next;
          each = λ c l. cases c l (eqb c (i + 1)) refl;
        }
      where
        next : total + get_or ss i 0 ≡ boundary ss (i + 1)
        next = omega (arith, S.is, boundary-suc ss i, ap (boundary ss) (add-one i))

        cases : (c : ℕ) → c ≤ i + 1 → (b : Bool) → eqb c (i + 1) ≡ b
            → get_or (set at (i + 1) (total + get_or ss i 0)) c 0 ≡ boundary ss c
        cases c l true e =
            let q : c ≡ i + 1 = eqb-true c (i + 1) e in
            rw q (get_or-set_same at (i + 1) (total + get_or ss i 0) 0 starting_room ∙ next)
        cases c l false e =
            let q = eqb-false c (i + 1) e in
            let low : c ≤ i = omega arith in
            get_or-set_other at (i + 1) c (total + get_or ss i 0) 0 q ∙ S.each c low

pub tiles-small : {ws cs hs rs : List ℕ} → StartsAt ws cs → StartsAt hs rs → length hs * length ws ≤ 4294967295
tiles-small {ws} {cs} {hs} {rs} a b =
    let h : length hs * length ws ≤ length hs * max_tiles = mul-le-mul_left (length hs) a.few in
    omega (arith, b.few)
