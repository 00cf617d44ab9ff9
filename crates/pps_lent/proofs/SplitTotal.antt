-- The split counts, summed as far as their table holds them.
use Rattle.std.specs.Prelude.{ℕ, suc, ◌+◌, ◌-◌, ◌≤◌, ◌<◌, ◌≡◌, refl, true, false, leb}
use Rattle.std.proofs.Math.Path.{sym, ap}
use Rattle.std.proofs.Common.{◌∙◌, arith, le-leb}
use Rattle.std.proofs.lemmas.Bool.{lt-leb}
use Rattle.partition.specs.Grid.{max_slices}
use Rattle.pps_syntax.specs.SliceTables.{SliceTables, split_count, split_total}

total-step : (t : SliceTables) (i n : ℕ) → i < n → split_total t i (n - i) ≡ split_count t i + split_total t (i + 1) (n - (i + 1))
unfolding split_total
total-step t i n h = let e : n - i ≡ suc (n - (i + 1)) = omega arith in rw e

total-none : (t : SliceTables) (i : ℕ) → split_total t i 0 ≡ 0
unfolding split_total
total-none t i = refl

-- while they are summed: what is left of the table, and of the sum
pub record Left (t : SliceTables) (n i left : ℕ) : Type 0 where
  pub within : left ≤ max_slices
  pub sum : split_total t i (n - i) + (max_slices - left) ≡ split_total t 0 n

pub left_start : (t : SliceTables) (n : ℕ) → Left t n 0 max_slices
left_start t n = let e : split_total t 0 (n - 0) ≡ split_total t 0 n = ap (split_total t 0) (let z : n - 0 ≡ n = omega arith in z) in record { within = omega arith; sum = omega arith }

module _ (t : SliceTables) (n i left c : ℕ) where
  pub left_step : c ≡ split_count t i → i < n → c ≤ left → Left t n i left → Left t n (i + 1) (left - c)
  left_step e h l s = record { within = omega (arith, s.within); sum = omega (arith, total-step t i n h, s.sum, s.within) }

  pub left_past : c ≡ split_count t i → i < n → left < c → Left t n i left → false ≡ leb (split_total t 0 n) max_slices
  left_past e h l s = sym (lt-leb (split_total t 0 n) max_slices (omega (arith, total-step t i n h, s.sum, s.within)))

pub left_end : (t : SliceTables) (n i left : ℕ) → n ≤ i → Left t n i left → true ≡ leb (split_total t 0 n) max_slices
left_end t n i left h s =
    let z : n - i ≡ 0 = omega arith in
    let k : split_total t i (n - i) ≡ 0 = ap (split_total t i) z ∙ total-none t i in
    sym (le-leb (split_total t 0 n) max_slices (omega (arith, k, s.sum, s.within)))
