-- The layouts that a question comes to: their cover can be counted.
use Rattle.std.specs.Prelude.{◌≤◌, ◌≡◌, List, length}
use Rattle.std.proofs.Common.{arith}
use Rattle.partition.specs.Checks.{fine, first_bad}
use Rattle.partition.specs.Entry.{asking, first_position}
use Rattle.partition.specs.Grid.{Grid, columns, tiles, max_tile_columns, max_tiles, max_slices, max_slices_minus1}
use Rattle.partition.specs.Groups.{Group, AllFit}
use Rattle.partition.specs.Partition.{Layout, declined, unsliced, sliced}
use Rattle.partition.specs.Walk.{placed}
use Rattle.partition.proofs.Placed.{walk-fits, walk-groups}
use Rattle.pps_record.specs.declared.VvcPps.{VvcPps}
use Rattle.pps_syntax.specs.FromRecord.{Lent}
use Rattle.question_tests.specs.Questions.{layout_asked}
use Rattle.question_tests.specs.Sliced.{walked}
use Rattle.tile_grid.specs.InGrid.{Asked, stopped, absent, without, with_groups, asked-cases, grid, checks, few-columns, few-tiles, a-column, some-tile}

-- Groups in a grid within the limits.
pub record Fitting (g : Grid) (ps : List Group) : Type 0 where
  pub fit : AllFit g ps
  pub some : 1 ≤ columns g
  pub wide : columns g ≤ max_tile_columns
  pub small : tiles g ≤ max_tiles
  pub few : length ps ≤ max_slices

unfoldable pub Coverable : Layout → Type 0
Coverable (declined n) = n ≡ 0 → ⊥
Coverable (unsliced g) = Unit {0}
Coverable (sliced g ps) = Fitting g ps

module _ (r : VvcPps) (t : Lent) where
  -- the groups of an accepted record
  pub groups-fit : first_bad (checks r t) ≡ fine → r.partition.pps_num_slices_in_pic_minus1 ≤ max_slices_minus1 → (ps : List Group) → walked (grid r t) r.partition t.slices ≡ placed ps → Fitting (grid r t) ps
  groups-fit ok few ps w =
      record {
        fit = walk-fits _ asking _ _ _ first_position ps (λ _. some-tile r t ok) w;
        some = a-column r t ok;
        wide = few-columns r t ok;
        small = few-tiles r t ok;
        few = omega (arith, few, walk-groups _ asking _ _ _ first_position ps (omega arith) w);
      }

  -- every layout that a question comes to
  pub asked_coverable : Coverable (layout_asked r t)
  unfolding Coverable
  asked_coverable = go (asked-cases r t)
    where
      go : Asked r t → Coverable (layout_asked r t)
      go (stopped n z e) = rw e z
      go (absent c e) = rw e tt
      go (without c ok e) = rw e tt
      go (with_groups c ok few ps w e) = rw e (groups-fit ok few ps w)
