-- Whether a number is one of n from a first one on, as 1 or 0, and sums of numbers over an axis and over the blocks of a picture.
use Rattle.std.specs.Prelude.{◌≡◌, List, ℕ, ◌+◌, ◌-◌, ◌≤◌, ◌<◌}
use Rattle.std.proofs.Common.{arith}
use Rattle.partition.specs.Sizes.{sum}
use Rattle.partition.specs.Axis.{boundary, column_of, span, not-begun}
use Rattle.partition.proofs.Axis.{begun, boundary_mono}
use Rattle.partition.specs.Sums.{among, among_in, among-low, among-high, Place, low, mid, high, place}

-- ---- among

-- x lies in the n columns from c on exactly where its column is one of them
pub among-span : (ss : List ℕ) (c n x : ℕ) → x < sum ss → among (boundary ss c) (span ss c n) x ≡ among c n (column_of ss x)
unfolding span
among-span ss c n x h = split (place c n (column_of ss x))
  where
    from : ℕ
    from = boundary ss c

    to : ℕ
    to = boundary ss (c + n)

    m : from ≤ to
    m = boundary_mono ss c n

    split : Place c n (column_of ss x) → among from (to - from) x ≡ among c n (column_of ss x)
    split (low k) = rw (among-low c n (column_of ss x) k, among-low from (to - from) x (not-begun ss c x h k))
    split (mid k l) = rw (among_in c n (column_of ss x) k l, among_in from (to - from) x (begun ss c x h k) (omega (arith, m, not-begun ss (c + n) x h l)))
    split (high k) = rw (among-high c n (column_of ss x) k, among-high from (to - from) x (omega (arith, m, begun ss (c + n) x h k)))
