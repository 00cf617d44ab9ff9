-- The part of the work buffer that a set took.
use Rattle.std.specs.Prelude.{ℕ, ◌≤◌, ◌<◌, ◌≡◌, List, [], cond, ltb, length, take}
use Rattle.std.proofs.Common.{lt-ltb, le-ltb}

-- Its front of so many bytes; empty where the count passes it.
unfoldable pub part_taken : List ℕ → ℕ → List ℕ
part_taken work count = cond (ltb (length work) count) [] (take count work)

pub taken_none : (work : List ℕ) (count : ℕ) → length work < count → [] ≡ part_taken work count
unfolding part_taken
taken_none work count h = rw (lt-ltb (length work) count h)

pub taken-some : (work : List ℕ) (count : ℕ) → count ≤ length work → take count work ≡ part_taken work count
unfolding part_taken
taken-some work count h = rw (le-ltb (length work) count h)
