-- The invariant is `Filling`: the sizes written so far and those left are all of them.
use Prim.Native.Nat.{◌≤◌}
use native.Mathlib.Omega.{arith}
use Rattle.std.proofs.lemmas.List.{set-get_or}
use Rattle.tile_sizes.specs.Left.{last_fits}
use Rattle.grid_sizes.proofs.Fill.{filling_begins, filling_goes-on, filling_ends}
use Rattle.grid_sizes.proofs.sizes.sizes_into.Goals as goal

pub overflow_add-uniform : goal.overflow_add-uniform
overflow_add-uniform c = let f = last_fits c.args.exp_minus1.now c.args.total.0 c.requires.0 c.requires.1 in omega arith

pub loop-j-init : goal.loop-j-init
loop-j-init c = filling_begins _ _ _ c.requires.0 c.requires.1 c.requires.2

pub loop-j-preserved : goal.loop-j-preserved
loop-j-preserved c = let more : 1 ≤ c.loop-j.remaining = omega arith in filling_goes-on _ _ _ _ _ _ _ _ more c.next_size.ensures c.loop-j.invariant

pub returns-then-remaining-eq0 : goal.returns-then-remaining-eq0
returns-then-remaining-eq0 c = rw (set-get_or c.loop-j.out c.loop-j.j 0) (filling_ends _ _ _ _ _ _ _ (omega arith) c.loop-j.invariant)
