-- A signed value is unchanged by the 32 bits of its field.
use Rattle.std.proofs.lemmas.Int.{ints}
use Rattle.std.proofs.Common.{arith, ◌≡◌, true, false, refl, SFits, to_z-of_z, rules}
use Rattle.std.specs.Int.{w32}
use Rattle.pps_syntax.specs.Offsets.{in_range}
use Rattle.refusal.specs.Numbers.{number}
use Rattle.bit_reader.proofs.Gives.{passes, fails_test, refused_before, at_exit}
use Rattle.pps_fields.proofs.fields.read_offset.Goals as goal

pub returns-in_err-v : goal.returns-in_err-v
returns-in_err-v c = at_exit c.from_residual.ensures.1 (refused_before in_range 21 c.in_err-v.ensures)

pub returns-then-not-contains : goal.returns-then-not-contains
unfolding number
returns-then-not-contains c = let fits : SFits w32 c.in_ok-v.v = search rules in
    let h : in_range c.in_ok-v.v ≡ false = grind (arith, ints, to_z-of_z fits) in
    fails_test in_range 21 c.in_ok-v.ensures h refl

pub returns : goal.returns
returns c = let fits : SFits w32 c.in_ok-v.v = search rules in
    let h : in_range c.in_ok-v.v ≡ true = grind (arith, ints, to_z-of_z fits) in
    rw (to_z-of_z fits) (passes in_range 21 c.in_ok-v.ensures h)
