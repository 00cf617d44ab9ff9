use Rattle.std.specs.Prelude.{◌≡◌, Some, None}
use Rattle.tile_grid.specs.declared.Cover.TheVariants.{Whole, Gap, Double}
use Rattle.refusal.specs.Answers.{with_number}
use Rattle.vvc_pps.proofs.questions.VvcCoverAnswerFromResultOptionCoverRefusal.from.Goals as goal

pub returns-in-Ok-None : goal.returns-in-Ok-None
unfolding with_number
returns-in-Ok-None c =
    let s = c.in-Ok-None in
    let f : s.field-0 ≡ None = rw s.is at s.field-0-is in
    rw (s.is, f)

pub returns-in-Ok-Some-Whole : goal.returns-in-Ok-Some-Whole
unfolding with_number
returns-in-Ok-Some-Whole c =
    let s = c.in-Ok-Some-Whole in
    let f : s.field-0 ≡ Some s.field-0-0 = rw s.is at s.field-0-is in
    let g : s.field-0-0 ≡ Whole = rw (s.is, f) at s.field-0-0-is in
    rw (s.is, f, g)

pub returns-in-Ok-Some-Gap : goal.returns-in-Ok-Some-Gap
unfolding with_number
returns-in-Ok-Some-Gap c =
    let s = c.in-Ok-Some-Gap in
    let f : s.field-0 ≡ Some s.field-0-0 = rw s.is at s.field-0-is in
    let g : s.field-0-0 ≡ Gap s.t = rw (s.is, f) at s.field-0-0-is in
    rw (s.is, f, g)

pub returns-in-Ok-Some-Double : goal.returns-in-Ok-Some-Double
unfolding with_number
returns-in-Ok-Some-Double c =
    let s = c.in-Ok-Some-Double in
    let f : s.field-0 ≡ Some s.field-0-0 = rw s.is at s.field-0-is in
    let g : s.field-0-0 ≡ Double s.t = rw (s.is, f) at s.field-0-0-is in
    rw (s.is, f, g)

pub returns-in-Err : goal.returns-in-Err
unfolding with_number
returns-in-Err c = rw (c.in-Err.is, c.number.ensures)
