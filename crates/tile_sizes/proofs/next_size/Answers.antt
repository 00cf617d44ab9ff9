use Rattle.tile_sizes.proofs.Next.{explicit-next, other-next}
use mathlib.Core.Path.{ap, ◌∙◌}
use Prim.Native.Nat.{ℕ, min}
use Rattle.tile_sizes.proofs.next_size.Goals as goal

pub returns-in-Some : goal.returns-in-Some
returns-in-Some c =
    let at = c.in-Some.ensures.lookup.3 in
    c.min.ensures ∙ ap (λ (x : ℕ). min x c.args.remaining) c.saturating_add.ensures ∙ explicit-next _ _ _ _ _ at.0 (at.1 0) c.ranges.remaining.fits

pub returns-in-None : goal.returns-in-None
returns-in-None c = c.min-in-None.ensures ∙ other-next _ _ _ _ c.in-None.ensures.lookup.3
