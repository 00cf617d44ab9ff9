-- One step of the description for each call.
use lib.IntN.{pos}
use lib.ListN.{get_or}
use borrow.Author.Rules.{rules}
use Rattle.pps_syntax.specs.Chroma.{triple}
use Rattle.pps_syntax.specs.Offsets.{offset, offset_or}
use Rattle.syntax.specs.Syntax.{◌>>=◌}
use Rattle.syntax.proofs.PutSteps.{follows, exit, ◌⟫◌, stop, end}
use Rattle.pps_put.proofs.Named.{signed}
use Rattle.pps_put_blocks.proofs.chroma.put_triple.Goals as goal

pub returns-in_err-put_offset : goal.returns-in_err-put_offset
unfolding triple ◌>>=◌
returns-in_err-put_offset c =
    let t = c.args.t.0 in
    exit (triple _) _ _ c.from_residual.ensures.1 (stop _ _ _ (signed offset.symbols _ (get_or t 0 (pos 0)) (search rules) c.in_err-put_offset.ensures))

pub returns-in_err-put_offset-2 : goal.returns-in_err-put_offset-2
unfolding triple ◌>>=◌
returns-in_err-put_offset-2 c =
    let t = c.args.t.0 in
    exit (triple _) _ _ c.from_residual-in_err-put_offset-2.ensures.1
    (signed offset.symbols _ (get_or t 0 (pos 0)) (search rules) c.in_ok-put_offset.ensures
    ⟫ stop _ _ _ (signed offset.symbols _ (get_or t 1 (pos 0)) (search rules) c.in_err-put_offset-2.ensures))

pub returns : goal.returns
unfolding triple ◌>>=◌
returns c =
    let t = c.args.t.0 in
    follows (triple _)
    (signed offset.symbols _ (get_or t 0 (pos 0)) (search rules) c.in_ok-put_offset.ensures
    ⟫ signed offset.symbols _ (get_or t 1 (pos 0)) (search rules) c.in_ok-put_offset-2.ensures
    ⟫ signed (λ v. (offset_or c.args.joint (pos 0)).symbols v) _ (get_or t 2 (pos 0)) (search rules) (c.put_offset_if.ensures (pos 0))
    ⟫ end)
