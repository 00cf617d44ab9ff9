-- One step of the description for each group.
use Rattle.pps_syntax.specs.References.{references}
use Rattle.pps_syntax.specs.PictureHeader.{picture_header}
use Rattle.pps_syntax.specs.Pps.{back}
use Rattle.syntax.specs.Syntax.{symbols_for, ◌>>=◌}
use Rattle.syntax.proofs.PutSteps.{follows, exit, ◌⟫◌, stop, end}
use Rattle.pps_put.proofs.Named.{named}
use Rattle.pps_put_parts.proofs.parts.put_back.Goals as goal

pub returns-in_err-put_references : goal.returns-in_err-put_references
unfolding back ◌>>=◌
returns-in_err-put_references c = exit (back _) _ _ c.from_residual.ensures.1 (stop _ _ _ (named (symbols_for references) _ c.from.ensures c.in_err-put_references.ensures))

pub returns-in_err-put_chroma : goal.returns-in_err-put_chroma
unfolding back ◌>>=◌
returns-in_err-put_chroma c = exit (back _) _ _ c.from_residual-in_err-put_chroma.ensures.1 ((named (symbols_for references) _ c.from.ensures c.in_ok-put_references.ensures) ⟫ stop _ _ _ c.in_err-put_chroma.ensures)

pub returns-in_err-put_deblocking : goal.returns-in_err-put_deblocking
unfolding back ◌>>=◌
returns-in_err-put_deblocking c = exit (back _) _ _ c.from_residual-in_err-put_deblocking.ensures.1 ((named (symbols_for references) _ c.from.ensures c.in_ok-put_references.ensures) ⟫ c.in_ok-put_chroma.ensures ⟫ stop _ _ _ c.in_err-put_deblocking.ensures)

pub returns : goal.returns
unfolding back ◌>>=◌
returns c = follows (back _) ((named (symbols_for references) _ c.from.ensures c.in_ok-put_references.ensures) ⟫ c.in_ok-put_chroma.ensures ⟫ c.in_ok-put_deblocking.ensures ⟫ (named (symbols_for (picture_header _ _)) _ c.from-2.ensures c.put_picture_header.ensures) ⟫ end)
