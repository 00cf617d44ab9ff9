-- One step of the description for each call.
use Rattle.pps_syntax.specs.PictureHeader.{picture_header}
use Rattle.syntax.specs.Syntax.{◌>>=◌}
use Rattle.syntax.proofs.Steps.{follows, ◌⟫◌, end}
use Rattle.pps_fields.proofs.read_picture_header.Goals as goal

pub returns : goal.returns
unfolding picture_header ◌>>=◌
returns c = follows (picture_header _ _)
    ((c.flag_or-rpl.ensures _) ⟫ (c.flag_or-sao.ensures _) ⟫ (c.flag_or-alf.ensures _) ⟫ (c.flag_or-wp.ensures _)
    ⟫ (c.flag_or-qp.ensures _) ⟫ c.flag-picture.ensures ⟫ c.flag-slice.ensures ⟫ c.flag-extension.ensures ⟫ end)
