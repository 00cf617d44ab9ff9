-- One step of the description for each group.
use Rattle.bit_reader.proofs.Gives.{at_exit, holds, holds-none, held_back, held-none_back}
use Rattle.pps_syntax.specs.Chroma.{chroma}
use Rattle.pps_syntax.specs.Pps.{back}
use Rattle.syntax.specs.Syntax.{parse, ◌>>=◌}
use Rattle.syntax.proofs.Steps.{follows, ◌⟫◌, stop, end}
use Rattle.pps_blocks.specs.Triples.{block_of}
use Rattle.pps_parts.specs.Parts.{back_of}
use Rattle.pps_parts.proofs.Parts.{behind-chroma, back-made}
use Rattle.pps_parts.proofs.read_back.Goals as goal

pub returns-in_err-references : goal.returns-in_err-references
unfolding back ◌>>=◌
returns-in_err-references c = at_exit c.from_residual.ensures.1 (holds-none back_of (follows (back c.args.partitioned) (stop c.in_err-references.ensures)))

pub returns-in_err-chroma : goal.returns-in_err-chroma
unfolding back ◌>>=◌
returns-in_err-chroma c = at_exit c.from_residual-in_err-chroma.ensures.1 (holds-none back_of (follows (back c.args.partitioned)
    (c.in_ok-references.ensures ⟫ stop (held-none_back block_of {read = parse chroma} c.in_err-chroma.ensures))))

pub returns-in_err-deblocking : goal.returns-in_err-deblocking
unfolding back ◌>>=◌
returns-in_err-deblocking c = at_exit c.from_residual-in_err-deblocking.ensures.1 (holds-none back_of (follows (back c.args.partitioned)
    (c.in_ok-references.ensures ⟫ held_back block_of {read = parse chroma} c.in_ok-chroma.ensures
    ⟫ stop (behind-chroma _ _ c.in_ok-chroma.ensures.value c.in_err-deblocking.ensures))))

pub returns : goal.returns
unfolding back ◌>>=◌
returns c = holds back_of (follows (back c.args.partitioned)
    (c.in_ok-references.ensures ⟫ held_back block_of {read = parse chroma} c.in_ok-chroma.ensures
    ⟫ behind-chroma _ _ c.in_ok-chroma.ensures.value c.in_ok-deblocking.ensures
    ⟫ c.read_picture_header-picture_header.ensures ⟫ end)) (back-made _ c.in_ok-chroma.ensures.value)
