-- One step of the description for each call. A signed value is unchanged by the 32 bits of its field.
use Rattle.std.proofs.Common.{SFits, to_z-of_z, refl, rules, le-leb}
use Rattle.std.proofs.lemmas.Bool.{lt-leb}
use Rattle.std.specs.Int.{w32}
use Rattle.refusal.specs.Numbers.{number}
use Rattle.bit_reader.proofs.Gives.{at_exit, holds, holds-none}
use Rattle.pps_syntax.specs.Chroma.{chroma}
use Rattle.syntax.specs.Syntax.{◌>>=◌}
use Rattle.syntax.proofs.Steps.{follows, ◌⟫◌, past, held, stop, fails, end}
use Rattle.pps_blocks.specs.Triples.{block_of}
use Rattle.pps_blocks.proofs.Triples.{triples-coded, triples-refused, block-made}
use Rattle.pps_blocks.proofs.chroma.read_chroma.Goals as goal

pub returns-in_err-cb : goal.returns-in_err-cb
unfolding chroma ◌>>=◌
returns-in_err-cb c = at_exit c.from_residual.ensures.1 (holds-none block_of (follows chroma
    (c.flag-present.ensures ⟫ stop c.in_err-cb.ensures)))

pub returns-in_err-cr : goal.returns-in_err-cr
unfolding chroma ◌>>=◌
returns-in_err-cr c = at_exit c.from_residual-in_err-cr.ensures.1 (holds-none block_of (follows chroma
    (c.flag-present.ensures ⟫ c.in_ok-cb.ensures ⟫ stop c.in_err-cr.ensures)))

pub returns-in_err-value : goal.returns-in_err-value
unfolding chroma ◌>>=◌
returns-in_err-value c = at_exit c.from_residual-in_err-value.ensures.1 (holds-none block_of (follows chroma
    (c.flag-present.ensures ⟫ c.in_ok-cb.ensures ⟫ c.in_ok-cr.ensures ⟫ c.flag_or-joint.ensures _
    ⟫ stop c.in_err-value.ensures)))

pub returns-in_err-len : goal.returns-in_err-len
unfolding chroma ◌>>=◌
returns-in_err-len c = at_exit c.from_residual-in_err-len.ensures.1 (holds-none block_of (follows chroma
    (c.flag-present.ensures ⟫ c.in_ok-cb.ensures ⟫ c.in_ok-cr.ensures ⟫ c.flag_or-joint.ensures _
    ⟫ c.in_ok-value.ensures ⟫ c.flag_or-slice.ensures _ ⟫ c.flag_or-enabled.ensures _
    ⟫ past (stop (c.in_err-len.ensures _)))))

pub returns-then-len-gt5 : goal.returns-then-len-gt5
unfolding chroma ◌>>=◌ number
returns-then-len-gt5 c = holds-none block_of (follows chroma
    (c.flag-present.ensures ⟫ c.in_ok-cb.ensures ⟫ c.in_ok-cr.ensures ⟫ c.flag_or-joint.ensures _
    ⟫ c.in_ok-value.ensures ⟫ c.flag_or-slice.ensures _ ⟫ c.flag_or-enabled.ensures _ ⟫ past (c.in_ok-len.ensures _
    ⟫ fails (lt-leb _ _ c.if-len-gt5.true) refl)))

pub returns-in_err-triples : goal.returns-in_err-triples
unfolding chroma ◌>>=◌
returns-in_err-triples c = at_exit c.from_residual-in_err-triples.ensures.1 (holds-none block_of (follows chroma
    (c.flag-present.ensures ⟫ c.in_ok-cb.ensures ⟫ c.in_ok-cr.ensures ⟫ c.flag_or-joint.ensures _
    ⟫ c.in_ok-value.ensures ⟫ c.flag_or-slice.ensures _ ⟫ c.flag_or-enabled.ensures _ ⟫ past (c.in_ok-len.ensures _
    ⟫ held (le-leb _ _ c.if-len-gt5.false) (stop (triples-refused _ _ _ c.counted-count.ensures c.in_err-triples.ensures.triples))))))

pub returns : goal.returns
unfolding chroma ◌>>=◌
returns c = let cb : SFits w32 c.in_ok-cb.cb = search rules in
    let cr : SFits w32 c.in_ok-cr.cr = search rules in
    let value : SFits w32 c.in_ok-value.value = search rules in
    rw (to_z-of_z cb, to_z-of_z cr, to_z-of_z value)
    (holds block_of (follows chroma (c.flag-present.ensures ⟫ c.in_ok-cb.ensures ⟫ c.in_ok-cr.ensures
    ⟫ c.flag_or-joint.ensures _ ⟫ c.in_ok-value.ensures ⟫ c.flag_or-slice.ensures _ ⟫ c.flag_or-enabled.ensures _
    ⟫ past (c.in_ok-len.ensures _
    ⟫ held (le-leb _ _ c.if-len-gt5.false) (triples-coded _ _ _ c.counted-count.ensures c.in_ok-triples.ensures.triples
    ⟫ end))))
    (block-made _ c.in_ok-triples.ensures.count c.in_ok-triples.ensures.triples.value))
