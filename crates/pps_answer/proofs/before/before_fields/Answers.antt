use mathlib.Core.Path.{sym, ap, ◌∙◌}
use Rattle.std.proofs.lemmas.Result.{err_from_is_err_and}
use Rattle.refusal.specs.Numbers.{number, refused}
use Rattle.pps_answer.specs.Before.{header-short, header-long, before_1, before_2, before_3, before_4, before_5, before_0}
use Rattle.pps_answer.proofs.before.before_fields.Goals as goal

pub returns-in_err-header : goal.returns-in_err-header
unfolding refused number
returns-in_err-header c = let p = err_from_is_err_and c.from_residual.result c.from_residual.ensures.1 in
    let t = header-short _ _ (sym c.parse_nal_header.ensures ∙ c.in_err-header.was) in
    rw (p.1, p.2) (ap number (sym t.1) ∙ before_1 _ _ _ t.0)

pub returns-then-header-ne16 : goal.returns-then-header-ne16
unfolding refused number
returns-then-header-ne16 c = let t = header-long _ _ (sym c.parse_nal_header.ensures ∙ c.in_ok-header.was) in
    before_2 _ _ _ t.long (λ e. c.if-header-ne16.true (t.type ∙ e))

pub returns-then-nal-gt65535 : goal.returns-then-nal-gt65535
unfolding refused number
returns-then-nal-gt65535 c = let t = header-long _ _ (sym c.parse_nal_header.ensures ∙ c.in_ok-header.was) in
    before_3 _ _ _ t.long (sym t.type ∙ c.if-header-ne16.false) c.if-nal-gt65535.true

pub overflow_sub-nal : goal.overflow_sub-nal
overflow_sub-nal c = (header-long _ _ (sym c.parse_nal_header.ensures ∙ c.in_ok-header.was)).long

pub returns-then-work_length-nal : goal.returns-then-work_length-nal
unfolding refused number
returns-then-work_length-nal c = let t = header-long _ _ (sym c.parse_nal_header.ensures ∙ c.in_ok-header.was) in
    before_4 _ _ _ t.long (sym t.type ∙ c.if-header-ne16.false) c.if-nal-gt65535.false c.if-work_length-nal.true

pub returns-then-not-tables_long : goal.returns-then-not-tables_long
unfolding refused number
returns-then-not-tables_long c = let t = header-long _ _ (sym c.parse_nal_header.ensures ∙ c.in_ok-header.was) in
    before_5 _ _ _ t.long (sym t.type ∙ c.if-header-ne16.false) c.if-nal-gt65535.false c.if-work_length-nal.false (c.if-not-tables_long.true)

pub returns : goal.returns
unfolding refused number
returns c = let t = header-long _ _ (sym c.parse_nal_header.ensures ∙ c.in_ok-header.was) in
    before_0 _ _ _ t.long (sym t.type ∙ c.if-header-ne16.false) c.if-nal-gt65535.false c.if-work_length-nal.false (c.if-not-tables_long.false)
