use Rattle.std.specs.Prelude.{List, ℕ, length}
use Rattle.std.proofs.Common.{sym, ap, refl, ◌∙◌}
use Rattle.refusal.specs.Numbers.{refused}
use Rattle.pps_read.specs.Whole.{above0, refused-before, passed, front-is, front-inside, read-after}
use Rattle.pps_read.proofs.RbspRead.{said-refused}
use Rattle.pps_read.proofs.parse_pps.Goals as goal

pub returns-in_err-before_fields-clause-outcome : goal.returns-in_err-before_fields-clause-outcome
unfolding refused
returns-in_err-before_fields-clause-outcome c = let e = c.in_err-before_fields in
    refused-before _ _ _ c.are_long.ensures e.ensures (above0 _) (said-refused _ _ c.from_residual.ensures)

pub unescape_payload-count-requires : goal.unescape_payload-count-requires
unfolding refused
unescape_payload-count-requires c = let a = c.args in
    let p = passed a.nal.now a.work.now _ c.are_long.ensures c.in_ok-before_fields.ensures refl in
    record { in_bounds = p.header; unit_len_bound = p.short; unit_in_bounds = p.room }

pub slice_bounds-read_into_cleared-end : goal.slice_bounds-read_into_cleared-end
unfolding refused
slice_bounds-read_into_cleared-end c = let a = c.args in
    rw c.unescape_payload-count.auto.work
    (front-inside a.nal.now a.work.now _ c.are_long.ensures c.in_ok-before_fields.ensures refl c.unescape_payload-count.ensures.value)

pub slice_bounds-read_into_cleared-end-2 : goal.slice_bounds-read_into_cleared-end-2
slice_bounds-read_into_cleared-end-2 c = let a = c.args in
    let P = c.unescape_payload-count.ensures in
    P.value ∙ ap (λ (l : List ℕ). length l) (sym (front-is a.nal.now a.work.now P.value P.work_after))

pub read_into_cleared-requires : goal.read_into_cleared-requires
unfolding refused
read_into_cleared-requires c = let a = c.args in (passed a.nal.now a.work.now _ c.are_long.ensures c.in_ok-before_fields.ensures refl).fit

pub returns-clause-outcome : goal.returns-clause-outcome
unfolding refused
returns-clause-outcome c = let a = c.args in
    let P = c.unescape_payload-count.ensures in
    read-after a.nal.now a.work.now _ c.are_long.ensures c.in_ok-before_fields.ensures refl P.work_after (front-is a.nal.now a.work.now P.value P.work_after) (c.read_into_cleared.ensures.answer, c.read_into_cleared.ensures.tables)
