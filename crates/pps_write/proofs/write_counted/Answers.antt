use Prim.Native.Nat.{◌<◌, ◌^◌}
use native.Mathlib.Omega.{arith}
use Rattle.std.proofs.lemmas.Grind.{common_steps}
use lib.ListN.{length}
use Rattle.std.proofs.lemmas.Result.{err_from_is_err_and}
use Rattle.pps_tables.specs.Lent.{lent_of}
use Rattle.pps_write.specs.Forms.{is_nal}
use Rattle.pps_write.specs.Runs.{counted-refused, counted-short, counted-copied, counted-again}
use Rattle.pps_write.proofs.write_counted.Goals as goal

pub returns-in_err-count : goal.returns-in_err-count
returns-in_err-count c =
    let a = c.args in
    let p = err_from_is_err_and c.from_residual.result c.from_residual.ensures.1 in
    rw (p.1, p.2) (counted-refused (is_nal a.form) a.pps.now a.triples.now (lent_of a.tables) a.extension.now a.out.now c.in_err-count.field-0.0 c.in_err-count.ensures)

pub returns-then-room-count : goal.returns-then-room-count
returns-then-room-count c = let a = c.args in counted-short (is_nal a.form) a.pps.now a.triples.now (lent_of a.tables) a.extension.now a.out.now c.in_ok-count.ensures c.if-room-count.true

pub returns-then-count-le1024 : goal.returns-then-count-le1024
returns-then-count-le1024 c =
    let a = c.args in
    let small : length a.out.now < 2 ^ 63 = omega arith in
    counted-copied (is_nal a.form) a.pps.now a.triples.now (lent_of a.tables) a.extension.now a.out.now c.in_ok-count.ensures small c.if-room-count.false (omega arith) (grind (arith, common_steps))

pub returns : goal.returns
returns c =
    let a = c.args in
    let small : length a.out.now < 2 ^ 63 = omega arith in
    counted-again (is_nal a.form) a.pps.now a.triples.now (lent_of a.tables) a.extension.now a.out.now c.in_ok-count.ensures small c.if-room-count.false _ c.put_set-2.ensures
