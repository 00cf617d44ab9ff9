use Prim.Native.Nat.{◌≤◌, ◌^◌}
use mathlib.Core.Path.{refl, ap, ◌∙◌}
use native.Mathlib.Omega.{arith}
use lib.ListN.{length}
use Rattle.bit_writer.specs.Stop.{play_on, on_then}
use Rattle.bit_writer.specs.Writing.{Writing}
use Rattle.bit_writer.specs.Written.{written}
use Rattle.bit_writer.proofs.Ended.{refused_stays}
use Rattle.pps_tables.specs.Lent.{lent_of}
use Rattle.pps_write.specs.Block.{begun, fronts, set-listed}
use Rattle.pps_write.specs.Forms.{is_nal}
use Rattle.pps_write.specs.Runs.{run-refused, run-done}
use Rattle.pps_write.proofs.set.put_set.Goals as goal

pub returns-in_err-put_front : goal.returns-in_err-put_front
returns-in_err-put_front c =
    let a = c.args in
    let t = lent_of a.tables in
    let first = fronts a.pps.now a.triples.now t a.extension.now in
    run-refused (is_nal a.form) a.pps.now a.triples.now t a.extension.now a.out.now _ _ _ (written c.put_front.new.w c.put_front.new.out) c.from_residual.ensures.1
    (set-listed a.pps.now a.triples.now t a.extension.now (begun (is_nal a.form) a.out.now)
    (on_then _ _ _ (c.in_err-put_front.ensures ∙ ap (λ (x : Writing). play_on x first) c.begin-w.ensures) (refused_stays (written c.put_front.new.w c.put_front.new.out) _ _)))

pub returns-in_err-put_block : goal.returns-in_err-put_block
returns-in_err-put_block c =
    let a = c.args in
    let t = lent_of a.tables in
    let first = fronts a.pps.now a.triples.now t a.extension.now in
    run-refused (is_nal a.form) a.pps.now a.triples.now t a.extension.now a.out.now _ _ _ (written c.put_block.new.w c.put_block.new.out) c.from_residual-in_err-put_block.ensures.1
    (set-listed a.pps.now a.triples.now t a.extension.now (begun (is_nal a.form) a.out.now)
    (on_then _ _ _ (c.in_ok-put_front.ensures ∙ ap (λ (x : Writing). play_on x first) c.begin-w.ensures)
    (on_then _ _ _ c.in_err-put_block.ensures (refused_stays (written c.put_block.new.w c.put_block.new.out) _ _))))

pub returns-in_err-put_back : goal.returns-in_err-put_back
returns-in_err-put_back c =
    let a = c.args in
    let t = lent_of a.tables in
    let first = fronts a.pps.now a.triples.now t a.extension.now in
    run-refused (is_nal a.form) a.pps.now a.triples.now t a.extension.now a.out.now _ _ _ (written c.put_back.new.w c.put_back.new.out) c.from_residual-in_err-put_back.ensures.1
    (set-listed a.pps.now a.triples.now t a.extension.now (begun (is_nal a.form) a.out.now)
    (on_then _ _ _ (c.in_ok-put_front.ensures ∙ ap (λ (x : Writing). play_on x first) c.begin-w.ensures)
    (on_then _ _ _ c.in_ok-put_block.ensures (on_then _ _ _ c.in_err-put_back.ensures (refused_stays (written c.put_back.new.w c.put_back.new.out) _ _)))))

pub returns-in_err-put_extension : goal.returns-in_err-put_extension
returns-in_err-put_extension c =
    let a = c.args in
    let t = lent_of a.tables in
    let first = fronts a.pps.now a.triples.now t a.extension.now in
    run-refused (is_nal a.form) a.pps.now a.triples.now t a.extension.now a.out.now _ _ _ (written c.put_extension.new.w c.put_extension.new.out) c.from_residual-in_err-put_extension.ensures.1
    (set-listed a.pps.now a.triples.now t a.extension.now (begun (is_nal a.form) a.out.now)
    (on_then _ _ _ (c.in_ok-put_front.ensures ∙ ap (λ (x : Writing). play_on x first) c.begin-w.ensures)
    (on_then _ _ _ c.in_ok-put_block.ensures (on_then _ _ _ c.in_ok-put_back.ensures c.in_err-put_extension.ensures))))

pub returns : goal.returns
returns c =
    let a = c.args in
    let t = lent_of a.tables in
    let first = fronts a.pps.now a.triples.now t a.extension.now in
    let small : length a.out.now ≤ 2 ^ 63 = omega arith in
    run-done (is_nal a.form) a.pps.now a.triples.now t a.extension.now a.out.now {x = written c.put_extension.new.w c.put_extension.new.out} small refl
    (set-listed a.pps.now a.triples.now t a.extension.now (begun (is_nal a.form) a.out.now)
    (on_then _ _ _ (c.in_ok-put_front.ensures ∙ ap (λ (x : Writing). play_on x first) c.begin-w.ensures)
    (on_then _ _ _ c.in_ok-put_block.ensures (on_then _ _ _ c.in_ok-put_back.ensures c.in_ok-put_extension.ensures))))
    c.close.ensures
