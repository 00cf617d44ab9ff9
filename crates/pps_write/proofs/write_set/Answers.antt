use Rattle.pps_tables.specs.Lent.{lent_of}
use Rattle.pps_write.specs.Forms.{is_nal}
use Rattle.pps_write.specs.Runs.{extension-inside, lent_wrong, lent_well}
use Rattle.pps_write.proofs.write_set.Goals as goal

pub returns-then-lent_fits-inside : goal.returns-then-lent_fits-inside
returns-then-lent_fits-inside c =
    let a = c.args in
    lent_well (is_nal a.form) a.pps.now a.triples.now (lent_of a.tables) a.extension.now a.out.now c.lent_fits.ensures (extension-inside a.pps.now a.extension.now c.bits_inside.ensures) c.if-lent_fits-inside.true c.write_counted.ensures

pub returns : goal.returns
returns c =
    let a = c.args in
    lent_wrong (is_nal a.form) a.pps.now a.triples.now (lent_of a.tables) a.extension.now a.out.now c.lent_fits.ensures (extension-inside a.pps.now a.extension.now c.bits_inside.ensures) c.if-lent_fits-inside.false
