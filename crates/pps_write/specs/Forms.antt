-- What a set is put as: an RBSP, or a NAL unit.
use Rattle.std.specs.Prelude.{Bool, true, false}
use Rattle.pps_write.specs.declared.Form.{Form}
use Rattle.pps_write.specs.declared.Form.TheVariants.{Rbsp, NalUnit}

abbrev pub is_nal : Form → Bool
is_nal Rbsp = false
is_nal NalUnit = true
