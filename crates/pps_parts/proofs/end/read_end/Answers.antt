use Rattle.std.proofs.Common.{arith}
use Rattle.bit_reader.specs.Extension.{extension_le}
use Rattle.bit_reader.specs.Gives.{cursor_of}
use Rattle.bit_reader.proofs.Gives.{at_exit}
use Rattle.pps_parts.specs.Ends.{extension-inside}
use Rattle.pps_parts.proofs.Ends.{end-given, end-refused}
use Rattle.pps_parts.proofs.end.read_end.Goals as goal

pub overflow_add-r : goal.overflow_add-r
overflow_add-r c = let r = c.args.r.now in
    omega (arith, c.extension_bits-bits.ensures, extension-inside r.bytes.now c.args.flag (cursor_of r), extension_le r.bytes.now r.bit_pos)

pub returns-in_err-rbsp_trailing_bits : goal.returns-in_err-rbsp_trailing_bits
returns-in_err-rbsp_trailing_bits c = at_exit c.from_residual.ensures.1 (end-refused c.args.flag c.extension_bits-bits.ensures c.in_err-rbsp_trailing_bits.ensures)

pub returns : goal.returns
returns c = end-given c.args.flag c.extension_bits-bits.ensures c.in_ok-rbsp_trailing_bits.ensures
