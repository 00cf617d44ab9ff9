use mathlib.Core.Path.{sym}
use native.Mathlib.Omega.{arith}
use mir.Val.{Fits}
use mir.Syntax.{w8}
use lib.ListN.{get_or}
use Rattle.codes.specs.Windows.{byte-bits}
use Rattle.bit_writer.proofs.copy.byte_at.Goals as goal

pub returns : goal.returns
returns c = let f : Fits w8 (get_or c.args.src.now c.args.i 0) = c.type_inv.src c.args.i in sym (byte-bits c.args.src.now c.args.i (omega arith) (omega arith) (omega arith))
