use Rattle.std.proofs.Common.{refl, ap, sym, ◌∙◌, arith, pow_pos, pow_mono, ◌+◌}
use Rattle.codes.specs.Bytes.{bits-lt}
use Rattle.bit_reader.specs.Gives.{bits_parsed}
use Rattle.bit_reader.specs.Laws.{ue-is, ue_past}
use Rattle.bit_reader.proofs.Gives.{given}
use Rattle.std.proofs.lemmas.Nat.{one_shl}
use Rattle.bit_reader.proofs.BitReader.ue.Goals as goal

pub returns-then-at-end : goal.returns-then-at-end
returns-then-at-end c = given refl (ap bits_parsed (ue_past _ _ 32 (omega arith) refl (omega arith) ∙ sym (ue-is _ _)))

pub overflow_add-result : goal.overflow_add-result
overflow_add-result c = let z = c.zeros_from-z.result in
    rw (one_shl z 32 c.if-z-ge32.false)
    (omega (arith, bits-lt c.args.self.now.bytes.now (c.args.self.now.bit_pos + z + 1) z, pow_mono {i = z} {j = 31} (omega arith), pow_pos z))
