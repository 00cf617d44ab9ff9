use Rattle.bit_writer.proofs.Coding.{code-short, code-long}
use Rattle.bit_writer.proofs.BitWriter.put_code.Goals as goal

pub returns-then-z-lt32 : goal.returns-then-z-lt32
returns-then-z-lt32 c = code-short _ _ _ c.ilog2-z.ensures.power_le c.ilog2-z.ensures.next_power_gt c.put_word.ensures

pub returns : goal.returns
returns c = code-long _ _ _ c.ilog2-z.ensures.power_le c.ilog2-z.ensures.next_power_gt c.put_word-2.ensures c.put_word-3.ensures
