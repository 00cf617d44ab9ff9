use Prim.Native.Nat.{ℕ, ◌+◌, ◌*◌, ◌-◌, ◌/◌, ◌%◌}
use mathlib.Core.Path.{◌≡◌, refl, ap, ◌∙◌}
use native.Mathlib.Omega.{arith}
use Rattle.codes.specs.Bytes.{bits_at, bit_list}
use Rattle.bit_writer.specs.Writing.{feed}
use Rattle.bit_writer.specs.Written.{written}
use Rattle.bit_writer.proofs.Ended.{feed_on}
use Rattle.bit_writer.proofs.Copying.{copy_ends}
use Rattle.bit_writer.proofs.BitWriter.put_copy.Goals as goal

pub returns : goal.returns
returns c =
    let i = c.loop-i.i in
    let end = c.args.from / 8 + c.args.count / 8 in
    let there : end ≡ i = omega arith in
    let rest : c.args.count % 8 ≡ (end - i) * 8 + c.args.count % 8 = omega arith in
    let next = c.byte_at-b-2.ensures ∙ ap (λ (k : ℕ). bits_at c.args.src.now ((k + 1) * 8) 8) there in
    c.put_word.ensures ∙ copy_ends _ _ i (c.args.from % 8) (c.args.count % 8) _ _ _ (omega arith) c.loop-i.invariant.0 next c.eight_of-2.ensures (omega arith)
    ∙ ap (λ (n : ℕ). feed (written c.loop-i.w c.loop-i.out) (bit_list c.args.src.now (i * 8 + c.args.from % 8) n)) rest
    ∙ c.loop-i.invariant.1 ∙ feed_on _ _ refl
