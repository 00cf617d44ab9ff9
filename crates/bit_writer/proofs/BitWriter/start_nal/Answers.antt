use Prim.Native.Nat.{ℕ}
use mathlib.Core.List.{List}
use mathlib.Core.Path.{ap, ap₂, ◌∙◌}
use lib.ListN.{set}
use Rattle.bit_writer.specs.Writing.{Writing, sink_over}
use Rattle.bit_writer.proofs.BitWriter.start_nal.Goals as goal

pub returns : goal.returns
returns c =
    ap₂ (λ (w : Writing) (l : List ℕ). sink_over (record w.sink { put = 2 }) l) (c.new.ensures c.put-2.new.table)
    (c.put-2.ensures ∙ ap (λ (l : List ℕ). set l 1 c.args.second) c.put.ensures)
