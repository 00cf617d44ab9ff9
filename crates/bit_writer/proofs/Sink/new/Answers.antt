use mathlib.Core.List.{[]}
use mathlib.Core.Path.{ap, ◌∙◌}
use Rattle.bit_writer.specs.Writing.{Writing}
use Rattle.bit_writer.proofs.Sink.new.Goals as goal

pub returns : goal.returns
returns c = c.of.ensures ∙ ap (λ (w : Writing). w.sink) (c.new.ensures [])
