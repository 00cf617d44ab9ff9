use mathlib.Core.Path.{◌≡◌}
use lib.ListN.{drop}
use Rattle.refusal.specs.Numbers.{number}
use Rattle.bit_writer.specs.Stop.{play_on}
use Rattle.bit_writer.specs.Written.{written}
use Rattle.pps_put_slices.specs.Sizes.{sizes_symbols}
use Rattle.pps_put_slices.proofs.sizes.put_sizes.Given as goal

abbrev pub invariant-loop-v : goal.invariant-loop-v
invariant-loop-v l = (play_on (written l.w l.out) (sizes_symbols l.limit (number l.refusal) (drop l.v-index l.sizes)) ≡ play_on (written l.initial.w l.initial.out) (sizes_symbols l.limit (number l.refusal) l.sizes))
