-- The rule is one test, computed over the whole table.
-- the table again, by its runs: antt finds it the same as the source's
use mathlib.Core.List.{List, ◌++◌}
use Prim.Native.Nat.{ℕ}
use lib.ListN.{replicate}
use borrow.Author.Rules.{rules}
use Rattle.codes.specs.ExpGolomb.{ue_length, floor_log2, halvings}
use Rattle.code_length.proofs.Rule.{is_length, entry-is}
use Rattle.code_length.proofs.tabled.Goals as goal

lengths : List ℕ
lengths = replicate 1 1 ++ (replicate 2 3 ++ (replicate 4 5 ++ (replicate 8 7 ++ (replicate 16 9 ++ (replicate 32 11 ++ (replicate 64 13 ++ (replicate 128 15 ++ (replicate 256 17 ++ (replicate 512 19 ++ replicate 1 21)))))))))

pub returns : goal.returns
unfolding lengths is_length ue_length floor_log2 halvings
returns c = entry-is lengths c.args.v (search rules) tt
