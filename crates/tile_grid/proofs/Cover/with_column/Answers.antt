use native.Mathlib.Omega.{arith}
use mathlib.Core.Path.{refl}
use Rattle.std.proofs.lemmas.List.{length-map}
use Rattle.partition.specs.Grid.{max_tiles}
use Rattle.tile_grid.specs.Edges.{zeros-zero}
use Rattle.tile_grid.specs.TileGroups.{group_of}
use Rattle.tile_grid.specs.Down.{tables-made, down-begins, down_fits, down-within, down-goes-on, down_ends}
use Rattle.tile_grid.proofs.Cover.with_column.Goals as goal

pub count_edges-requires : goal.count_edges-requires
count_edges-requires c = (zeros-zero max_tiles, zeros-zero max_tiles, c.requires.3)

pub loop-y-init : goal.loop-y-init
loop-y-init c = (tables-made _ _ _ _ _ _ (zeros-zero max_tiles) (zeros-zero max_tiles) refl refl c.count_edges.ensures, down-begins _ _ _ _ _ c.requires.4)

pub overflow_add-count : goal.overflow_add-count
overflow_add-count c = let f = down_fits _ _ _ _ c.requires.0 c.requires.1 _ _ c.loop-y.invariant.0 _ _ _ _ c.loop-y.invariant.1 (omega arith) (omega (arith, c.requires.3, length-map c.args.groups.now group_of)) in omega arith

pub overflow_sub-count : goal.overflow_sub-count
overflow_sub-count c = down-within _ _ _ _ c.requires.0 c.requires.1 _ _ c.loop-y.invariant.0 _ _ _ _ c.loop-y.invariant.1 (omega arith)

pub loop-y-preserved : goal.loop-y-preserved
loop-y-preserved c = (c.loop-y.invariant.0, down-goes-on _ _ _ _ c.requires.0 c.requires.1 _ _ c.loop-y.invariant.0 _ _ _ _ c.loop-y.invariant.1 (omega arith) _ _ refl c.with_tile-cover.ensures)

pub returns : goal.returns
returns c = down_ends _ _ _ _ _ _ _ _ (omega arith) c.loop-y.invariant.1
