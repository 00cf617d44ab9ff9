use Rattle.tile_sizes.proofs.Blocks.{in_blocks}
use Rattle.tile_sizes.proofs.in_ctbs.Goals as goal

pub returns : goal.returns
returns c = in_blocks _ _ _ c.min-log2_ctu_size.ensures
