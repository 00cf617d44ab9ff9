-- What is coded, inferred and left, as it was counted.
use Rattle.pps_slices.proofs.parts.read_height.Goals as goal

pub returns : goal.returns
returns c = rw (c.height_coded-coded.ensures, c.inherited_height-inherited.ensures, c.rows_left.ensures) at c.size_in_tiles.ensures
