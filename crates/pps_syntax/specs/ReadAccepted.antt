-- The partition block of a set that reading accepted: one where the picture is partitioned, none where it is not, and the block is accepted by the definitions of
-- tiles and slices.
use Rattle.std.specs.Prelude.{◌≡◌, false}
use Rattle.std.proofs.Math.Path.{refl}
use mathlib.Core.List.{List, [], ◌∷◌}
use Rattle.std.proofs.Math.Bool.{true}
use Rattle.partition.specs.Accepted.{Accepted}
use Rattle.partition.specs.Partition.{Partition}
use Rattle.pps_syntax.specs.PartitionSyntax.{PartitionBlock, partition_of}
use Rattle.pps_syntax.specs.Pps.{Pps, partitioned, pic_width, pic_height, pps}
use Rattle.syntax.specs.Elements.{or_else}
use Rattle.syntax.specs.Facts.{Facts, facts}
use Rattle.syntax.specs.Lists.{none, not-true}
use Rattle.syntax.specs.Syntax.{◌>>=◌, canonical_for, refusal_for}

-- the numbers of a set's partition, its block being b
abbrev pub picture_of : Pps → PartitionBlock → Partition
picture_of r b = partition_of (pic_width r.front) (pic_height r.front) b

-- the one block, accepted
pub record OneBlock (r : Pps) : Type 0 where
  pub block : PartitionBlock
  pub is : r.partition ≡ block ∷ []
  pub accepted : Accepted (picture_of r block)

-- a set whose fields writing refuses nowhere and reading could have given
module _ (r : Pps) (h : refusal_for pps r ≡ 0) (c : canonical_for pps r ≡ true) where
  pub set-unpartitioned : partitioned r.front.kind ≡ false → r.partition ≡ []
  unfolding pps Facts ◌>>=◌ or_else
  set-unpartitioned off = nothing r.partition (rw off at (facts pps r h c).1.1.0.1)
    where
      nothing : (bs : List PartitionBlock) → (none 0).canonical bs ≡ true → bs ≡ []
      nothing [] c = refl
      nothing (b ∷ bs) c = absurd (not-true c)
