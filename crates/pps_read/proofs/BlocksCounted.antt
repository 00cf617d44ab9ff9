-- A set that was read has one partition block, or none where the picture is not partitioned.
use Rattle.std.specs.Prelude.{ℕ, ◌≡◌, refl, List, Bool, true, false, length}
use Rattle.std.proofs.Common.{ap}
use Rattle.pps_syntax.specs.Pps.{partitioned}
use Rattle.pps_syntax.specs.Rbsp.{ReadSet, accepted, read_rbsp}
use Rattle.pps_syntax.proofs.ReadAccepted.{read-partition-accepted, read-unpartitioned}
use Rattle.syntax.specs.Elements.{one_if}

pub blocks-counted : (rbsp : List ℕ) (a : ReadSet) → read_rbsp rbsp ≡ accepted a → length a.set.partition ≡ one_if (partitioned a.set.front.kind)
blocks-counted rbsp a e = split (partitioned a.set.front.kind) refl
  where
    split : (b : Bool) → partitioned a.set.front.kind ≡ b → length a.set.partition ≡ one_if b
    split true q = ap length (read-partition-accepted rbsp a e q).is
    split false q = ap length ((read-unpartitioned rbsp a e).1 q)
