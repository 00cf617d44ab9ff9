use Prim.Native.Nat.{min}
use mathlib.Core.Path.{◌≡◌, ap, ◌∙◌}
use native.Mathlib.Omega.{arith}
use Rattle.partition.specs.Partition.{in_ctbs}
use Rattle.pps_record.specs.Ctbs.{ctbs_unpartitioned, ctbs_refused, ctbs_partitioned}
use Rattle.pps_record.proofs.VvcPpsPartition.in_ctbs.Goals as goal

pub returns-then-self-eq0 : goal.returns-then-self-eq0
returns-then-self-eq0 c = ctbs_unpartitioned _ _ _ _ c.if-self-eq0.true c.in_ctbs.ensures

pub returns-then-self-gt2 : goal.returns-then-self-gt2
returns-then-self-gt2 c = ctbs_refused _ _ _ c.if-self-eq0.false c.if-self-gt2.true

pub returns : goal.returns
returns c = let e : min c.args.self.now.pps_log2_ctu_size_minus5 5 ≡ c.args.self.now.pps_log2_ctu_size_minus5 = omega arith in
    ctbs_partitioned _ _ _ _ c.if-self-eq0.false c.if-self-gt2.false (c.in_ctbs-2.ensures ∙ ap (in_ctbs _) e)
