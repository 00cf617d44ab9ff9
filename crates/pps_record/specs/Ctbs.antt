-- pic_width_in_ctbs and pic_height_in_ctbs (two differences from H.266 and one from the Rust: docs/DIFFERENCES.md).
use Rattle.std.specs.Prelude.{ℕ, ◌<◌, ◌≤◌, ◌≡◌, cond, eqb, ltb, Result, Ok, Err}
use Rattle.std.proofs.Common.{ap}
use borrow.Author.Tests.{eq-eqb, ne_eqb, lt-ltb, le-ltb}
use Rattle.partition.specs.Partition.{in_ctbs}
use Rattle.refusal.specs.declared.Refusal.{Refusal}
use Rattle.refusal.specs.declared.Refusal.TheVariants.{CtuSize}
use Rattle.slice_loop.specs.declared.CtbCount.{CtbCount}

-- A length in samples, in CTBs of the partition; 9 where its CTU size field is over 2. Without a partition the Rust counts blocks of 1,024 samples, a CTU
-- size field of 5; H.266 takes the size from the SPS.
unfoldable pub ctbs_of : ℕ → ℕ → ℕ → Result CtbCount Refusal
ctbs_of samples present log2 =
    cond (eqb present 0) (Ok (record { 0 = in_ctbs samples 5 })) (cond (ltb 2 log2) (Err CtuSize) (Ok (record { 0 = in_ctbs samples log2 })))

module _ (samples present log2 : ℕ) where
  pub ctbs_unpartitioned : (n : CtbCount) → present ≡ 0 → n.0 ≡ in_ctbs samples 5 → Ok n ≡ ctbs_of samples present log2
  unfolding ctbs_of
  ctbs_unpartitioned n e h = rw (eq-eqb present 0 e) (ap (λ (k : ℕ). Ok (record { 0 = k })) h)

  pub ctbs_refused : (present ≡ 0 → ⊥) → 2 < log2 → Err CtuSize ≡ ctbs_of samples present log2
  unfolding ctbs_of
  ctbs_refused e l = rw (ne_eqb present 0 e, lt-ltb 2 log2 l)

  pub ctbs_partitioned : (n : CtbCount) → (present ≡ 0 → ⊥) → log2 ≤ 2 → n.0 ≡ in_ctbs samples log2 → Ok n ≡ ctbs_of samples present log2
  unfolding ctbs_of
  ctbs_partitioned n e l h = rw (ne_eqb present 0 e, le-ltb 2 log2 l) (ap (λ (k : ℕ). Ok (record { 0 = k })) h)
