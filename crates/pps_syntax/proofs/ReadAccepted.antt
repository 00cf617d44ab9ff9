-- The partition block of a set that reading accepted: one where the picture is partitioned, none where it is not, and the block is accepted by the definitions of
-- tiles and slices.
use Rattle.std.specs.Prelude.{ℕ, ◌≡◌, ◌↔◌, Bool, false}
use Rattle.std.proofs.Math.Path.{refl}
use Rattle.std.proofs.Common.{subst, arith}
use mathlib.Core.List.{List, [], ◌∷◌}
use Rattle.std.proofs.Math.Bool.{true}
use Rattle.codes.specs.Symbols.{refusal_in}
use Rattle.partition.specs.Accepted.{Accepted}
use Rattle.pps_syntax.proofs.Laid.{block-accepted}
use Rattle.pps_syntax.specs.PartitionSyntax.{PartitionBlock, partition, partition_element, partition_of}
use Rattle.pps_syntax.specs.Pps.{Pps, partitioned, pic_width, pic_height, pps}
use Rattle.pps_syntax.specs.Rbsp.{ReadSet, accepted, read_rbsp}
use Rattle.pps_syntax.proofs.ReadWhole.{read_whole}
use Rattle.syntax.specs.Elements.{or_else}
use Rattle.syntax.specs.Facts.{Facts, facts}
use Rattle.syntax.specs.Lists.{many, not-true}
use Rattle.syntax.specs.Round.{and_parts, refusal_parts}
use Rattle.syntax.specs.Syntax.{◌>>=◌, symbols_for, canonical_for, refusal_for}
use Rattle.pps_syntax.specs.ReadAccepted.{picture_of, OneBlock, set-unpartitioned}

-- a list of one block
one_block : (W H : ℕ) (bs : List PartitionBlock) → refusal_in ((many 1 (partition_element W H) 26).symbols bs) ≡ 0 → (many 1 (partition_element W H) 26).canonical bs ≡ true
    → (b : PartitionBlock) × (bs ≡ b ∷ []) × Accepted (partition_of W H b)
unfolding many
one_block W H [] h c = absurd (not-true c)
one_block W H (b ∷ []) h c =
    (b, refl, block-accepted W H b (refusal_parts (symbols_for (partition W H) b) [] h).0 (and_parts (canonical_for (partition W H) b) true c).0)
one_block W H (b ∷ x ∷ bs) h c = absurd (not-true (and_parts (canonical_for (partition W H) b) false c).1)

-- a set whose fields writing refuses nowhere and reading could have given
module _ (r : Pps) (h : refusal_for pps r ≡ 0) (c : canonical_for pps r ≡ true) where
  pub set-partition-accepted : partitioned r.front.kind ≡ true → OneBlock r
  unfolding pps Facts ◌>>=◌ or_else
  set-partition-accepted on =
      let f = (facts pps r h c).1.1.0 in
      let a = one_block (pic_width r.front) (pic_height r.front) r.partition (rw on at f.0) (rw on at f.1) in
      record { block = a.0; is = a.1; accepted = a.2 }

-- a set that was read
module _ (rbsp : List ℕ) (a : ReadSet) (e : read_rbsp rbsp ≡ accepted a) where
  -- partitioned: one block, which is accepted
  pub read-partition-accepted : partitioned a.set.front.kind ≡ true → OneBlock a.set
  read-partition-accepted = let w = (read_whole rbsp a e).fields in set-partition-accepted a.set w.accepted w.given

  -- no block is there exactly when the picture is not partitioned
  pub read-unpartitioned : (a.set.partition ≡ []) ↔ (partitioned a.set.front.kind ≡ false)
  read-unpartitioned =
      let w = (read_whole rbsp a e).fields in
      ((λ z. split z (partitioned a.set.front.kind) refl), set-unpartitioned a.set w.accepted w.given)
    where
      split : a.set.partition ≡ [] → (b : Bool) → partitioned a.set.front.kind ≡ b → b ≡ false
      split z false q = refl
      split z true q = let o = (read-partition-accepted q).is in absurd (let n : ◌≡◌ {A = ℕ} 0 1 = cc in omega arith)

  -- each block that is there is that one
  pub read-block-there : (b : PartitionBlock) → a.set.partition ≡ b ∷ [] → Accepted (picture_of a.set b)
  read-block-there b there = split (partitioned a.set.front.kind) refl
    where
      split : (t : Bool) → partitioned a.set.front.kind ≡ t → Accepted (picture_of a.set b)
      split true q =
          let o = read-partition-accepted q in
          let same : o.block ≡ b = cc in
          subst (λ (x : PartitionBlock). Accepted (picture_of a.set x)) same o.accepted
      split false q = let o = read-unpartitioned.1 q in absurd (let n : ◌≡◌ {A = ℕ} 0 1 = cc in omega arith)
