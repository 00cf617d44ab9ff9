-- The set as it is put, part by part.
use Rattle.std.specs.Prelude.{ℕ, ◌≡◌, Bool}
use Rattle.std.proofs.Math.Path.{sym, ap}
use Rattle.std.proofs.Common.{◌∙◌}
use mathlib.Core.List.{List, ◌++◌, append_assoc, append-nil}
use Rattle.codes.specs.Symbols.{Symbol, refusal_in, first}
use Rattle.bit_writer.specs.Played.{played}
use Rattle.bit_writer.specs.Stop.{up_to_refusal, same-refusal, unrefused-whole}
use Rattle.bit_writer.specs.Writing.{Writing, play}
use Rattle.syntax.specs.Elements.{or_else}
use Rattle.syntax.proofs.Elements.{presence}
use Rattle.syntax.specs.Lists.{many, none}
use Rattle.syntax.specs.Syntax.{◌>>=◌, symbols_for}
use Rattle.pps_syntax.specs.PartitionSyntax.{PartitionBlock, partition_element}
use Rattle.pps_syntax.specs.Pps.{Pps, front, back, pps, partitioned, pic_width, pic_height}
use Rattle.pps_syntax.specs.Written.{extension_symbols, set_symbols, set_refusal}

-- whether there is a partition block
abbrev pub presence_symbols : Bool → ℕ → List Symbol
presence_symbols parted present = (presence parted 26).symbols present

-- and the block
abbrev pub block_symbols : Bool → ℕ → ℕ → List PartitionBlock → List Symbol
block_symbols parted W H blocks = (or_else parted (many 1 (partition_element W H) 26) (none 0)).symbols blocks

abbrev pub partition_symbols : Bool → ℕ → ℕ → ℕ → List PartitionBlock → List Symbol
partition_symbols parted W H present blocks = presence_symbols parted present ++ block_symbols parted W H blocks

-- what stands behind the block
abbrev pub tail_symbols : Pps → List ℕ → List Symbol
tail_symbols r bs = symbols_for (back (partitioned r.front.kind)) r.back ++ extension_symbols r.back.picture_header.pps_extension_flag bs

-- the set is its parts
pub set_parts : (r : Pps) (bs : List ℕ) → set_symbols r bs
    ≡ symbols_for front r.front ++ (partition_symbols (partitioned r.front.kind) (pic_width r.front) (pic_height r.front) r.partition_present r.partition ++ tail_symbols r bs)
unfolding set_symbols pps symbols_for ◌>>=◌
set_parts r bs =
    let fs = symbols_for front r.front in
    let ps = presence_symbols (partitioned r.front.kind) r.partition_present in
    let qs = block_symbols (partitioned r.front.kind) (pic_width r.front) (pic_height r.front) r.partition in
    let b = symbols_for (back (partitioned r.front.kind)) r.back in
    let x = extension_symbols r.back.picture_header.pps_extension_flag bs in
    ap (λ (l : List Symbol). (fs ++ (ps ++ (qs ++ l))) ++ x) (append-nil b)
    ∙ append_assoc fs (ps ++ (qs ++ b)) x
    ∙ ap (λ (l : List Symbol). fs ++ l) (append_assoc ps (qs ++ b) x ∙ ap (λ (l : List Symbol). ps ++ l) (append_assoc qs b x) ∙ sym (append_assoc ps qs (b ++ x)))

-- ---- as it is put: up to its first refusal
-- it is refused with the same number
pub put-refusal : (r : Pps) (bs : List ℕ) → refusal_in (up_to_refusal (set_symbols r bs)) ≡ set_refusal r bs
put-refusal r bs = same-refusal (set_symbols r bs)

-- and where it is not refused, it is the set
pub put_whole : (r : Pps) (bs : List ℕ) → set_refusal r bs ≡ 0 → up_to_refusal (set_symbols r bs) ≡ set_symbols r bs
put_whole r bs h = unrefused-whole (set_symbols r bs) h

-- the refusal of what was put
pub play-refused : (w : Writing) (xs : List Symbol) → (play w xs).sink.refused ≡ first w.sink.refused (refusal_in xs)
play-refused w xs = ap (λ (x : Writing). x.sink.refused) (played xs w)
