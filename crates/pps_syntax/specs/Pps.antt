-- pic_parameter_set_rbsp() of H.266 7.3.2.5, up to the extension bits: one description, read and written. It has three parts: what stands before the partition
-- block, the block, and what stands behind it.
use Rattle.std.specs.Prelude.{ℕ, List, Bool, ◌||◌, eqb}
use Rattle.std.proofs.Math.Path.{refl}
use Rattle.pps_record.specs.declared.groups.Head.{Head}
use Rattle.pps_record.specs.declared.groups.PictureKind.{PictureKind}
use Rattle.pps_record.specs.declared.groups.References.{References}
use Rattle.pps_record.specs.declared.groups.PictureHeaderFlags.{PictureHeaderFlags}
use Rattle.pps_record.specs.declared.VvcPpsConfWinOffsets.{VvcPpsConfWinOffsets}
use Rattle.pps_record.specs.declared.VvcPpsScalingWinOffsets.{VvcPpsScalingWinOffsets}
use Rattle.pps_record.specs.declared.VvcPpsDeblocking.{VvcPpsDeblocking}
use Rattle.pps_syntax.specs.Head.{head_element, conf_win_element, scaling_win_element, kind_element}
use Rattle.pps_syntax.specs.SubpicIds.{SubpicIds, subpic_ids_element}
use Rattle.pps_syntax.specs.PartitionSyntax.{PartitionBlock, partition_element}
use Rattle.pps_syntax.specs.References.{references_element}
use Rattle.pps_syntax.specs.Chroma.{ChromaToolOffsets, chroma_element}
use Rattle.pps_syntax.specs.Deblocking.{deblocking_element}
use Rattle.pps_syntax.specs.PictureHeader.{picture_header_element}
use Rattle.syntax.specs.Elements.{or_else, is_set}
use Rattle.syntax.proofs.Elements.{presence}
use Rattle.syntax.specs.Lists.{none, many}
use Rattle.syntax.proofs.Round.{structure}
use Rattle.syntax.specs.Syntax.{Syntax, done, ◌for◌, ◌>>=◌, ◌&◌, rebuilt, Faithful, Whole}

-- ---- before the partition block
pub record Front : Type 0 where
  pub head : Head
  pub conf_win : VvcPpsConfWinOffsets
  pub scaling_win : VvcPpsScalingWinOffsets
  pub kind : PictureKind
  pub subpic_ids : SubpicIds

abbrev pub partitioned : PictureKind → Bool
partitioned k = eqb k.pps_no_pic_partition_flag 0

unfoldable pub front : Syntax Front
front = do
  head ← head_element for (λ r. r.head)
  conf_win ← conf_win_element for (λ r. r.conf_win)
  scaling_win ← scaling_win_element for (λ r. r.scaling_win)
  kind ← kind_element for (λ r. r.kind)
  subpic_ids ← subpic_ids_element (partitioned kind) for (λ r. r.subpic_ids)
  done (record { head = head; conf_win = conf_win; scaling_win = scaling_win; kind = kind; subpic_ids = subpic_ids })

pub front_faithful : Faithful front (λ _. Unit {0})
unfolding front Faithful ◌>>=◌
front_faithful = λ a _ b _ c _ d _ e _. tt & refl & refl & refl & refl & refl

pub front-whole : Whole front
unfolding front rebuilt ◌>>=◌
front-whole r = refl

-- ---- behind it
pub record Back : Type 0 where
  pub references : References
  pub chroma : ChromaToolOffsets
  pub deblocking : VvcPpsDeblocking
  pub picture_header : PictureHeaderFlags

abbrev pub weighted : References → Bool
weighted r = is_set r.pps_weighted_pred_flag || is_set r.pps_weighted_bipred_flag

module _ (parted : Bool) where
  unfoldable pub back : Syntax Back
  back = do
    references ← references_element for (λ r. r.references)
    chroma ← chroma_element for (λ r. r.chroma)
    deblocking ← deblocking_element parted (is_set chroma.present) for (λ r. r.deblocking)
    picture_header ← picture_header_element parted (weighted references) for (λ r. r.picture_header)
    done (record { references = references; chroma = chroma; deblocking = deblocking; picture_header = picture_header })

  pub back_faithful : Faithful back (λ _. Unit {0})
  unfolding back Faithful ◌>>=◌
  back_faithful = λ a _ b _ c _ d _. tt & refl & refl & refl & refl

  pub back_whole : Whole back
  unfolding back rebuilt ◌>>=◌
  back_whole r = refl

-- ---- the set
pub record Pps : Type 0 where
  pub front : Front
  -- whether the record has the partition block, and it: a list of one, or empty
  pub partition_present : ℕ
  pub partition : List PartitionBlock
  pub back : Back

abbrev pub pic_width : Front → ℕ
pic_width f = f.head.pps_pic_width_in_luma_samples

abbrev pub pic_height : Front → ℕ
pic_height f = f.head.pps_pic_height_in_luma_samples

unfoldable pub pps : Syntax Pps
pps = do
  front ← structure front front_faithful front-whole for (λ r. r.front)
  let parted = partitioned front.kind
  present ← presence parted 26 for (λ r. r.partition_present)
  partition ← or_else parted (many 1 (partition_element (pic_width front) (pic_height front)) 26) (none 0) for (λ r. r.partition)
  back ← structure (back parted) (back_faithful parted) (back_whole parted) for (λ r. r.back)
  done (record { front = front; partition_present = present; partition = partition; back = back })

pub pps_faithful : Faithful pps (λ _. Unit {0})
unfolding pps Faithful ◌>>=◌
pps_faithful = λ a _ b _ c _ d _. tt & refl & refl & refl & refl

pub pps-whole : Whole pps
unfolding pps rebuilt ◌>>=◌
pps-whole r = refl
