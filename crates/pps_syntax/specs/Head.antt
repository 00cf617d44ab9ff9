-- The front of pic_parameter_set_rbsp() (H.266 7.3.2.5, 7.4.3.5): ids and picture size, the two windows, the kind of picture.
use Rattle.std.specs.Prelude.{ℕ, refl, Bool, not, ◌&&◌, eqb, ℤ, pos}
use Rattle.std.proofs.Common.{lit<}
use Rattle.pps_record.specs.declared.groups.Head.{Head}
use Rattle.pps_record.specs.declared.groups.PictureKind.{PictureKind}
use Rattle.pps_record.specs.declared.VvcPpsConfWinOffsets.{VvcPpsConfWinOffsets}
use Rattle.pps_record.specs.declared.VvcPpsScalingWinOffsets.{VvcPpsScalingWinOffsets}
use Rattle.syntax.specs.Element.{Element}
use Rattle.syntax.specs.Elements.{u, flag, ue, se, sameℤ, or_else, is_set}
use Rattle.syntax.proofs.Elements.{ue_if, absent}
use Rattle.syntax.proofs.Round.{structure}
use Rattle.syntax.specs.Syntax.{Syntax, done, on_writing, on_reading, ◌for◌, ◌>>=◌, ◌&◌, rebuilt, Faithful, Whole}

-- width and height are greater than 0
abbrev pub sized : ℕ → ℕ → Bool
sized w h = not (eqb w 0) && not (eqb h 0)

unfoldable pub head : Syntax Head
head = do
  id ← u 6 24 for (λ r. r.pps_pic_parameter_set_id)
  sps ← u 4 24 for (λ r. r.pps_seq_parameter_set_id)
  mixed ← flag for (λ r. r.pps_mixed_nalu_types_in_pic_flag)
  on_writing (λ r. sized r.pps_pic_width_in_luma_samples r.pps_pic_height_in_luma_samples) 7 do
    width ← ue for (λ r. r.pps_pic_width_in_luma_samples)
    height ← ue for (λ r. r.pps_pic_height_in_luma_samples)
    on_reading (sized width height) 7 (lit< tt)
        (done (record {
          pps_pic_parameter_set_id = id;
          pps_seq_parameter_set_id = sps;
          pps_mixed_nalu_types_in_pic_flag = mixed;
          pps_pic_width_in_luma_samples = width;
          pps_pic_height_in_luma_samples = height;
        }))

pub head_faithful : Faithful head (λ _. Unit {0})
unfolding head Faithful ◌>>=◌
head_faithful = λ a _ b _ c _ d _ e _ t. tt & refl & refl & refl & t & refl & refl

pub head-whole : Whole head
unfolding head rebuilt ◌>>=◌
head-whole r = refl

-- pps_conformance_window_flag and its offsets
unfoldable pub conf_win : Syntax VvcPpsConfWinOffsets
conf_win = do
  present ← flag for (λ r. r.present)
  let on = is_set present
  left ← ue_if on for (λ r. r.pps_conf_win_left_offset)
  right ← ue_if on for (λ r. r.pps_conf_win_right_offset)
  top ← ue_if on for (λ r. r.pps_conf_win_top_offset)
  bottom ← ue_if on for (λ r. r.pps_conf_win_bottom_offset)
  done (record {
    present = present;
    pps_conf_win_left_offset = left;
    pps_conf_win_right_offset = right;
    pps_conf_win_top_offset = top;
    pps_conf_win_bottom_offset = bottom;
  })

pub conf_win_faithful : Faithful conf_win (λ _. Unit {0})
unfolding conf_win Faithful ◌>>=◌
conf_win_faithful = λ a _ b _ c _ d _ e _. tt & refl & refl & refl & refl & refl

pub conf_win-whole : Whole conf_win
unfolding conf_win rebuilt ◌>>=◌
conf_win-whole r = refl

-- se(v) where `on`, else 0
abbrev pub se_if : Bool → Element ℤ
se_if on = or_else on se (absent sameℤ (pos 0) 0)

-- pps_scaling_window_explicit_signalling_flag and its offsets
unfoldable pub scaling_win : Syntax VvcPpsScalingWinOffsets
scaling_win = do
  present ← flag for (λ r. r.present)
  let on = is_set present
  left ← se_if on for (λ r. r.pps_scaling_win_left_offset)
  right ← se_if on for (λ r. r.pps_scaling_win_right_offset)
  top ← se_if on for (λ r. r.pps_scaling_win_top_offset)
  bottom ← se_if on for (λ r. r.pps_scaling_win_bottom_offset)
  done (record {
    present = present;
    pps_scaling_win_left_offset = left;
    pps_scaling_win_right_offset = right;
    pps_scaling_win_top_offset = top;
    pps_scaling_win_bottom_offset = bottom;
  })

pub scaling_win_faithful : Faithful scaling_win (λ _. Unit {0})
unfolding scaling_win Faithful ◌>>=◌
scaling_win_faithful = λ a _ b _ c _ d _ e _. tt & refl & refl & refl & refl & refl

pub scaling_win-whole : Whole scaling_win
unfolding scaling_win rebuilt ◌>>=◌
scaling_win-whole r = refl

unfoldable pub kind : Syntax PictureKind
kind = do
  output ← flag for (λ r. r.pps_output_flag_present_flag)
  unpartitioned ← flag for (λ r. r.pps_no_pic_partition_flag)
  done (record { pps_output_flag_present_flag = output; pps_no_pic_partition_flag = unpartitioned })

pub kind_faithful : Faithful kind (λ _. Unit {0})
unfolding kind Faithful ◌>>=◌
kind_faithful = λ a _ b _. tt & refl & refl

pub kind-whole : Whole kind
unfolding kind rebuilt ◌>>=◌
kind-whole r = refl

-- as elements of the set
abbrev pub head_element : Element Head
head_element = structure head head_faithful head-whole

abbrev pub conf_win_element : Element VvcPpsConfWinOffsets
conf_win_element = structure conf_win conf_win_faithful conf_win-whole

abbrev pub scaling_win_element : Element VvcPpsScalingWinOffsets
scaling_win_element = structure scaling_win scaling_win_faithful scaling_win-whole

abbrev pub kind_element : Element PictureKind
kind_element = structure kind kind_faithful kind-whole
