-- What reading answers, as docs/BEHAVIOUR.md has it: the record, the triples beside it and the bytes taken, or the
-- number of a refusal.
use Rattle.std.specs.Prelude.{ℕ, ◌/◌, ◌≡◌, List, cond, eqb, Result, Ok, Err}
use Rattle.std.proofs.Common.{eq-eqb, ne_eqb}
use Rattle.refusal.specs.declared.Refusal.{Refusal}
use Rattle.refusal.specs.Numbers.{number}
use Rattle.bit_reader.specs.declared.Cursor.{Cursor}
use Rattle.bit_reader.specs.Gives.{Parsed, parsed}
use Rattle.pps_record.specs.declared.VvcPps.{VvcPps}
use Rattle.pps_record.specs.declared.VvcPpsPartition.{VvcPpsPartition}
use Rattle.pps_record.specs.declared.VvcQpOffsets.{VvcQpOffsets}
use Rattle.pps_parts.specs.declared.FrontRead.{FrontRead}
use Rattle.pps_parts.specs.declared.BackRead.{BackRead}
use Rattle.pps_parts.specs.Ends.{end_read}
use Rattle.pps_syntax.specs.Rbsp.{ReadSet, ReadAnswer, accepted, refused}
use Rattle.pps_syntax.specs.Record.{record_of, triples_of}
use Rattle.pps_answer.specs.declared.AcceptedPps.{AcceptedPps}

-- a set, or the number of a refusal
pub data PpsAnswer : Type 0 where
  Accepted : AcceptedPps → PpsAnswer
  Refused : ℕ → PpsAnswer

unfoldable pub said : Result AcceptedPps Refusal → PpsAnswer
said (Ok a) = Accepted a
said (Err e) = Refused (number e)

abbrev pub accepted_pps : VvcPps → List VvcQpOffsets → ℕ → PpsAnswer
accepted_pps pps triples taken = Accepted (record { pps = pps; triples = triples; bytes_taken = taken })

abbrev pub refused_pps : ℕ → PpsAnswer
refused_pps n = Refused n

-- the record of a set that was read, and the triples beside it
abbrev pub record_read : ReadSet → VvcPps
record_read a = record_of a.set a.extension_first_bit a.extension_count

abbrev pub triples_read : ReadSet → List VvcQpOffsets
triples_read a = triples_of a.set.back.chroma.list

unfoldable pub answer_of : ReadAnswer → PpsAnswer
answer_of (accepted a) = accepted_pps (record_read a) (triples_read a) a.bytes_taken
answer_of (refused n) = refused_pps n

-- ---- from the parts as they were read
-- no extension bits start at 0
unfoldable pub first_bit : ℕ → ℕ → ℕ
first_bit bits at = cond (eqb bits 0) 0 at

unfoldable pub record_from : FrontRead → VvcPpsPartition → BackRead → ℕ → ℕ → VvcPps
record_from f p b first bits =
    record {
      pps_pic_parameter_set_id = f.head.pps_pic_parameter_set_id;
      pps_seq_parameter_set_id = f.head.pps_seq_parameter_set_id;
      pps_mixed_nalu_types_in_pic_flag = f.head.pps_mixed_nalu_types_in_pic_flag;
      pps_pic_width_in_luma_samples = f.head.pps_pic_width_in_luma_samples;
      pps_pic_height_in_luma_samples = f.head.pps_pic_height_in_luma_samples;
      pps_conf_win_offsets = f.conf_win;
      pps_scaling_win_offsets = f.scaling_win;
      pps_output_flag_present_flag = f.kind.pps_output_flag_present_flag;
      pps_no_pic_partition_flag = f.kind.pps_no_pic_partition_flag;
      subpic_id_mapping = f.subpic_ids;
      partition = p;
      pps_cabac_init_present_flag = b.references.pps_cabac_init_present_flag;
      pps_num_ref_idx_default_active_minus1_l0 = b.references.pps_num_ref_idx_default_active_minus1_l0;
      pps_num_ref_idx_default_active_minus1_l1 = b.references.pps_num_ref_idx_default_active_minus1_l1;
      pps_rpl1_idx_present_flag = b.references.pps_rpl1_idx_present_flag;
      pps_weighted_pred_flag = b.references.pps_weighted_pred_flag;
      pps_weighted_bipred_flag = b.references.pps_weighted_bipred_flag;
      pps_ref_wraparound_enabled_flag = b.references.pps_ref_wraparound_enabled_flag;
      pps_pic_width_minus_wraparound_offset = b.references.pps_pic_width_minus_wraparound_offset;
      pps_init_qp_minus26 = b.references.pps_init_qp_minus26;
      pps_cu_qp_delta_enabled_flag = b.references.pps_cu_qp_delta_enabled_flag;
      chroma_tool_offsets = b.chroma.block;
      deblocking = b.deblocking;
      pps_rpl_info_in_ph_flag = b.picture_header.pps_rpl_info_in_ph_flag;
      pps_sao_info_in_ph_flag = b.picture_header.pps_sao_info_in_ph_flag;
      pps_alf_info_in_ph_flag = b.picture_header.pps_alf_info_in_ph_flag;
      pps_wp_info_in_ph_flag = b.picture_header.pps_wp_info_in_ph_flag;
      pps_qp_delta_info_in_ph_flag = b.picture_header.pps_qp_delta_info_in_ph_flag;
      pps_picture_header_extension_present_flag = b.picture_header.pps_picture_header_extension_present_flag;
      pps_slice_header_extension_present_flag = b.picture_header.pps_slice_header_extension_present_flag;
      pps_extension_flag = b.picture_header.pps_extension_flag;
      pps_extension_data_first_bit = first;
      pps_extension_data_bits = bits;
    }

-- the end that is read behind the parts, and all together
unfoldable pub answer_from : FrontRead → VvcPpsPartition → BackRead → List ℕ → Cursor → Parsed AcceptedPps
answer_from f p b s c =
    let n : Parsed ℕ = end_read b.picture_header.pps_extension_flag s c in
    parsed (record { pps = record_from f p b (first_bit n.value c.at) n.value; triples = b.chroma.triples; bytes_taken = n.next.at / 8 }) n.next

-- ---- where extension bits start
pub first-none : (bits at : ℕ) → bits ≡ 0 → 0 ≡ first_bit bits at
unfolding first_bit
first-none bits at e = rw (eq-eqb bits 0 e)

pub first_some : (bits at : ℕ) → (bits ≡ 0 → ⊥) → at ≡ first_bit bits at
unfolding first_bit
first_some bits at e = rw (ne_eqb bits 0 e)
