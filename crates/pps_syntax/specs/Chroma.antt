-- The chroma tool offsets block (H.266 7.3.2.5, 7.4.3.5).
use Rattle.std.specs.Prelude.{ℕ, suc, ◌-◌, ◌≡◌, refl, List, [], ◌∷◌, Bool, true, false, not, ◌&&◌, ◌||◌, leb, ltb, ℤ, pos, length}
use Rattle.std.proofs.Common.{sym, arith, lit<, lt-ltb, le-leb, leb-true, eqb-true}
use Rattle.pps_syntax.specs.Offsets.{offset, offset_or}
use Rattle.syntax.specs.Element.{Element}
use Rattle.syntax.specs.Elements.{flag, or_else, is_set}
use Rattle.syntax.proofs.Elements.{flag_if, ue_if}
use Rattle.syntax.specs.Lists.{many, none, many-length, not-true}
use Rattle.syntax.proofs.Round.{structure}
use Rattle.syntax.specs.Syntax.{Syntax, done, on_writing, on_reading, ◌for◌, ◌>>=◌, ◌&◌, rebuilt, Faithful, Whole}

-- pps_cb_qp_offset_list[ i ], pps_cr_qp_offset_list[ i ] and, with the joint flag, pps_joint_cbcr_qp_offset_list[ i ]
pub record Triple : Type 0 where
  pub cb : ℤ
  pub cr : ℤ
  pub joint : ℤ

unfoldable pub triple : Bool → Syntax Triple
triple with_joint = do
  cb ← offset for (λ r. r.cb)
  cr ← offset for (λ r. r.cr)
  joint ← offset_or with_joint (pos 0) for (λ r. r.joint)
  done (record { cb = cb; cr = cr; joint = joint })

pub triple_faithful : (with_joint : Bool) → Faithful (triple with_joint) (λ _. Unit {0})
unfolding triple Faithful ◌>>=◌
triple_faithful with_joint = λ a _ b _ c _. tt & refl & refl & refl

pub triple-whole : (with_joint : Bool) → Whole (triple with_joint)
unfolding triple rebuilt ◌>>=◌
triple-whole with_joint r = refl

abbrev pub triple_element : Bool → Element Triple
triple_element with_joint = structure (triple with_joint) (triple_faithful with_joint) (triple-whole with_joint)

pub record ChromaToolOffsets : Type 0 where
  pub present : ℕ
  pub pps_cb_qp_offset : ℤ
  pub pps_cr_qp_offset : ℤ
  pub pps_joint_cbcr_qp_offset_present_flag : ℕ
  pub pps_joint_cbcr_qp_offset_value : ℤ
  pub pps_slice_chroma_qp_offsets_present_flag : ℕ
  pub pps_cu_chroma_qp_offset_list_enabled_flag : ℕ
  pub list : List Triple

-- 1 to 6 triples
abbrev pub list_length : Bool → List Triple → Bool
list_length on l = not on || (ltb 0 (length l) && leb (length l) 6)

unfoldable pub chroma : Syntax ChromaToolOffsets
chroma = do
  present ← flag for (λ r. r.present)
  let on = is_set present
  cb ← offset_or on (pos 0) for (λ r. r.pps_cb_qp_offset)
  cr ← offset_or on (pos 0) for (λ r. r.pps_cr_qp_offset)
  joint ← flag_if on for (λ r. r.pps_joint_cbcr_qp_offset_present_flag)
  let with_joint = on && is_set joint
  value ← offset_or with_joint (pos 0) for (λ r. r.pps_joint_cbcr_qp_offset_value)
  slice ← flag_if on for (λ r. r.pps_slice_chroma_qp_offsets_present_flag)
  enabled ← flag_if on for (λ r. r.pps_cu_chroma_qp_offset_list_enabled_flag)
  let listed = on && is_set enabled
  on_writing (λ r. list_length listed r.list) 21 do
    length_minus1 ← ue_if listed for (λ r. length r.list - 1)
    on_reading (leb length_minus1 5) 21 (lit< tt) do
      list ← or_else listed (many (suc length_minus1) (triple_element with_joint) 21) (none 0) for (λ r. r.list)
      done (record {
        present = present;
        pps_cb_qp_offset = cb;
        pps_cr_qp_offset = cr;
        pps_joint_cbcr_qp_offset_present_flag = joint;
        pps_joint_cbcr_qp_offset_value = value;
        pps_slice_chroma_qp_offsets_present_flag = slice;
        pps_cu_chroma_qp_offset_list_enabled_flag = enabled;
        list = list;
      })

list-fits : (on : Bool) (n : ℕ) (e : Element Triple) (l : List Triple) → (ue_if on).canonical n ≡ true → leb n 5 ≡ true → (or_else on (many (suc n) e 21) (none 0)).canonical l ≡ true
    → (list_length on l ≡ true) × (length l - 1 ≡ n)
unfolding or_else
list-fits true n e l c t d =
    let k : length l ≡ suc n = many-length (suc n) e 21 l d in
    let a : ltb 0 (length l) ≡ true = lt-ltb 0 (length l) (omega arith) in
    let b : leb (length l) 6 ≡ true = le-leb (length l) 6 (omega (arith, leb-true n 5 t)) in
    (rw (a, b), omega arith)
list-fits false n e [] c t d = (refl, sym (eqb-true n 0 c))
list-fits false n e (x ∷ l) c t d = absurd (not-true d)

pub chroma_faithful : Faithful chroma (λ _. Unit {0})
unfolding chroma Faithful ◌>>=◌
chroma_faithful = λ p _ a _ b _ j _ v _ s _ e _ n c t l d.
    let f = list-fits (is_set p && is_set e) n (triple_element (is_set p && is_set j)) l c t d in
    tt & refl & refl & refl & refl & refl & refl & refl & f.0 & f.1 & refl

pub chroma-whole : Whole chroma
unfolding chroma rebuilt ◌>>=◌
chroma-whole r = refl

abbrev pub chroma_element : Element ChromaToolOffsets
chroma_element = structure chroma chroma_faithful chroma-whole
