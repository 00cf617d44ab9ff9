-- A part is as its description has it once its groups are.
use Rattle.std.specs.Prelude.{ℕ, List, [], Bool, ◌≡◌, Result, Ok, Err}
use Rattle.std.specs.Result.{IsErr, IsErrAnd}
use Rattle.std.proofs.Common.{sym, ap, subst, ◌∙◌}
use Rattle.std.proofs.lemmas.List.Edits.{sets}
use Rattle.refusal.specs.declared.Refusal.{Refusal}
use Rattle.bit_reader.specs.declared.BitReader.{BitReader}
use Rattle.bit_reader.specs.declared.Cursor.{Cursor}
use Rattle.bit_reader.specs.Gives.{cursor_of, Gives, value_read, held_as}
use Rattle.bit_reader.proofs.Gives.{holds, holds-none, at_exit, refused_back, not-0}
use Rattle.pps_record.specs.declared.VvcPpsDeblocking.{VvcPpsDeblocking}
use Rattle.pps_record.specs.declared.VvcPpsSubpicIdMapping.{VvcPpsSubpicIdMapping}
use Rattle.pps_syntax.specs.Chroma.{ChromaToolOffsets}
use Rattle.pps_syntax.specs.Deblocking.{deblocking}
use Rattle.pps_syntax.specs.Pps.{Front, Back, front}
use Rattle.pps_syntax.specs.Record.{mapping_of}
use Rattle.pps_syntax.specs.SubpicIds.{subpic_ids}
use Rattle.syntax.specs.Elements.{is_set}
use Rattle.syntax.specs.Syntax.{parse, ◌>>=◌}
use Rattle.pps_blocks.specs.declared.chroma.Chroma.{Chroma}
use Rattle.pps_blocks.specs.Triples.{block_of}
use Rattle.pps_blocks.proofs.IdReads.{ids-behind}
use Rattle.pps_parts.specs.declared.FrontRead.{FrontRead}
use Rattle.pps_parts.specs.Parts.{front_of, back_of}

-- ---- before the block
front-behind : (s : List ℕ) (c : Cursor) → ((parse front s c).next.refused ≡ 0 → ⊥) → (parse front s c).value.subpic_ids.pps_subpic_id ≡ []
unfolding front parse ◌>>=◌
front-behind s c h = ids-behind _ s _ h

module _ {p q : BitReader} where
  -- no id was stored before the refusal
  pub front-refused : {x : Result FrontRead Refusal} {e : Refusal} {t : List ℕ} → IsErr x × IsErrAnd x (λ y. y ≡ e) → Gives (parse front) p q (Err e)
      → Gives (held_as front_of (parse front)) p q x × (t ≡ sets t 0 (value_read (parse front) p).subpic_ids.pps_subpic_id)
  front-refused {e = e} {t = t} h g =
      (at_exit h.1 (holds-none front_of g), ap (sets t 0) (sym (front-behind p.bytes.now (cursor_of p) (not-0 e q.bit_pos (refused_back g)))))

  pub ids-stay : (partitioned : Bool) {e : Refusal} (t₀ : List ℕ) {t : List ℕ} → Gives (parse (subpic_ids partitioned)) p q (Err e) → t ≡ sets t₀ 0 (value_read (parse (subpic_ids partitioned)) p).pps_subpic_id → t ≡ t₀
  ids-stay partitioned {e} t₀ g f = f ∙ ap (sets t₀ 0) (ids-behind partitioned p.bytes.now (cursor_of p) (not-0 e q.bit_pos (refused_back g)))

  pub front-read : (v : Front) {m : VvcPpsSubpicIdMapping} (t₀ : List ℕ) {t : List ℕ} → Gives (parse front) p q (Ok v) → mapping_of v.subpic_ids ≡ m → t ≡ sets t₀ 0 v.subpic_ids.pps_subpic_id
      → Gives (held_as front_of (parse front)) p q (Ok (record (front_of v) { subpic_ids = m })) × (t ≡ sets t₀ 0 (value_read (parse front) p).subpic_ids.pps_subpic_id)
  front-read v t₀ g e f =
      (holds front_of g (ap (λ (k : VvcPpsSubpicIdMapping). record (front_of v) { subpic_ids = k }) (sym e)), f ∙ ap (λ (w : Front). sets t₀ 0 w.subpic_ids.pps_subpic_id) (sym g.value))

-- ---- behind it
-- the deblocking block asks whether there is a chroma block, in the record as in the description
pub behind-chroma : (parted : Bool) (v : ChromaToolOffsets) {t : Chroma} {p q : BitReader} {x : Result VvcPpsDeblocking Refusal} → block_of v ≡ t
    → Gives (parse (deblocking parted (is_set t.block.present))) p q x → Gives (parse (deblocking parted (is_set v.present))) p q x
behind-chroma parted v {p = p} {q = q} {x = x} e g = subst (λ (t : Chroma). Gives (parse (deblocking parted (is_set t.block.present))) p q x) (sym e) g

pub back-made : (v : Back) {t : Chroma} → block_of v.chroma ≡ t → record (back_of v) { chroma = t } ≡ back_of v
back-made v e = ap (λ (t : Chroma). record (back_of v) { chroma = t }) (sym e)
