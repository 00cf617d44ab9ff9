-- Front, partition block, back and end of a set, read one behind the other, are the set that the description reads.
use Rattle.std.specs.Prelude.{ℕ, ◌≡◌, refl, List, Bool, true, false, ◌&&◌, eqb, length, Result, Ok, Err}
use Rattle.std.specs.Result.{IsErr, IsErrAnd}
use Rattle.std.proofs.Common.{sym, ap, subst, ◌∙◌, Bor, arith, eq-eqb, ne_eqb}
use Rattle.std.proofs.lemmas.List.Edits.{sets}
use Rattle.std.proofs.lemmas.Result.{err_from_is_err_and}
use Rattle.refusal.specs.declared.Refusal.{Refusal}
use Rattle.refusal.specs.Numbers.{number}
use Rattle.bit_reader.specs.declared.BitReader.{BitReader}
use Rattle.bit_reader.specs.declared.Cursor.{Cursor}
use Rattle.bit_reader.specs.Gives.{Parsed, cursor_of, Gives, value_read, held_as}
use Rattle.bit_reader.specs.Laws.{trailing_stays}
use Rattle.bit_reader.specs.Reading.{cursor_at, refusal, trailing_read}
use Rattle.bit_reader.proofs.Gives.{given, given_back, refused_back, not-0, over, held_back, held-none_back}
use Rattle.pps_record.specs.declared.VvcPpsPartition.{VvcPpsPartition}
use Rattle.pps_syntax.specs.Pps.{Front, Pps, front, back, pps, partitioned, pic_width, pic_height}
use Rattle.pps_syntax.specs.Rbsp.{ReadSet, accepted, refused, extension_for, behind_extension, answered, read_rbsp}
use Rattle.pps_syntax.specs.FromRecord.{Lent, lent}
use Rattle.pps_syntax.specs.Record.{record_of}
use Rattle.pps_syntax.specs.SliceTables.{SliceTables}
use Rattle.pps_syntax.proofs.ReadWhole.{read_whole}
use Rattle.syntax.specs.Elements.{one_if}
use Rattle.syntax.specs.Syntax.{parse, ◌>>=◌}
use Rattle.syntax.proofs.Steps.{follows, ◌⟫◌, stop, end}
use Rattle.pps_parts.specs.declared.FrontRead.{FrontRead}
use Rattle.pps_parts.specs.declared.BackRead.{BackRead}
use Rattle.pps_parts.specs.Ends.{extension_at, end_read}
use Rattle.pps_parts.specs.Parts.{front_of, back_of}
use Rattle.pps_answer.specs.declared.AcceptedPps.{AcceptedPps}
use Rattle.pps_answer.specs.Answers.{Accepted, Refused, said, first_bit, record_from, answer_of, answer_from}
use Rattle.pps_answer.specs.Lending.{put_lists}
use Rattle.pps_read.specs.Block.{blocks_read, blocks_record, BlocksPut}

-- a reader at the first bit
abbrev pub start : Bor (List ℕ) → BitReader
start s = record { bytes = s; bit_pos = 0 }

and_none : (a : Bool) → (a && false) ≡ false
and_none true = refl
and_none false = refl

-- ---- a set that was refused in its fields
answered-refused : (s : List ℕ) (p : Parsed Pps) → (p.next.refused ≡ 0 → ⊥)
    → answered p.value p.next.at (extension_for s p) (trailing_read s (behind_extension p.next (extension_for s p))) ≡ refused p.next.refused
unfolding answered
answered-refused s p h =
    let d = behind_extension p.next (extension_for s p) in
    ap (answered p.value p.next.at (extension_for s p)) (sym (trailing_stays s d h)) ∙ rw (ne_eqb p.next.refused 0 h)

fields-refused : {s : Bor (List ℕ)} {q : BitReader} {e : Refusal} → Gives (parse pps) (start s) q (Err e) → Refused (number e) ≡ answer_of (read_rbsp s.now)
unfolding read_rbsp answer_of
fields-refused {s} {q} {e} g =
    let p = parse pps s.now (cursor_at 0) in
    let is : refusal (cursor_of q) (number e) ≡ p.next = refused_back g in
    ap (λ (c : Cursor). Refused c.refused) is ∙ ap answer_of (sym (answered-refused s.now p (not-0 e q.bit_pos is)))

-- an answer of a refusal accepts nothing
pub nothing-accepted : (s : List ℕ) (n : ℕ) (a : ReadSet) → Refused n ≡ answer_of (read_rbsp s) → read_rbsp s ≡ accepted a → ⊥
unfolding answer_of
nothing-accepted s n a e f = let z : Refused n ≡ answer_of (accepted a) = e ∙ ap answer_of f in absurd (let n : ◌≡◌ {A = ℕ} 0 1 = cc in omega arith)

-- ---- a set whose fields were read
abbrev ends : Bor (List ℕ) → BitReader → Pps → Parsed ℕ
ends s q set = end_read set.back.picture_header.pps_extension_flag s.now (cursor_of q)

answered-is : {s : Bor (List ℕ)} {q : BitReader} (set : Pps) → Gives (parse pps) (start s) q (Ok set) → answered set q.bit_pos (ends s q set).value (ends s q set).next ≡ read_rbsp s.now
unfolding read_rbsp extension_for end_read extension_at
answered-is {s} set g = ap (λ (p : Parsed Pps). answered p.value p.next.at (extension_for s.now p) (trailing_read s.now (behind_extension p.next (extension_for s.now p)))) (given_back g)

record_same : (set : Pps) (n first : ℕ) → length set.partition ≡ set.partition_present
    → record_from (front_of set.front) (blocks_record set.partition) (back_of set.back) first n ≡ record_of set first n
unfolding record_from record_of blocks_record
record_same set n first l = rw l

module _ {s : Bor (List ℕ)} {q r : BitReader} (set : Pps) (b : q.bytes ≡ s) (counted : length set.partition ≡ set.partition_present) where
  ended : {x : Result AcceptedPps Refusal} → Gives (answer_from (front_of set.front) (blocks_record set.partition) (back_of set.back)) q r x
      → said x ≡ answer_of (answered set q.bit_pos (ends s q set).value (ends s q set).next)
  unfolding answer_from said answered answer_of first_bit
  ended {x = Ok a} g =
      let e = given_back (over b g) in
      let zero : (ends s q set).next.refused ≡ 0 = ap (λ (y : Parsed AcceptedPps). y.next.refused) (sym e) in
      ap (λ (y : Parsed AcceptedPps). Accepted y.value) e ∙ rw (record_same set (ends s q set).value (first_bit (ends s q set).value q.bit_pos) counted, eq-eqb (ends s q set).next.refused 0 zero)
  ended {x = Err e} g =
      let is : refusal (cursor_of r) (number e) ≡ (ends s q set).next = refused_back (over b g) in
      ap (λ (c : Cursor). Refused c.refused) is ∙ rw (ne_eqb (ends s q set).next.refused 0 (not-0 e r.bit_pos is))

same-lent : (u : Lent) {ids columns rows : List ℕ} {slices : SliceTables} → u.subpic_ids ≡ ids → u.column_widths ≡ columns → u.row_heights ≡ rows → u.slices ≡ slices → u ≡ lent ids columns rows slices
same-lent u a b c d = rw (← a, ← b, ← c, ← d)

-- ---- its lists, those of the block behind the ids
all-put : (set : Pps) (before t u : Lent) → t ≡ record before { subpic_ids = sets before.subpic_ids 0 set.front.subpic_ids.pps_subpic_id } → u.subpic_ids ≡ t.subpic_ids
    → BlocksPut set.partition t u → u ≡ put_lists set before
unfolding put_lists
all-put set before t u e i b =
    let w : Lent = record before { subpic_ids = sets before.subpic_ids 0 set.front.subpic_ids.pps_subpic_id } in
    let c : BlocksPut set.partition w u = subst (λ (x : Lent). BlocksPut set.partition x u) e b in
    let j : u.subpic_ids ≡ w.subpic_ids = i ∙ ap (λ (x : Lent). x.subpic_ids) e in
    same-lent u j c.columns c.rows c.slices

-- ---- as code comes to it
abbrev pub front_at : Bor (List ℕ) → Front
front_at s = value_read (parse front) (start s)

abbrev parted : Front → Bool
parted f = partitioned f.kind

abbrev pub set_at : Front → BitReader → BitReader → Pps
set_at f p q =
    record {
      front = f;
      partition_present = one_if (parted f);
      partition = value_read (blocks_read (parted f) (pic_width f) (pic_height f)) p;
      back = value_read (parse (back (parted f))) q;
    }

pub front-refused : {s : Bor (List ℕ)} {q : BitReader} {e : Refusal} → Gives (held_as front_of (parse front)) (start s) q (Err e) → Refused (number e) ≡ answer_of (read_rbsp s.now)
unfolding pps ◌>>=◌
front-refused g = fields-refused (follows pps (stop (held-none_back front_of {read = parse front} g)))

module _ {s : Bor (List ℕ)} {f : FrontRead} {p : BitReader} (F : Gives (held_as front_of (parse front)) (start s) p (Ok f)) where
  front-there : Gives (parse front) (start s) p (Ok (front_at s))
  front-there = held_back front_of {read = parse front} F

  -- the flag and the sizes of the record are those of the description
  by-front : (P : FrontRead → Type 0) → P f → P (front_of (front_at s))
  by-front P h = subst P (sym F.value) h

  block_is : {q : BitReader} {x : Result VvcPpsPartition Refusal}
      → Gives (held_as blocks_record (blocks_read (eqb f.kind.pps_no_pic_partition_flag 0) f.head.pps_pic_width_in_luma_samples f.head.pps_pic_height_in_luma_samples)) p q x
      → Gives (held_as blocks_record (blocks_read (parted (front_at s)) (pic_width (front_at s)) (pic_height (front_at s)))) p q x
  block_is {q} {x} g =
      by-front (λ (k : FrontRead). Gives (held_as blocks_record (blocks_read (eqb k.kind.pps_no_pic_partition_flag 0) k.head.pps_pic_width_in_luma_samples k.head.pps_pic_height_in_luma_samples)) p q x) g

  back_is : {q r : BitReader} {x : Result BackRead Refusal} → Gives (held_as back_of (parse (back (eqb f.kind.pps_no_pic_partition_flag 0)))) q r x
      → Gives (held_as back_of (parse (back (parted (front_at s))))) q r x
  back_is {q} {r} {x} g = by-front (λ (k : FrontRead). Gives (held_as back_of (parse (back (eqb k.kind.pps_no_pic_partition_flag 0)))) q r x) g

  pub block-refused : {q : BitReader} {e : Refusal}
      → Gives (held_as blocks_record (blocks_read (eqb f.kind.pps_no_pic_partition_flag 0) f.head.pps_pic_width_in_luma_samples f.head.pps_pic_height_in_luma_samples)) p q (Err e)
      → Refused (number e) ≡ answer_of (read_rbsp s.now)
  unfolding pps ◌>>=◌
  block-refused g =
      fields-refused
      (follows pps (front-there ⟫ given refl refl ⟫ stop (held-none_back blocks_record {read = blocks_read (parted (front_at s)) (pic_width (front_at s)) (pic_height (front_at s))} (block_is g))))

  module _ {q : BitReader} {b : VvcPpsPartition}
      (B : Gives (held_as blocks_record (blocks_read (eqb f.kind.pps_no_pic_partition_flag 0) f.head.pps_pic_width_in_luma_samples f.head.pps_pic_height_in_luma_samples)) p q (Ok b)) where
    block-there : Gives (blocks_read (parted (front_at s)) (pic_width (front_at s)) (pic_height (front_at s))) p q (Ok (set_at (front_at s) p q).partition)
    block-there = held_back blocks_record {read = blocks_read (parted (front_at s)) (pic_width (front_at s)) (pic_height (front_at s))} (block_is B)

    pub back-refused : {r : BitReader} {e : Refusal} → Gives (held_as back_of (parse (back (eqb f.kind.pps_no_pic_partition_flag 0)))) q r (Err e) → Refused (number e) ≡ answer_of (read_rbsp s.now)
    unfolding pps ◌>>=◌
    back-refused g =
        fields-refused (follows pps (front-there ⟫ given refl refl ⟫ block-there ⟫ stop (held-none_back back_of {read = parse (back (parted (front_at s)))} (back_is g))))

    module _ {r : BitReader} {k : BackRead} (K : Gives (held_as back_of (parse (back (eqb f.kind.pps_no_pic_partition_flag 0)))) q r (Ok k)) where
      set-there : Gives (parse pps) (start s) r (Ok (set_at (front_at s) p q))
      unfolding pps ◌>>=◌
      set-there = follows pps (front-there ⟫ given refl refl ⟫ block-there ⟫ held_back back_of {read = parse (back (parted (front_at s)))} (back_is K) ⟫ end)

      module _ (t u : Lent)
          (T : let blocks = value_read (blocks_read (eqb f.kind.pps_no_pic_partition_flag 0) f.head.pps_pic_width_in_luma_samples f.head.pps_pic_height_in_luma_samples) p in
          (length blocks ≡ one_if (eqb f.kind.pps_no_pic_partition_flag 0)) × BlocksPut blocks t u) where
        put : (length (set_at (front_at s) p q).partition ≡ one_if (parted (front_at s))) × BlocksPut (set_at (front_at s) p q).partition t u
        put =
            by-front (λ (k : FrontRead). let blocks = value_read (blocks_read (eqb k.kind.pps_no_pic_partition_flag 0) k.head.pps_pic_width_in_luma_samples k.head.pps_pic_height_in_luma_samples) p in
            (length blocks ≡ one_if (eqb k.kind.pps_no_pic_partition_flag 0)) × BlocksPut blocks t u) T

        pub answer-made : {z : BitReader} {x : Result AcceptedPps Refusal} → Gives (answer_from f b k) r z x → said x ≡ answer_of (read_rbsp s.now)
        answer-made {z} {x} g =
            let set = set_at (front_at s) p q in
            let h : Gives (answer_from (front_of set.front) (blocks_record set.partition) (back_of set.back)) r z x =
            subst (λ (n : FrontRead). Gives (answer_from n (blocks_record set.partition) (back_of set.back)) r z x) (sym F.value)
            (subst (λ (n : VvcPpsPartition). Gives (answer_from f n (back_of set.back)) r z x) (sym (block_is B).value)
            (subst (λ (n : BackRead). Gives (answer_from f b n) r z x) (sym (back_is K).value) g)) in
            ended set set-there.bytes put.0 h ∙ ap answer_of (answered-is set set-there)

        -- the ids were put before the block
        pub lists-made : (before : Lent) → t ≡ record before { subpic_ids = sets before.subpic_ids 0 (front_at s).subpic_ids.pps_subpic_id } → u.subpic_ids ≡ t.subpic_ids
            → (a : ReadSet) → read_rbsp s.now ≡ accepted a → u ≡ put_lists a.set before
        lists-made before e i a z =
            let is : a.set ≡ set_at (front_at s) p q = (read_whole s.now a z).set_is ∙ set-there.value in
            rw is (all-put (set_at (front_at s) p q) before t u e i put.1)

-- what is said at a refusal
pub said-refused : (x : Result AcceptedPps Refusal) (e : Refusal) → IsErr x × IsErrAnd x (λ y. y ≡ e) → said x ≡ Refused (number e)
unfolding said
said-refused x e h = let y = err_from_is_err_and x h.1 in rw (y.1, y.2)
