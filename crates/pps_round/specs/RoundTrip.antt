-- The round trip of the public functions, stated of a unit. Where `parse_pps` accepts a unit: `write_pps` of the record
-- and the triples that it gives, over the tables and the work buffer that it leaves, accepts and puts exactly the bytes
-- that reading took; `write_pps_nal` puts a unit of these bytes; and such a unit of at most 65,535 bytes is read as the
-- same record, triples and lists again.
use Rattle.std.specs.Prelude.{ℕ, zero, suc, ◌-◌, ◌≤◌, ◌<◌, ◌≡◌, refl, List, [], ◌∷◌, ◌++◌, Bool, cond, length, get_or, take, drop, Ok}
use Rattle.std.proofs.Common.{sym, ◌∙◌, arith, length-take-le, le-ltb}
use Rattle.std.proofs.Math.Path.{ap}
use Rattle.std.proofs.Math.Bool.{true, false}
use Rattle.bit_writer.specs.Answers.{answered, written_answer, written_out}
use Rattle.bit_writer.specs.Packed.{payload}
use Rattle.codes.specs.Bits.{number}
use Rattle.codes.specs.Bytes.{bit_at, bits_at, bit_list, bit_list-number}
use Rattle.nal.specs.Escape.{zero_run, is_escape, unescape_from, unescape, escape}
use Rattle.nal.specs.RoundTrip.{unescape-escape}
use Rattle.nal.specs.Answers.{output_after}
use Rattle.pps_answer.specs.Answers.{accepted_pps, record_read, triples_read, answer_of}
use Rattle.pps_answer.specs.Lending.{filled, after_fields}
use Rattle.pps_answer.specs.ParsePps.{outcome, parse_pps}
use Rattle.pps_record.specs.declared.VvcPps.{VvcPps}
use Rattle.pps_record.specs.declared.VvcQpOffsets.{VvcQpOffsets}
use Rattle.pps_round.specs.LentBack.{set-few, filled-long, filled-fit, bits-front, extension-lent, extension-back}
use Rattle.pps_round.specs.SetBack.{long_of, set_back}
use Rattle.pps_round.specs.TakenAgain.{taken_again}
use Rattle.pps_round.specs.UnitRead.{UnitRead, unit-read}
use Rattle.pps_syntax.specs.FromRecord.{Lent, set_from, tables_long}
use Rattle.pps_syntax.proofs.ListsFit.{read_lists_fit}
use Rattle.pps_syntax.specs.Rbsp.{ReadSet, accepted, read_rbsp, before_fields, rbsp_of}
use Rattle.pps_syntax.proofs.ReadWhole.{read_whole}
use Rattle.pps_syntax.specs.WriteAnswers.{lent_right, write_refusal, write_bytes, WriteOutcome, wrote, write_set, write_pps, write_pps_nal}
use Rattle.pps_syntax.specs.WrittenBack as back
use Rattle.pps_syntax.proofs.WrittenBack.{written_back}
use Rattle.tables.specs.Tables.{over}

-- ---- an answer of writing that refuses nothing, with room for its bytes
done-answer : (bytes out : List ℕ) → length bytes ≤ length out → written_answer 0 bytes out ≡ Ok (length bytes)
unfolding written_answer answered
done-answer bytes out h = rw (le-ltb (length out) (length bytes) h)

done-out : (bytes out : List ℕ) → length bytes ≤ length out → written_out 0 bytes out ≡ over bytes out
unfolding written_out output_after
done-out bytes out h = rw (done-answer bytes out h)

-- ---- the unit of an RBSP: the header of type 16, then the escaped RBSP
abbrev pub unit_of : List ℕ → List ℕ
unit_of rbsp = 0x00 ∷ 0x81 ∷ escape rbsp

unit-type : (rest : List ℕ) → bits_at (0x00 ∷ 0x81 ∷ rest) 8 5 ≡ 16
unfolding bits_at bit_at number bit_list
unit-type rest =
    sym (bit_list-number (0x00 ∷ 0x81 ∷ rest) 8 5) ∙ ap number (bits-front (0x00 ∷ 0x81 ∷ []) rest 5 8 (omega arith))
    ∙ bit_list-number (0x00 ∷ 0x81 ∷ []) 8 5 ∙ refl

-- nothing stands against reading a unit that is short enough, with a work buffer that is long enough
before-none : (rbsp : List ℕ) (work_length : ℕ) → length (unit_of rbsp) ≤ 65535 → length (unit_of rbsp) - 2 ≤ work_length
    → before_fields (unit_of rbsp) work_length true ≡ 0
unfolding before_fields
before-none rbsp work_length h l =
    rw (
      le-ltb (length (unit_of rbsp)) 2 (omega arith),
      unit-type (escape rbsp),
      le-ltb 65535 (length (unit_of rbsp)) h,
      le-ltb work_length (length (unit_of rbsp) - 2) l,
    )

unit_rbsp : (rbsp : List ℕ) → rbsp_of (unit_of rbsp) ≡ rbsp
unfolding rbsp_of
unit_rbsp rbsp = unescape-escape rbsp

-- ---- of an RBSP that reading accepts
-- the bytes that it took, or their unit
abbrev taken_bytes : List ℕ → ℕ → Bool → List ℕ
taken_bytes rbsp n nal = cond nal (unit_of (take n rbsp)) (take n rbsp)

module _ (rbsp : List ℕ) (a : ReadSet) (t : Lent) (work : List ℕ) (b : back.Bytes rbsp) (e : read_rbsp rbsp ≡ accepted a)
    (long : tables_long t ≡ true) where
  -- the set is read back out of the record, the triples and the tables
  pub set-read-back : set_from (record_read a) (triples_read a) (filled a.set t) ≡ a.set
  set-read-back =
      let w = (read_whole rbsp a e).fields in
      set_back a.set t a.extension_first_bit a.extension_count w.accepted w.given (long_of t long)
      (read_lists_fit rbsp a e)

  -- what is lent is right
  pub lent-right : lent_right (record_read a) (filled a.set t) (over rbsp work) ≡ true
  lent-right =
      let w = read_whole rbsp a e in
      let l = read_lists_fit rbsp a e in
      let f = set-few a.set w.fields.accepted w.fields.given l in
      rw (
        filled-long a.set t (long_of t long) l.subpic_ids_lem f,
        filled-fit a.set t a.extension_first_bit a.extension_count (long_of t long) l.subpic_ids_lem f,
        extension-lent rbsp work a w,
      )

  pub unrefused : write_refusal (record_read a) (triples_read a) (filled a.set t) (over rbsp work) ≡ 0
  unfolding write_refusal
  unrefused =
      rw (lent-right, set-read-back, extension-back rbsp work a (read_whole rbsp a e))
      (written_back rbsp a b e).accepted

  pub bytes_back : (nal : Bool)
      → write_bytes nal (record_read a) (triples_read a) (filled a.set t) (over rbsp work)
      ≡ taken_bytes rbsp a.bytes_taken nal
  unfolding write_bytes payload
  bytes_back false =
      rw (set-read-back, extension-back rbsp work a (read_whole rbsp a e)) (written_back rbsp a b e).bytes
  bytes_back true =
      rw (set-read-back, extension-back rbsp work a (read_whole rbsp a e))
      (ap unit_of (written_back rbsp a b e).bytes)

  pub written : (nal : Bool) (out bytes : List ℕ) → bytes ≡ taken_bytes rbsp a.bytes_taken nal
      → length bytes ≤ length out
      → write_set nal (record_read a) (triples_read a) (filled a.set t) (over rbsp work) out
      ≡ wrote (Ok (length bytes)) (over bytes out)
  unfolding write_set
  written nal out bytes is h = rw (unrefused, bytes_back nal, ← is, done-answer bytes out h, done-out bytes out h)

-- ---- the payload of a unit of bytes is bytes
byte-kept : (t : Bool) (b : ℕ) (xs : List ℕ) → b < 256 → back.Bytes xs → back.Bytes (cond t [] (b ∷ []) ++ xs)
byte-kept true b xs h p = p
byte-kept false b xs h p = λ i. at i
  where
    at : (i : ℕ) → get_or (b ∷ xs) i 0 < 256
    at zero = h
    at (suc i) = p i

unescaped-bytes : (z : ℕ) (s : List ℕ) → back.Bytes s → back.Bytes (unescape_from z s)
unfolding unescape_from
unescaped-bytes z [] p = p
unescaped-bytes z (b ∷ s) p = byte-kept (is_escape z b) b _ (p 0) (unescaped-bytes (zero_run z b) s (λ i. p (suc i)))

dropped_bytes : (n : ℕ) (s : List ℕ) → back.Bytes s → back.Bytes (drop n s)
dropped_bytes zero s p = p
dropped_bytes (suc n) [] p = p
dropped_bytes (suc n) (b ∷ s) p = dropped_bytes n s (λ i. p (suc i))

pub rbsp_bytes : (nal : List ℕ) → back.Bytes nal → back.Bytes (rbsp_of nal)
unfolding rbsp_of unescape
rbsp_bytes nal p = unescaped-bytes 0 (drop 2 nal) (dropped_bytes 2 nal p)

-- ---- the theorems: a unit of bytes, of which the contract of `parse_pps` says that it is accepted
module _ (nal work : List ℕ) (t : Lent) (pps : VvcPps) (triples : List VvcQpOffsets) (taken : ℕ) (left : List ℕ)
    (tables : Lent) (bytes : back.Bytes nal)
    (read : outcome (accepted_pps pps triples taken) left tables ≡ parse_pps nal work t) where
  abbrev u : UnitRead nal work t pps triples taken left tables
  u = unit-read nal work t pps triples taken left tables read

  all-written : (as_nal : Bool) (out : List ℕ) → length (taken_bytes (rbsp_of nal) taken as_nal) ≤ length out
      → write_set as_nal pps triples tables left out
      ≡ wrote (Ok (length (taken_bytes (rbsp_of nal) taken as_nal))) (over (taken_bytes (rbsp_of nal) taken as_nal) out)
  all-written as_nal out h =
      from u.read u.record_is u.triples_are u.work-is u.tables_are
      (written (rbsp_of nal) u.read t work (rbsp_bytes nal bytes) u.is u.long as_nal out _
      (ap (λ (n : ℕ). taken_bytes (rbsp_of nal) n as_nal) u.taken_is) h)
    where
      from : (a : ReadSet) {o : WriteOutcome} → pps ≡ record_read a → triples ≡ triples_read a
          → left ≡ over (rbsp_of nal) work → tables ≡ filled a.set t
          → write_set as_nal (record_read a) (triples_read a) (filled a.set t) (over (rbsp_of nal) work) out ≡ o
          → write_set as_nal pps triples tables left out ≡ o
      from a p q w k e = rw (p, q, w, k) e

  -- `write_pps` puts the bytes that reading took
  pub unit-written : (out : List ℕ) → taken ≤ length out
      → write_pps pps triples tables left out ≡ wrote (Ok taken) (over (take taken (rbsp_of nal)) out)
  unit-written out h =
      let inside = (read_whole (rbsp_of nal) u.read u.is).trailing.inside in
      let n : length (take taken (rbsp_of nal)) ≡ taken =
      length-take-le taken (rbsp_of nal) (omega (arith, u.taken_is)) in
      all-written false out (omega arith) ∙ ap (λ (k : ℕ). wrote (Ok k) (over (take taken (rbsp_of nal)) out)) n

  -- `write_pps_nal` puts their unit
  pub unit-written-nal : (out : List ℕ) → length (unit_of (take taken (rbsp_of nal))) ≤ length out
      → write_pps_nal pps triples tables left out
      ≡ wrote (Ok (length (unit_of (take taken (rbsp_of nal))))) (over (unit_of (take taken (rbsp_of nal))) out)
  unit-written-nal out h = all-written true out h

  -- `parse_pps` reads that unit, over any work buffer and tables that are long enough, as the same record and triples,
  -- with as many bytes taken, and leaves the same lists in the tables
  pub unit-read_again : (work' : List ℕ) (t' : Lent) → length (unit_of (take taken (rbsp_of nal))) ≤ 65535
      → length (unit_of (take taken (rbsp_of nal))) - 2 ≤ length work' → tables_long t' ≡ true
      → parse_pps (unit_of (take taken (rbsp_of nal))) work' t'
      ≡ outcome (accepted_pps pps triples taken) (over (take taken (rbsp_of nal)) work')
      (filled (set_from pps triples tables) t')
  unfolding parse_pps answer_of after_fields
  unit-read_again work' t' h l long' =
      from u.read u.is u.record_is u.triples_are u.taken_is u.tables_are
    where
      from : (a : ReadSet) → read_rbsp (rbsp_of nal) ≡ accepted a → pps ≡ record_read a → triples ≡ triples_read a
          → taken ≡ a.bytes_taken → tables ≡ filled a.set t → parse_pps (unit_of (take taken (rbsp_of nal))) work' t'
          ≡ outcome (accepted_pps pps triples taken) (over (take taken (rbsp_of nal)) work')
          (filled (set_from pps triples tables) t')
      from a e p q n k =
          let same : read_rbsp (take taken (rbsp_of nal)) ≡ accepted a =
          ap (λ (m : ℕ). read_rbsp (take m (rbsp_of nal))) n ∙ taken_again (rbsp_of nal) a e in
          let set : set_from pps triples tables ≡ a.set =
          rw (p, q, k) (set-read-back (rbsp_of nal) a t work (rbsp_bytes nal bytes) e u.long) in
          let before = before-none (take taken (rbsp_of nal)) (length work') h l in
          rw (long', before, unit_rbsp (take taken (rbsp_of nal)), same, set) (rw (p, q, n))
