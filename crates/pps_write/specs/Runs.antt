-- The runs of writing: one over bytes of its own, which finds the refusal and counts, and for more bytes than those one over the output.
use Rattle.std.specs.Prelude.{ℕ, ◌+◌, ◌*◌, ◌/◌, ◌%◌, ◌^◌, ◌≤◌, ◌<◌, min, ◌≡◌, Bool, cond, ◌&&◌, ◌||◌, leb, length, take, drop, Result, Ok, Err, MatchResult}
use Rattle.std.specs.Result.{IsErrAnd}
use Rattle.std.proofs.Math.Path.{refl, sym, ap}
use Rattle.std.proofs.Common.{ap₂, ◌∙◌, arith, take_at, leb-true, leb-false, le-leb, lt-ltb, le-ltb, ne_eqb}
use Rattle.std.proofs.Math.Bool.{true, false}
use mathlib.Core.List.{List, ◌++◌}
use Rattle.std.proofs.Math.Dec.{eqb}
use Rattle.std.proofs.lemmas.List.Edits.{sets}
use Rattle.std.proofs.lemmas.Bool.{lt-leb}
use Rattle.std.proofs.lemmas.Result.{err_from_is_err_and}
use Rattle.codes.specs.Symbols.{Symbol}
use Rattle.refusal.specs.declared.Refusal.{Refusal}
use Rattle.refusal.specs.declared.Refusal.TheVariants.{TableTooShort, OutputTooShort}
use Rattle.refusal.specs.Numbers.{number}
use Rattle.refusal.specs.Answers.{with_number}
use Rattle.refusal.proofs.Numbers.{number_above0}
use Rattle.nal.specs.Answers.{output_after}
use Rattle.tables.specs.Tables.{over, sets_over}
use Rattle.bit_writer.specs.Answers.{answered, written_answer, written_out, out-kept}
use Rattle.bit_writer.specs.Closing.{Ran, plain_ran, nal_ran}
use Rattle.bit_writer.specs.Writing.{Writing, with_refusal, play, closed}
use Rattle.bit_writer.specs.Stop.{play_on, on_refusal, on_whole}
use Rattle.pps_record.specs.declared.VvcPps.{VvcPps}
use Rattle.pps_record.specs.declared.VvcQpOffsets.{VvcQpOffsets}
use Rattle.pps_syntax.specs.FromRecord.{Lent, set_from, extension_from, tables_long, counts_fit, extension_lent}
use Rattle.pps_syntax.specs.Pps.{Pps}
use Rattle.pps_syntax.specs.Written.{set_symbols, set_refusal, set_rbsp, set_nal}
use Rattle.pps_syntax.specs.WriteAnswers.{WriteOutcome, wrote, lent_right, write_refusal, write_bytes, write_set}
use Rattle.pps_write.specs.Block.{begun, set_of}

-- ---- extension bits in the lent bytes, with no sum that passes 64 bits
pub bits_inside : (first count len : ℕ) → leb (first / 8 + count / 8 + (first % 8 + count % 8 + 7) / 8) len ≡ leb (first + count) (len * 8)
bits_inside first count len = split (leb (first + count) (len * 8)) refl
  where
    split : (t : Bool) → leb (first + count) (len * 8) ≡ t → leb (first / 8 + count / 8 + (first % 8 + count % 8 + 7) / 8) len ≡ t
    split true e = le-leb (first / 8 + count / 8 + (first % 8 + count % 8 + 7) / 8) len (omega (arith, leb-true (first + count) (len * 8) e))
    split false e = lt-leb (first / 8 + count / 8 + (first % 8 + count % 8 + 7) / 8) len (omega (arith, leb-false (first + count) (len * 8) e))

pub extension-inside : (r : VvcPps) (bytes : List ℕ) {b : Bool} → b ≡ leb (r.pps_extension_data_first_bit + r.pps_extension_data_bits) (length bytes * 8)
    → (eqb r.pps_extension_data_bits 0 || b) ≡ extension_lent r bytes
unfolding extension_lent
extension-inside r bytes e = rw e

-- ---- a run
begun_fresh : (nal : Bool) (o : List ℕ) → (begun nal o).sink.refused ≡ 0
unfolding begun
begun_fresh true o = refl
begun_fresh false o = refl

-- where there is none, the bytes are there
whole_ran : (nal : Bool) (s : Pps) (bs o : List ℕ) {w : Writing} → length o ≤ 2 ^ 63 → w ≡ closed (play (begun nal o) (set_symbols s bs)) → Ran w (set_refusal s bs) (cond nal (set_nal s bs) (set_rbsp s bs)) o
unfolding begun
whole_ran true s bs o h e = nal_ran 0x00 0x81 o (set_symbols s bs) h refl e
whole_ran false s bs o h e = plain_ran false o (set_symbols s bs) h refl e

front-is : (xs o : List ℕ) (n : ℕ) → n ≡ length xs → length xs ≤ length o → take n (sets o 0 xs) ≡ xs
unfolding over
front-is xs o n e h = ap (take n) (sets_over o xs h) ∙ take_at xs (drop (length xs) o) n (sym e)

-- what a run leaves that puts all of these bytes over o, and counts them
pub record PutAll (in_set : ℕ) (bytes o v : List ℕ) (n : ℕ) : Type 0 where
  pub accepted : in_set ≡ 0
  pub count : n ≡ min (2 ^ 63) (length bytes)
  pub written : v ≡ sets o 0 bytes

module _ (nal : Bool) (r : VvcPps) (triples : List VvcQpOffsets) (t : Lent) (bytes : List ℕ) where
  -- what the set is refused with, 5 aside
  abbrev pub in_set : ℕ
  in_set = set_refusal (set_from r triples t) (extension_from r bytes)

  abbrev pub all : List ℕ
  all = write_bytes nal r triples t bytes

  -- what writing answers and leaves behind the test of what is lent
  abbrev pub counted : List ℕ → WriteOutcome
  counted out = wrote (written_answer in_set all out) (written_out in_set all out)

  -- a run over the bytes o, which leaves the bytes v
  abbrev pub SetRun : List ℕ → List ℕ → Result ℕ Refusal → Type 0
  SetRun o v res = MatchResult res (PutAll in_set all o v) (λ e. number e ≡ in_set)

  abbrev symbols : List Symbol
  symbols = set_of r triples t bytes

  pub run-refused : (o v : List ℕ) (res : Result ℕ Refusal) (e : Refusal) (x : Writing) → IsErrAnd res (λ y. y ≡ e) → with_refusal x (number e) ≡ play_on (begun nal o) symbols → SetRun o v res
  run-refused o v res e x i h =
      let p = err_from_is_err_and res i in
      rw (p.1, p.2) (ap (λ (w : Writing). w.sink.refused) h ∙ on_refusal (begun nal o) symbols (begun_fresh nal o))

  pub run-done : (o : List ℕ) {x y : Writing} → length o ≤ 2 ^ 63 → x.sink.refused ≡ 0 → x ≡ play_on (begun nal o) symbols → y ≡ closed x → PutAll in_set all o y.out y.sink.put
  unfolding write_bytes
  run-done o l z e q =
      let none : in_set ≡ 0 = sym (on_refusal (begun nal o) symbols (begun_fresh nal o)) ∙ sym (ap (λ (w : Writing). w.sink.refused) e) ∙ z in
      let ran = whole_ran nal (set_from r triples t) (extension_from r bytes) o l (q ∙ ap closed (e ∙ on_whole (begun nal o) symbols (begun_fresh nal o) none)) in
      record { accepted = none; count = ran.count; written = ran.written }

  -- ---- what becomes of the output
  module _ (out : List ℕ) where
    pub counted-refused : (e : Refusal) → number e ≡ in_set → wrote (with_number (Err e)) out ≡ counted out
    unfolding with_number written_answer answered
    counted-refused e q =
        let n : eqb in_set 0 ≡ false = ne_eqb in_set 0 (λ z. absurd (let h = number_above0 e in omega arith)) in
        let a : Err (number e) ≡ written_answer in_set all out = rw n (ap (λ (k : ℕ). Err k) q) in
        ap₂ wrote a (out-kept in_set (number e) all out (sym a))

    done : (n : ℕ) {left : List ℕ} → in_set ≡ 0 → n ≡ length all → length all ≤ length out → left ≡ over all out → wrote (with_number (Ok n)) left ≡ counted out
    unfolding with_number written_answer answered written_out output_after
    done n z e l f =
        let a : Ok n ≡ written_answer in_set all out = rw (z, le-ltb (length out) (length all) l) (ap (λ (k : ℕ). Ok k) e) in
        ap₂ wrote a (rw (← a) f)

    module _ {o v : List ℕ} {n : ℕ} (p : PutAll in_set all o v n) where
      pub counted-short : length out < n → wrote (with_number (Err OutputTooShort)) out ≡ counted out
      unfolding with_number number written_answer answered
      counted-short h =
          let l : length out < length all = omega (arith, p.count) in
          let a : Err 29 ≡ written_answer in_set all out = rw (p.accepted, lt-ltb (length out) (length all) l) in
          ap₂ wrote a (out-kept in_set 29 all out (sym a))

      module _ (small : length out < 2 ^ 63) (room : n ≤ length out) where
        exact : n ≡ length all
        exact = omega (arith, p.count)

        -- the first n of its bytes, copied
        pub counted-copied : {left : List ℕ} → n ≤ length o → left ≡ take n v ++ drop (length (take n v)) out → wrote (with_number (Ok n)) left ≡ counted out
        unfolding over
        counted-copied h f =
            let front : take n v ≡ all = ap (take n) p.written ∙ front-is all o n exact (omega (arith, exact)) in
            done n p.accepted exact (omega (arith, exact)) (f ∙ ap (λ (l : List ℕ). l ++ drop (length l) out) front)

        -- all of them, put again
        pub counted-again : (res : Result ℕ Refusal) {left : List ℕ} → SetRun out left res → wrote (with_number res) left ≡ counted out
        counted-again (Ok m) q = done m p.accepted (omega (arith, exact, q.count)) (omega (arith, exact)) (q.written ∙ sets_over out all (omega (arith, exact)))
        counted-again (Err e) q = absurd (let h = number_above0 e in omega (arith, p.accepted, q))

  -- ---- behind the test of what is lent
  module _ (out : List ℕ) {a b : Bool} (fit : a ≡ (tables_long t && counts_fit r t)) (inside : b ≡ extension_lent r bytes) where
    pub lent_wrong : (a && b) ≡ false → wrote (with_number (Err TableTooShort)) out ≡ write_set nal r triples t bytes out
    unfolding write_set write_refusal with_number number written_answer answered
    lent_wrong e =
        let k : lent_right r t bytes ≡ false = sym (ap₂ (λ (x y : Bool). x && y) fit inside) ∙ e in
        let five : Err 5 ≡ written_answer 5 all out = refl in
        rw k (ap₂ wrote five (out-kept 5 5 all out (sym five)))

    pub lent_well : {done : WriteOutcome} → (a && b) ≡ true → done ≡ counted out → done ≡ write_set nal r triples t bytes out
    unfolding write_set write_refusal
    lent_well e h =
        let k : lent_right r t bytes ≡ true = sym (ap₂ (λ (x y : Bool). x && y) fit inside) ∙ e in
        rw k h
