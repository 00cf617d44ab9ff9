-- What is lent after reading passes the tests of writing: no table is too short, every count fits, and the extension bits lie in the work buffer.
use Rattle.std.specs.Prelude.{ℕ, zero, suc, ◌+◌, ◌*◌, ◌/◌, ◌%◌, ◌^◌, ◌-◌, ◌≤◌, ◌<◌, ◌≡◌, List, [], ◌∷◌, ◌++◌, map, Bool, not, ◌||◌, eqb, leb, get_or}
use Rattle.std.proofs.Math.Path.{refl}
use Rattle.std.proofs.Common.{sym, ap, ◌∙◌, arith, le-leb, eqb-true}
use Rattle.std.proofs.Math.Bool.{true, false}
use Rattle.std.proofs.Math.ListN.{length, drop, length-append, get_or-append}
use Rattle.std.proofs.lemmas.List.Edits.{sets}
use Rattle.std.proofs.Math.Seq.{length-sets}
use Rattle.codes.specs.Bytes.{bit_count, bit_at, bit_in, bit_list}
use Rattle.codes.specs.Symbols.{refusal_in}
use Rattle.partition.specs.Grid.{max_tile_columns, max_tiles, max_slices_minus1, max_slices}
use Rattle.pps_tables.specs.Cleared.{zeros, cleared_slices, cleared}
use Rattle.pps_answer.specs.Lending.{columns_of, rows_of, slices_of, filled}
use Rattle.pps_tables.specs.Rows.{no_entry}
use Rattle.pps_round.specs.SetBack.{Long, room_of, entries-counted}
use Rattle.pps_round.specs.SlicesBack.{AllCounted, put_entries, total-back}
use Rattle.pps_syntax.specs.FromRecord.{Lent, lengths_fit, tables_long, counts_fit, extension_from, extension_lent}
use Rattle.pps_syntax.specs.ListsFit.{BlockFits, ListsFit}
use Rattle.pps_syntax.specs.PartitionSyntax.{PartitionBlock, partition, partition_element}
use Rattle.pps_syntax.specs.Pps.{Pps, pps, partitioned, pic_width, pic_height}
use Rattle.pps_syntax.specs.Rbsp.{ReadSet}
use Rattle.pps_syntax.specs.ReadWhole.{ReadWhole, fields_read}
use Rattle.pps_syntax.specs.Record.{partition_record, record_of}
use Rattle.pps_syntax.specs.SliceTables.{row_of, put_slices, split_total, all_split_heights}
use Rattle.pps_syntax.specs.SubpicIds.{max_subpics}
use Rattle.pps_syntax.specs.WrittenBack.{extension_read}
use Rattle.syntax.specs.Elements.{or_else, is_set}
use Rattle.syntax.specs.Facts.{Facts, facts}
use Rattle.syntax.specs.Lists.{many, none, not-true}
use Rattle.syntax.specs.Round.{and_parts, refusal_parts}
use Rattle.syntax.specs.Syntax.{◌>>=◌, symbols_for, refusal_for, canonical_for}
use Rattle.tables.specs.Tables.{blank, over, over-length, blank-length}

-- ---- the lists of the partition, where there is one
pub record Few (ps : List PartitionBlock) : Type 0 where
  pub columns : length (columns_of ps) ≤ max_tile_columns
  pub rows : length (rows_of ps) ≤ max_tiles
  pub entries : length (slices_of ps) ≤ max_slices_minus1
  pub split-heights : length (all_split_heights (slices_of ps)) ≤ max_slices
  pub counted : AllCounted (slices_of ps)

few : (parted : Bool) (W H : ℕ) (ps : List PartitionBlock) → refusal_in ((or_else parted (many 1 (partition_element W H) 26) (none 0)).symbols ps) ≡ 0
    → (or_else parted (many 1 (partition_element W H) 26) (none 0)).canonical ps ≡ true → ((b : PartitionBlock) → ps ≡ b ∷ [] → BlockFits b) → Few ps
unfolding or_else many all_split_heights AllCounted
few parted W H [] h c fits = record { columns = omega arith; rows = omega arith; entries = omega arith; split-heights = omega arith; counted = tt }
few true W H (b ∷ []) h c fits =
    let f = fits b refl in
    record {
      columns = f.column-widths;
      rows = f.row-heights;
      entries = f.entries;
      split-heights = f.split-heights;
      counted = entries-counted W H b (refusal_parts (symbols_for (partition W H) b) [] h).0 (and_parts (canonical_for (partition W H) b) true c).0;
    }
few true W H (b ∷ d ∷ ps) h c fits = absurd (not-true (and_parts (canonical_for (partition W H) b) false c).1)
few false W H (b ∷ ps) h c fits = absurd (not-true c)

pub set-few : (r : Pps) → refusal_for pps r ≡ 0 → canonical_for pps r ≡ true → ListsFit r → Few r.partition
unfolding pps Facts ◌>>=◌
set-few r h c l = let f = facts pps r h c in few (partitioned r.front.kind) (pic_width r.front) (pic_height r.front) r.partition f.1.1.0.0 f.1.1.0.1 l.blocks

-- ---- the lengths stay
laid-long : (n : ℕ) (xs t : List ℕ) → length xs ≤ n → n ≤ length t → leb n (length (over xs (zeros t))) ≡ true
laid-long n xs t h l =
    let k : length (zeros t) ≡ length t = blank-length (length t) 0 in
    le-leb n (length (over xs (zeros t))) (omega (arith, over-length xs (zeros t) (omega arith)))

put-long : {A : Type 0} (n : ℕ) (xs t : List A) (v : A) → n ≤ length t → leb n (length (sets (blank (length t) v) 0 xs)) ≡ true
put-long n xs t v l = le-leb n _ (omega (arith, length-sets (blank (length t) v) 0 xs, blank-length (length t) v))

pub filled-long : (r : Pps) (t : Lent) → Long t → length r.front.subpic_ids.pps_subpic_id ≤ max_subpics → Few r.partition → tables_long (filled r t) ≡ true
unfolding lengths_fit filled cleared cleared_slices put_slices
filled-long r t l i f =
    rw (
      laid-long max_subpics r.front.subpic_ids.pps_subpic_id t.subpic_ids i l.subpic_ids,
      laid-long max_tile_columns (columns_of r.partition) t.column_widths f.columns l.column_widths,
      laid-long max_tiles (rows_of r.partition) t.row_heights f.rows l.row_heights,
      put-long max_slices_minus1 (map row_of (slices_of r.partition)) t.slices.entries no_entry l.entries,
      put-long max_slices (all_split_heights (slices_of r.partition)) t.slices.split_heights 0 l.split_heights,
    )

-- ---- the counts
columns_of_lem : (present : ℕ) (ps : List PartitionBlock) → (partition_record present ps).num_tile_column_widths ≡ length (columns_of ps)
unfolding partition_record
columns_of_lem present [] = refl
columns_of_lem present (b ∷ ps) = refl

rows-of : (present : ℕ) (ps : List PartitionBlock) → (partition_record present ps).num_tile_row_heights ≡ length (rows_of ps)
unfolding partition_record
rows-of present [] = refl
rows-of present (b ∷ ps) = refl

slices-of : (present : ℕ) (ps : List PartitionBlock) → (partition_record present ps).num_rect_slices ≡ length (slices_of ps)
unfolding partition_record
slices-of present [] = refl
slices-of present (b ∷ ps) = refl

or-true : (b : Bool) → (not b || true) ≡ true
or-true true = refl
or-true false = refl

pub filled-fit : (r : Pps) (t : Lent) (first bits : ℕ) → Long t → length r.front.subpic_ids.pps_subpic_id ≤ max_subpics → Few r.partition → counts_fit (record_of r first bits) (filled r t) ≡ true
unfolding counts_fit record_of filled cleared
filled-fit r t first bits l i f =
    let ps = r.partition in
    let rs = slices_of ps in
    let m = room_of t rs l f.entries f.split-heights in
    let total : split_total (put_slices (cleared_slices t.slices) 0 0 rs) 0 (length rs) ≡ length (all_split_heights rs) =
    total-back (put_slices (cleared_slices t.slices) 0 0 rs) _ _ rs 0 0 (put_entries (cleared_slices t.slices) rs m) f.counted in
    rw (
      le-leb (length r.front.subpic_ids.pps_subpic_id) max_subpics i,
      or-true (is_set r.front.subpic_ids.present),
      columns_of_lem r.partition_present ps,
      rows-of r.partition_present ps,
      slices-of r.partition_present ps,
      total,
      le-leb (length (columns_of ps)) max_tile_columns f.columns,
      le-leb (length (rows_of ps)) max_tiles f.rows,
      le-leb (length rs) max_slices_minus1 f.entries,
      le-leb (length (all_split_heights rs)) max_slices f.split-heights,
    )
    (or-true (is_set (partition_record r.partition_present ps).present))

-- ---- the extension bits
pub bit-front : (xs ys : List ℕ) (k : ℕ) → k < bit_count xs → bit_at (xs ++ ys) k ≡ bit_at xs k
bit-front xs ys k h =
    let l = length-append xs ys in
    let g : get_or (xs ++ ys) (k / 8) 0 ≡ get_or xs (k / 8) 0 = get_or-append xs ys 0 (k / 8) (omega arith) in
    bit_in (xs ++ ys) k (omega (arith, l)) ∙ ap (λ (v : ℕ). v / 2 ^ (7 - k % 8) % 2) g ∙ sym (bit_in xs k h)

pub bits-front : (xs ys : List ℕ) (n at : ℕ) → at + n ≤ bit_count xs → bit_list (xs ++ ys) at n ≡ bit_list xs at n
unfolding bit_list
bits-front xs ys zero at h = refl
bits-front xs ys (suc n) at h = rw (bit-front xs ys at (omega arith), bits-front xs ys n (at + 1) (omega arith))

pub extension-ends : (rbsp : List ℕ) (a : ReadSet) → ReadWhole rbsp a → a.extension_first_bit + a.extension_count ≤ bit_count rbsp
extension-ends rbsp a w = split (eqb a.extension_count 0) refl
  where
    split : (b : Bool) → eqb a.extension_count 0 ≡ b → a.extension_first_bit + a.extension_count ≤ bit_count rbsp
    split true e =
        let z = eqb-true a.extension_count 0 e in
        let f : a.extension_first_bit ≡ 0 = w.extension-first ∙ rw e in
        omega arith
    split false e =
        let f : a.extension_first_bit ≡ (fields_read rbsp).next.at = w.extension-first ∙ rw e in
        omega (arith, w.trailing.reaches, w.trailing.inside)

module _ (rbsp work : List ℕ) (a : ReadSet) (w : ReadWhole rbsp a) where
  pub extension-lent : extension_lent (record_of a.set a.extension_first_bit a.extension_count) (over rbsp work) ≡ true
  unfolding extension_lent record_of over
  extension-lent =
      let n = length (rbsp ++ drop (length rbsp) work) in
      let l = length-append rbsp (drop (length rbsp) work) in
      rw (le-leb (a.extension_first_bit + a.extension_count) (n * 8) (omega (arith, extension-ends rbsp a w))) (or_true' (eqb a.extension_count 0))
    where
      or_true' : (b : Bool) → (b || true) ≡ true
      or_true' true = refl
      or_true' false = refl

  pub extension-back : extension_from (record_of a.set a.extension_first_bit a.extension_count) (over rbsp work) ≡ extension_read rbsp a
  unfolding extension_from record_of over
  extension-back = bits-front rbsp (drop (length rbsp) work) a.extension_count a.extension_first_bit (extension-ends rbsp a w)
