-- A set that is read into cleared tables: its lists, then zeros.
use Rattle.std.specs.Prelude.{ℕ, ◌≤◌, ◌≡◌, refl, List, [], ◌∷◌, Bool, true, false, leb, length, Ok, Err}
use Rattle.std.proofs.Math.Path.{ap}
use Rattle.std.proofs.Common.{◌∙◌, arith, leb-true}
use Rattle.tables.specs.Tables.{blank-length, sets_over}
use Rattle.partition.specs.Grid.{max_tile_columns, max_tiles}
use Rattle.pps_syntax.specs.FromRecord.{Lent, lengths_fit, tables_long}
use Rattle.pps_syntax.specs.ListsFit.{ListsFit}
use Rattle.pps_syntax.proofs.ListsFit.{read_lists_fit}
use Rattle.pps_syntax.specs.PartitionSyntax.{PartitionBlock}
use Rattle.pps_syntax.specs.Pps.{Pps, partitioned}
use Rattle.pps_syntax.specs.Rbsp.{ReadSet, ReadAnswer, accepted, refused, read_rbsp}
use Rattle.pps_syntax.proofs.ReadAccepted.{read-partition-accepted, read-unpartitioned}
use Rattle.pps_syntax.specs.SubpicIds.{max_subpics}
use Rattle.syntax.specs.Round.{and_parts}
use Rattle.refusal.specs.declared.Refusal.{Refusal}
use Rattle.refusal.specs.Numbers.{number}
use Rattle.pps_answer.specs.declared.AcceptedPps.{AcceptedPps}
use Rattle.pps_answer.specs.Answers.{Accepted, Refused, said, answer_of}
use Rattle.pps_tables.specs.Cleared.{zeros, cleared_slices, cleared}
use Rattle.pps_answer.specs.Lending.{columns_of, rows_of, filled, put_lists, after_fields}

record Lengths (ids columns rows : ℕ) : Type 0 where
  pub ids_long : max_subpics ≤ ids
  pub columns_long : max_tile_columns ≤ columns
  pub rows_long : max_tiles ≤ rows

lengths : (a b c d e : ℕ) → lengths_fit a b c d e ≡ true → Lengths a b c
unfolding lengths_fit
lengths a b c d e z =
    let p = and_parts (leb max_subpics a) _ z in
    let q = and_parts (leb max_tile_columns b) _ p.1 in
    let r = and_parts (leb max_tiles c) _ q.1 in
    record {
      ids_long = leb-true max_subpics a p.0;
      columns_long = leb-true max_tile_columns b q.0;
      rows_long = leb-true max_tiles c r.0;
    }

-- ---- tables of the same lengths
pub record SameLengths (t u : Lent) : Type 0 where
  pub ids : length t.subpic_ids ≡ length u.subpic_ids
  pub columns : length t.column_widths ≡ length u.column_widths
  pub rows : length t.row_heights ≡ length u.row_heights
  pub entries : length t.slices.entries ≡ length u.slices.entries
  pub split_heights : length t.slices.split_heights ≡ length u.slices.split_heights

cleared-same : (t u : Lent) → SameLengths t u → cleared t ≡ cleared u
unfolding cleared cleared_slices
cleared-same t u s = rw (s.ids, s.columns, s.rows, s.entries, s.split_heights)

-- ---- lists that fit are laid over the front
columns-few : (r : Pps) → ListsFit r → (p : List PartitionBlock) → r.partition ≡ p → length p ≤ 1 → (length (columns_of p) ≤ max_tile_columns) × (length (rows_of p) ≤ max_tiles)
columns-few r f [] e l = (omega arith, omega arith)
columns-few r f (b ∷ []) e l = let z = f.blocks b e in (z.column-widths, z.row-heights)
columns-few r f (b ∷ x ∷ p) e l = absurd (omega arith)

blocks-few : (rbsp : List ℕ) (a : ReadSet) → read_rbsp rbsp ≡ accepted a → length a.set.partition ≤ 1
blocks-few rbsp a e = split (partitioned a.set.front.kind) refl
  where
    split : (b : Bool) → partitioned a.set.front.kind ≡ b → length a.set.partition ≤ 1
    split true q = omega (arith, ap length (read-partition-accepted rbsp a e q).is)
    split false q = omega (arith, ap length ((read-unpartitioned rbsp a e).1 q))

filled_is : (rbsp : List ℕ) (a : ReadSet) (t : Lent) → read_rbsp rbsp ≡ accepted a → tables_long t ≡ true → put_lists a.set (cleared t) ≡ filled a.set t
unfolding put_lists filled cleared
filled_is rbsp a t e z =
    let r : Pps = a.set in
    let f = read_lists_fit rbsp a e in
    let l = lengths _ _ _ _ _ z in
    let few = columns-few r f r.partition refl (blocks-few rbsp a e) in
    let ids = sets_over (zeros t.subpic_ids) r.front.subpic_ids.pps_subpic_id (omega (arith, blank-length {A = ℕ} (length t.subpic_ids) 0, f.subpic_ids_lem, l.ids_long)) in
    let columns = sets_over (zeros t.column_widths) (columns_of r.partition) (omega (arith, blank-length {A = ℕ} (length t.column_widths) 0, few.0, l.columns_long)) in
    let rows = sets_over (zeros t.row_heights) (rows_of r.partition) (omega (arith, blank-length {A = ℕ} (length t.row_heights) 0, few.1, l.rows_long)) in
    rw (ids, columns, rows)

-- ---- reading: cleared, read, and cleared again where it was refused
pub lists-kept : (s : List ℕ) (t₀ t₁ t₂ : Lent) (r : AcceptedPps) → t₁ ≡ cleared t₀ → said (Ok r) ≡ answer_of (read_rbsp s) → ((a : ReadSet) → read_rbsp s ≡ accepted a → t₂ ≡ put_lists a.set t₁)
    → tables_long t₀ ≡ true → t₂ ≡ after_fields (read_rbsp s) t₀
unfolding said answer_of after_fields
lists-kept s t₀ t₁ t₂ r c e f long = cases (read_rbsp s) refl
  where
    cases : (q : ReadAnswer) → read_rbsp s ≡ q → t₂ ≡ after_fields (read_rbsp s) t₀
    cases (accepted a) p = rw p (f a p ∙ ap (put_lists a.set) c ∙ filled_is s a t₀ p long)
    cases (refused n) p = let z : Accepted r ≡ Refused n = e ∙ ap answer_of p in absurd (let w : ◌≡◌ {A = ℕ} 0 1 = cc in omega arith)

pub lists-dropped : (s : List ℕ) (t₀ t₂ : Lent) (e : Refusal) {t₃ : Lent} → said (Err e) ≡ answer_of (read_rbsp s) → t₃ ≡ cleared t₂ → SameLengths t₂ t₀ → t₃ ≡ after_fields (read_rbsp s) t₀
unfolding said answer_of after_fields
lists-dropped s t₀ t₂ e {t₃} h c same = cases (read_rbsp s) refl
  where
    cases : (q : ReadAnswer) → read_rbsp s ≡ q → t₃ ≡ after_fields (read_rbsp s) t₀
    cases (accepted a) p = let z : Refused (number e) ≡ answer_of (accepted a) = h ∙ ap answer_of p in absurd (let w : ◌≡◌ {A = ℕ} 0 1 = cc in omega arith)
    cases (refused m) p = rw p (c ∙ cleared-same t₂ t₀ same)
