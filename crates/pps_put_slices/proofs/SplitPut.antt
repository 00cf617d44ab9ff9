-- The explicit slice heights and the last slice, part by part.
use Rattle.std.specs.Prelude.{ℕ, ◌+◌, ◌-◌, ◌≤◌, ◌≡◌, refl, List, [], ◌∷◌, ◌++◌, Bool, true, false, not, ltb, leb, length, Result, Ok, Err}
use Rattle.std.proofs.Common.{sym, ap, ◌∙◌, arith, lit<, ltb-false}
use Rattle.std.specs.Bool.{beq}
use Rattle.codes.specs.Coded.{only_if}
use Rattle.codes.specs.Symbols.{Symbol, check}
use Rattle.refusal.specs.declared.Refusal.{Refusal}
use Rattle.refusal.specs.Numbers.{number, refused}
use Rattle.bit_writer.specs.Writing.{Writing, with_refusal}
use Rattle.bit_writer.specs.Stop.{play_on, on_then}
use Rattle.partition.specs.Entry.{num_slices_in_tile, split_heights}
use Rattle.partition.specs.Sizes.{sum, explicit_sizes}
use Rattle.partition.specs.Checks.{not_past}
use Rattle.partition.proofs.Sizes.{some_size}
use Rattle.tile_sizes.specs.Answers.{slices_in_tile}
use Rattle.tile_sizes.specs.Laws.{slices-number, slices-count}
use Rattle.syntax.specs.Elements.{is_set}
use Rattle.syntax.specs.StopSteps.{only-on}
use Rattle.pps_put_slices.specs.Sizes.{size_symbols, sizes_symbols}
use Rattle.pps_put_slices.specs.Parts.{heights_symbols, split_symbols, slices_in, last_in}
use Rattle.pps_put_slices.proofs.Answered.{renamed, answered_refused, answered_fine, fine_put}

-- ---- the slices of a tile
pub some-slice : (hs : List ℕ) (row : ℕ) → 1 ≤ num_slices_in_tile hs row
unfolding num_slices_in_tile split_heights
some-slice [] row = omega arith
some-slice (h ∷ hs) row = some_size (h ∷ hs) row (λ z. omega arith)

module _ (hs : List ℕ) (row : ℕ) where
  pub slices-refused : (w : Writing) (e : Refusal) → w.sink.refused ≡ 0 → Err e ≡ slices_in_tile hs row → with_refusal w (number e) ≡ play_on w (check (leb (sum (explicit_sizes hs)) row) 16)
  unfolding refused
  slices-refused w e z q =
      renamed w 16 (not_past row (sum (explicit_sizes hs))) (answered_refused w e (ltb row (sum (explicit_sizes hs))) 16 z (ap (λ (r : Result ℕ Refusal). refused r) q ∙ slices-number hs row))

  fine : (n : ℕ) → Ok n ≡ slices_in_tile hs row → ltb row (sum (explicit_sizes hs)) ≡ false
  unfolding refused
  fine n q = answered_fine _ 16 (lit< tt) (ap (λ (r : Result ℕ Refusal). refused r) q ∙ slices-number hs row)

  pub slices-fit : (w : Writing) (n : ℕ) → Ok n ≡ slices_in_tile hs row → w ≡ play_on w (check (leb (sum (explicit_sizes hs)) row) 16)
  slices-fit w n q = renamed w 16 (not_past row (sum (explicit_sizes hs))) (fine_put w _ 16 (fine n q))

  pub slices-counted : (n : ℕ) → Ok n ≡ slices_in_tile hs row → n ≡ num_slices_in_tile hs row
  slices-counted n q = let e = slices-count hs row (fine n q) in cc

  -- their heights, size by size
  pub heights-put : (w : Writing) {a b v : Writing} → a ≡ play_on w (size_symbols row 16 (length hs)) → b ≡ play_on a (sizes_symbols row 16 hs) → v ≡ play_on b (check (leb (sum (explicit_sizes hs)) row) 16)
      → v ≡ play_on w (heights_symbols row hs)
  unfolding heights_symbols
  heights-put w {a} p q r = on_then w _ _ p (on_then a _ _ q r)

  pub heights-sized : (w : Writing) {a v : Writing} → a ≡ play_on w (size_symbols row 16 (length hs)) → v ≡ play_on a (sizes_symbols row 16 hs ++ check (leb (sum (explicit_sizes hs)) row) 16)
      → v ≡ play_on w (heights_symbols row hs)
  unfolding heights_symbols
  heights-sized w p q = on_then w _ _ p q

module _ (split : Bool) (row N i present : ℕ) (hs : List ℕ) where
  abbrev counted : List Symbol
  counted = check (leb (last_in i split row hs) N) 17

  -- how many slices there are
  pub counted-on : (n : ℕ) {count : ℕ} → split ≡ true → count ≡ n → Ok n ≡ slices_in_tile hs row → count ≡ slices_in split row hs
  counted-on n s e q = rw s (e ∙ slices-counted hs row n q)

  pub counted_off : {count : ℕ} → split ≡ false → count ≡ 1 → count ≡ slices_in split row hs
  counted_off s e = rw s e

  pub some-counted : {count : ℕ} → count ≡ slices_in split row hs → 1 ≤ count
  some-counted e = let l = cases split in omega (arith, e)
    where
      cases : (b : Bool) → 1 ≤ slices_in b row hs
      cases true = some-slice hs row
      cases false = omega arith

  pub flag-tested : (w : Writing) {a v : Writing} → a ≡ play_on w (check (beq (is_set present) split) 26) → v ≡ play_on a (only_if split (heights_symbols row hs) ++ counted)
      → v ≡ play_on w (split_symbols split row N i present hs)
  unfolding split_symbols
  flag-tested w p q = on_then w _ _ p q

  -- where the heights are refused
  pub heights-then : (w : Writing) {a v : Writing} → split ≡ true → a ≡ play_on w (heights_symbols row hs) → v ≡ play_on a counted → v ≡ play_on w (only_if split (heights_symbols row hs) ++ counted)
  heights-then w s p q = on_then w _ _ (only-on w split _ s p) q

-- ---- the last slice
module _ (N i count last : ℕ) {past : Bool} (past_is : past ≡ ltb N (i + count - 1)) (count_is : i + count - 1 ≡ last) where
  pub last-tested : (w : Writing) {v : Writing} → v ≡ play_on w (check (not past) 17) → v ≡ play_on w (check (leb last N) 17)
  last-tested w p = renamed w 17 (ap not past_is ∙ not_past N (i + count - 1) ∙ ap (λ (n : ℕ). leb n N) count_is) p

  pub last-small : not past ≡ true → last ≤ N
  last-small q = let l : i + count - 1 ≤ N = ltb-false N (i + count - 1) (sym past_is ∙ off past q) in omega arith
    where
      off : (b : Bool) → not b ≡ true → b ≡ false
      off true e = sym e
      off false e = refl
