-- An entry from its tables.
use Rattle.std.specs.Prelude.{ℕ, ◌≤◌, ◌<◌, ◌^◌, min, ◌≡◌, List, Bool, true, false, cond, Result, length, take, drop}
use Rattle.std.proofs.Common.{subst, ap, arith, length-take}
use Rattle.syntax.specs.Elements.{is_set}
use Rattle.pps_syntax.specs.SliceTables.{SliceTables, row_at, split_present_in, split_count_in, split_count, slice_at}
use Rattle.pps_tables.specs.declared.RectSliceEntry.{RectSliceEntry}
use Rattle.pps_tables.specs.Rows.{entry_of}
use Rattle.pps_tables.proofs.Places.{heights_at}
use Rattle.pps_put_slices.specs.EntryPut.{rect_slice_of, EntryPut}
use Rattle.slice_loop.specs.declared.LoopPosition.{LoopPosition}
use Rattle.refusal.specs.declared.Refusal.{Refusal}
use Rattle.bit_writer.specs.Writing.{Writing}
use Rattle.partition.specs.Entry.{Position}
use Rattle.partition.specs.Grid.{Grid}
use Rattle.pps_syntax.specs.SliceSyntax.{RectSlice}

module _ (t : SliceTables) (i : ℕ) {e : RectSliceEntry} (row : e ≡ entry_of (row_at t i)) where
  -- an entry by its row, with its part of the heights
  pub slice-at : (j from : ℕ) {hs : List ℕ} → from ≡ min (length t.split_heights) j → hs ≡ take (split_count t i) (drop from t.split_heights) → rect_slice_of e hs ≡ slice_at t i j
  unfolding slice_at entry_of
  slice-at j from p q = rw (q, heights_at t.split_heights (split_count t i) j from p, row)

  -- it has no more heights than its row says
  pub heights-few : (l hs : List ℕ) → e.split_count < 2 ^ 32 → hs ≡ take (split_count t i) l → length hs ≤ 4294967295
  unfolding split_count entry_of
  heights-few l hs h q =
      let c : e.split_count ≡ split_count_in (row_at t i) = ap (λ (x : RectSliceEntry). x.split_count) row in
      let few : split_count t i ≤ 4294967295 = cases (is_set (split_present_in (row_at t i))) in
      omega (arith, ap length q, length-take (split_count t i) l)
    where
      cases : (b : Bool) → cond b (split_count_in (row_at t i)) 0 ≤ 4294967295
      cases true = let c : e.split_count ≡ split_count_in (row_at t i) = ap (λ (x : RectSliceEntry). x.split_count) row in omega arith
      cases false = omega arith

pub entry_tabled : {g : Grid} {deltas : Bool} {N : ℕ} {k : Position} {e f : RectSlice} {w v : Writing} {r : Result LoopPosition Refusal} → e ≡ f → EntryPut g deltas N k e w v r → EntryPut g deltas N k f w v r
entry_tabled {g} {deltas} {N} {k} {e} {f} {w} {v} {r} q h = subst (λ (x : RectSlice). EntryPut g deltas N k x w v r) q h
