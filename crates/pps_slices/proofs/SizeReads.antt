-- Lists of ue(v) below a bound: none of them, how many there are at most, and a refusal before them.
use Prim.Native.Nat.{ℕ, zero, suc, ◌≤◌}
use Rattle.std.specs.Prelude.{◌≡◌, refl, List, [], Bool, true, false, cond, eqb, ltb, length}
use Rattle.std.proofs.Common.{sym, ap, ◌∙◌, arith}
use Rattle.bit_reader.specs.declared.Cursor.{Cursor}
use Rattle.bit_reader.specs.Gives.{Parsed, parsed, tested, ue_parsed}
use Rattle.bit_reader.specs.Laws.{ue_stays, ue-is, demanded-refused}
use Rattle.bit_reader.specs.Reading.{ue_read}
use Rattle.pps_fields.specs.ListReads.{list_read, list-none, list-stops}
use Rattle.pps_fields.specs.Sizes.{size_read, sizes_read}

-- a refusal stays
pub ue-stuck : (s : List ℕ) (c : Cursor) → (c.refused ≡ 0 → ⊥) → ue_read s c ≡ record { value = 0; next = c }
ue-stuck s c h = ue-is s c ∙ sym (ue_stays s c 32 h)

tested-stuck : (ok : ℕ → Bool) (n : ℕ) (s : List ℕ) (c : Cursor) → (c.refused ≡ 0 → ⊥) → tested ok n ue_parsed s c ≡ parsed 0 c
tested-stuck ok n s c h = rw (ue-stuck s c h) (ap (parsed 0) (demanded-refused (ok 0) n c h))

module _ (bound n : ℕ) (s : List ℕ) (c : Cursor) where
  pub sizes-none : sizes_read 0 bound n s c ≡ parsed [] c
  unfolding sizes_read
  sizes-none = list-none (size_read bound n) s c

  pub sizes-stuck : (count : ℕ) → (c.refused ≡ 0 → ⊥) → sizes_read count bound n s c ≡ parsed [] c
  unfolding sizes_read
  sizes-stuck zero h = list-none (size_read bound n) s c
  sizes-stuck (suc k) h = list-stops (size_read bound n) k s c c 0 (sym (tested-stuck (λ v. ltb v bound) n s c h)) h

-- no more sizes than are asked for
pub sizes-most : (count bound n : ℕ) (s : List ℕ) (c : Cursor) → length (sizes_read count bound n s c).value ≤ count
unfolding sizes_read list_read
sizes-most count bound n s c = go count c
  where
    step : (t : Bool) (k : ℕ) (x y : Parsed (List ℕ)) → length x.value ≤ k → length y.value ≤ k → length (cond t x y).value ≤ k
    step true k x y p q = p
    step false k x y p q = q

    go : (k : ℕ) (c : Cursor) → length (list_read (size_read bound n) k s c).value ≤ k
    go zero c = omega arith
    go (suc k) c = step (eqb (size_read bound n s c).next.refused 0) (suc k) _ _ (omega (arith, go k (size_read bound n s c).next)) (omega arith)
