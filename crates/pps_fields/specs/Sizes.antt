-- Lists of ue(v) below a bound: the sizes of tiles and the heights of split slices (H.266 7.3.2.5).
use Rattle.std.specs.Prelude.{ℕ, ◌<◌, ◌≡◌, refl, List, ltb}
use Rattle.bit_reader.specs.declared.Cursor.{Cursor}
use Rattle.bit_reader.specs.Gives.{Parsed, tested, ue_parsed}
use Rattle.syntax.specs.Elements.{ue, limited}
use Rattle.syntax.specs.Lists.{many}
use Rattle.pps_fields.specs.ListReads.{list_read, list-many}

-- one of them; n is what a number that isn't below the bound is refused with
abbrev pub size_read : ℕ → ℕ → List ℕ → Cursor → Parsed ℕ
size_read bound n = tested (λ v. ltb v bound) n ue_parsed

-- `count` of them
unfoldable pub sizes_read : ℕ → ℕ → ℕ → List ℕ → Cursor → Parsed (List ℕ)
sizes_read count bound n s c = list_read (size_read bound n) count s c

-- a description lists them so, whatever number k its writing refuses another length with
pub sizes-many : (count bound n k : ℕ) (l : 0 < n) (s : List ℕ) (c : Cursor) → sizes_read count bound n s c ≡ (many count (limited ue (λ v. ltb v bound) n l) k).read s c
unfolding sizes_read
sizes-many count bound n k l s c = list-many count (limited ue (λ v. ltb v bound) n l) k s c

pub sizes-is : (count bound n : ℕ) (s : List ℕ) (c : Cursor) → list_read (size_read bound n) count s c ≡ sizes_read count bound n s c
unfolding sizes_read
sizes-is count bound n s c = refl
