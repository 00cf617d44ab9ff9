-- The subpicture id mapping (H.266 7.3.2.5, 7.4.3.5).
use Rattle.std.specs.Prelude.{ℕ, suc, min, List, Bool, cond, ◌&&◌, leb}
use Rattle.std.proofs.Math.Path.{refl}
use Rattle.std.proofs.Common.{lit<}
use Rattle.partition.specs.Grid.{max_slices_minus1, max_slices}
use Rattle.syntax.specs.Element.{Element}
use Rattle.syntax.specs.Elements.{u, flag, ue, limited, sameℕ, or_else, is_set}
use Rattle.syntax.proofs.Elements.{absent}
use Rattle.syntax.specs.Lists.{many, none}
use Rattle.syntax.proofs.Round.{structure}
use Rattle.syntax.specs.Syntax.{Syntax, done, ◌for◌, ◌>>=◌, ◌&◌, rebuilt, Faithful, Whole}

pub record SubpicIds : Type 0 where
  pub present : ℕ
  pub pps_num_subpics_minus1 : ℕ
  pub pps_subpic_id_len_minus1 : ℕ
  pub pps_subpic_id : List ℕ

-- the most subpictures that a set can map, and so the length of the table of their ids: the limit of slices, as in the Rust
abbrev pub max_subpics_minus1 : ℕ
max_subpics_minus1 = max_slices_minus1

abbrev pub max_subpics : ℕ
max_subpics = max_slices

-- The count is coded in a partitioned picture, else 0 is inferred and writing any other is refused with 26. Writing refuses another number of ids, or an id too
-- large for its length, with 27. A length minus 1 over 15 is refused with 8; an id behind that refusal is taken as 16 bits long
module _ (partitioned : Bool) where
  unfoldable pub subpic_ids : Syntax SubpicIds
  subpic_ids = do
    present ← flag for (λ r. r.present)
    let on = is_set present
    num ← or_else (on && partitioned) (limited ue (λ v. leb v max_subpics_minus1) 8 (lit< tt)) (absent sameℕ 0 (cond on 26 0)) for (λ r. r.pps_num_subpics_minus1)
    len ← or_else on (limited ue (λ v. leb v 15) 8 (lit< tt)) (absent sameℕ 0 0) for (λ r. r.pps_subpic_id_len_minus1)
    ids ← or_else on (many (suc num) (u (suc (min len 15)) 27) 27) (none 0) for (λ r. r.pps_subpic_id)
    done (record { present = present; pps_num_subpics_minus1 = num; pps_subpic_id_len_minus1 = len; pps_subpic_id = ids })

  pub subpic_ids_faithful : Faithful subpic_ids (λ _. Unit {0})
  unfolding subpic_ids Faithful ◌>>=◌
  subpic_ids_faithful = λ a _ b _ c _ d _. tt & refl & refl & refl & refl

  pub subpic_ids-whole : Whole subpic_ids
  unfolding subpic_ids rebuilt ◌>>=◌
  subpic_ids-whole r = refl

  abbrev pub subpic_ids_element : Element SubpicIds
  subpic_ids_element = structure subpic_ids subpic_ids_faithful subpic_ids-whole
