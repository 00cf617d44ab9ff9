-- Behind a refusal nothing is read.
use Rattle.std.specs.Prelude.{ℕ, ◌≡◌, List}
use Rattle.std.proofs.Common.{sym, ap, ◌∙◌}
use Rattle.bit_reader.specs.declared.Cursor.{Cursor}
use Rattle.bit_reader.specs.declared.BitsRead.{BitsRead}
use Rattle.bit_reader.specs.Reading.{u_read, ue_read, se_read}
use Rattle.bit_reader.specs.Laws.{u_stays, ue_stays, ue-is}

module _ (s : List ℕ) (c : Cursor) where
  pub u_stuck : (n : ℕ) → (c.refused ≡ 0 → ⊥) → (u_read s c n).next ≡ c
  u_stuck n h = sym (ap (λ (r : BitsRead). r.next) (u_stays s c n h))

  pub ue_stuck : (c.refused ≡ 0 → ⊥) → (ue_read s c).next ≡ c
  ue_stuck h = sym (ap (λ (r : BitsRead). r.next) (ue_stays s c 32 h ∙ sym (ue-is s c)))

  pub se_stuck : (c.refused ≡ 0 → ⊥) → (se_read s c).next ≡ c
  unfolding se_read
  se_stuck h = ue_stuck h
