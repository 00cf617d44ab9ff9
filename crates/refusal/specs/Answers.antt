-- An answer with its refusal by the number.
use Rattle.std.specs.Prelude.{ℕ, Result, Ok, Err, ◌≡◌, refl}
use Rattle.std.specs.Result.{result_map_both}
use Rattle.refusal.specs.declared.Refusal.{Refusal}
use Rattle.refusal.specs.Numbers.{number, refused}

unfoldable pub with_number : {A : Type 0} → Result A Refusal → Result A ℕ
with_number r = result_map_both (λ x. x) number r

-- The number of an answer that has its refusal by the number, 0 where there is none.
unfoldable pub refused_in : {A : Type 0} → Result A ℕ → ℕ
refused_in (Ok _) = 0
refused_in (Err n) = n

pub refused-with : {A : Type 0} (r : Result A Refusal) → refused_in (with_number r) ≡ refused r
unfolding refused_in with_number refused
refused-with (Ok _) = refl
refused-with (Err e) = refl
