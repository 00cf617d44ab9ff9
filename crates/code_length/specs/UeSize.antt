-- The size question: the bits of the ue(v) code of a value, but for 4294967295, which has none.
use Rattle.std.specs.Prelude.{ℕ, ◌<◌, ◌≡◌, cond, eqb, Result, Ok, Err}
use Rattle.std.proofs.Common.{ap, arith, eq-eqb, ne_eqb}
use Rattle.codes.specs.ExpGolomb.{ue_length}
use Rattle.refusal.specs.declared.Refusal.{Refusal}
use Rattle.refusal.specs.declared.Refusal.TheVariants.{NoCode}

unfoldable pub ue_size_of : ℕ → Result ℕ Refusal
ue_size_of v = cond (eqb v 4294967295) (Err NoCode) (Ok (ue_length v))

pub size-coded : (v n : ℕ) → v < 4294967295 → n ≡ ue_length v → Ok n ≡ ue_size_of v
unfolding ue_size_of
size-coded v n h e = rw (ne_eqb v 4294967295 (λ q. absurd (omega arith))) (ap Ok e)

pub size_none : (v : ℕ) → v ≡ 4294967295 → Err NoCode ≡ ue_size_of v
unfolding ue_size_of
size_none v e = rw (eq-eqb v 4294967295 e)
