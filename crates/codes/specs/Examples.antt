-- The codes of H.266 table 9-2 and 9-3, computed: one table, one theorem.
use Rattle.std.specs.Prelude.{ℕ, ◌≡◌, refl, List, [], ◌∷◌, map, ℤ, pos, negsuc}
use Rattle.codes.specs.Bits.{to_bits}
use Rattle.codes.specs.ExpGolomb.{halvings, floor_log2, ue_code, ue_length, code_num, se_code}

data Example : Type 0 where
  ue : ℕ → List ℕ → Example
  se : ℤ → List ℕ → Example
  bits : ℕ → ℕ → Example

data Outcome : Type 0 where
  code : List ℕ → Outcome
  size : ℕ → Outcome

written : Example → Outcome
written (ue v c) = code (ue_code v)
written (se v c) = code (se_code v)
written (bits v n) = size (ue_length v)

wanted : Example → Outcome
wanted (ue v c) = code c
wanted (se v c) = code c
wanted (bits v n) = size n

table : List Example
table =
    ue 0 (1 ∷ [])
    ∷ ue 1 (0 ∷ 1 ∷ 0 ∷ [])
    ∷ ue 2 (0 ∷ 1 ∷ 1 ∷ [])
    ∷ ue 3 (0 ∷ 0 ∷ 1 ∷ 0 ∷ 0 ∷ [])
    ∷ ue 6 (0 ∷ 0 ∷ 1 ∷ 1 ∷ 1 ∷ [])
    ∷ ue 7 (0 ∷ 0 ∷ 0 ∷ 1 ∷ 0 ∷ 0 ∷ 0 ∷ [])
    ∷ se (pos 0) (1 ∷ [])
    ∷ se (pos 1) (0 ∷ 1 ∷ 0 ∷ [])
    ∷ se (negsuc 0) (0 ∷ 1 ∷ 1 ∷ [])
    ∷ se (pos 2) (0 ∷ 0 ∷ 1 ∷ 0 ∷ 0 ∷ [])
    ∷ se (negsuc 1) (0 ∷ 0 ∷ 1 ∷ 0 ∷ 1 ∷ [])
    ∷ bits 1023 21
    ∷ bits 1024 21
    ∷ bits 4294967294 63
    ∷ bits 18446744073709551614 127
    ∷ []

all : map written table ≡ map wanted table
unfolding written wanted table to_bits halvings floor_log2 ue_code ue_length code_num se_code
all = refl
