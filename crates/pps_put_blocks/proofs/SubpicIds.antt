-- The ids that are there, up to the number wanted, and the test of their number.
use Rattle.std.specs.Prelude.{ℕ, suc, ◌+◌, min, ◌≡◌, List, [], ◌++◌, refl, Bool, true, false, cond, eqb, length, take}
use Rattle.std.proofs.Common.{sym, ap, ◌∙◌, arith, length-take}
use Rattle.codes.specs.Symbols.{check, check-none}
use Rattle.refusal.specs.declared.Refusal.{Refusal}
use Rattle.refusal.specs.Numbers.{number}
use Rattle.bit_writer.specs.declared.BitWriter.{BitWriter}
use Rattle.bit_writer.specs.Writing.{Writing, with_refusal}
use Rattle.bit_writer.specs.Stop.{play_on, on_then}
use Rattle.bit_writer.specs.Written.{written}
use Rattle.bit_writer.proofs.Ended.{refused_before}
use Rattle.syntax.specs.Elements.{u}
use Rattle.syntax.specs.Lists.{many, none_symbols}
use Rattle.pps_put.specs.Each.{each, many-each, take-cut}

-- what stands for them: `there` ids, of which the first `n` are put, of `bits` bits each
pub record Ids (num len count : ℕ) (ids : List ℕ) (there wanted n bits : ℕ) : Type 0 where
  pub all : wanted ≡ num + 1
  pub held : there ≡ min count (length ids)
  pub some : n ≡ min there wanted
  pub long : bits ≡ min len 15 + 1

module _ {num len count there wanted n bits : ℕ} {ids : List ℕ} (i : Ids num len count ids there wanted n bits) {on : Bool} (coded : on ≡ true) (w : Writing) where
  symbols_are : (many (suc num) (u (suc (min len 15)) 27) 27).symbols (cond on (take count ids) []) ≡ each (u bits 27) (take n ids) ++ check (eqb there wanted) 27
  symbols_are =
      let m : suc num ≡ wanted = omega (arith, i.all) in
      let b : suc (min len 15) ≡ bits = omega (arith, i.long) in
      let part : take n ids ≡ take wanted (take count ids) = take-cut wanted count n ids (omega (arith, i.some, i.held)) in
      let size : length (take count ids) ≡ there = length-take count ids ∙ sym i.held in
      rw (coded, m, b) (many-each wanted (u bits 27) 27 (take count ids) ∙ rw (size, ← part))

  pub put_ids : {v x : Writing} → v ≡ play_on w (each (u bits 27) (take n ids)) → x ≡ play_on v (check (eqb there wanted) 27)
      → x ≡ play_on w ((many (suc num) (u (suc (min len 15)) 27) 27).symbols (cond on (take count ids) []))
  put_ids p q = on_then w _ _ p q ∙ ap (play_on w) (sym symbols_are)

  pub stop_ids : (t : BitWriter) (o : List ℕ) (e : Refusal) → with_refusal (written t o) (number e) ≡ play_on w (each (u bits 27) (take n ids))
      → with_refusal (written t o) (number e) ≡ play_on w ((many (suc num) (u (suc (min len 15)) 27) 27).symbols (cond on (take count ids) []))
  stop_ids t o e p = refused_before w (written t o) e _ _ p ∙ ap (play_on w) (sym symbols_are)

-- ---- an absent mapping
pub no_num : (t : Bool) {on : Bool} → on ≡ false → check t (cond on 26 0) ≡ []
no_num t off = rw off (check-none t)

pub no_ids : (l : List ℕ) {on : Bool} → on ≡ false → none_symbols 0 (cond on l []) ≡ []
no_ids l off = rw off refl
