-- How code comes to the groups of the partition block: from what its calls give to `Puts`.
use Prim.Native.Nat.{ℕ, suc, ◌-◌, ◌≤◌, min}
use Rattle.std.specs.Prelude.{◌≡◌, refl, List, [], ◌∷◌, ◌++◌, Bool, true, false, ◌&&◌, eqb, ltb, leb, length}
use Rattle.std.proofs.Common.{sym, ◌∙◌, arith, lit<, leb-true, eqb-true}
use Rattle.std.proofs.lemmas.Bool.{eqb-false}
use Rattle.std.proofs.Math.Path.{ap}
use Rattle.codes.specs.Bits.{to_bits}
use Rattle.codes.specs.Coded.{flag_bit, ue_symbols}
use Rattle.codes.specs.Symbols.{Symbol, putting, check, checked, check-none}
use Rattle.bit_writer.specs.Writing.{Writing}
use Rattle.partition.specs.Grid.{max_slices_minus1}
use Rattle.partition.specs.Partition.{in_ctbs}
use Rattle.syntax.specs.Elements.{ue, limited, or_else}
use Rattle.syntax.specs.Lists.{many}
use Rattle.syntax.specs.Round.{and_parts}
use Rattle.pps_syntax.specs.PartitionSyntax.{some, ctu_size, explicit, rect_flag, slices_minus1}
use Rattle.bit_writer.specs.Stop.{play_on, on_none, on-append, on_then, on-refused, on-check, passed}
use Rattle.pps_put_slices.specs.Sizes.{sizes_symbols, many-sizes}
use Rattle.pps_put_partition.specs.Puts.{tiles_put}

-- a test leaves no refusal only where there was none
pub none_before : (d : Writing) (xs : List Symbol) {v : Writing} → v ≡ play_on d xs → v.sink.refused ≡ 0 → d.sink.refused ≡ 0
none_before d xs {v} e z = split (eqb d.sink.refused 0) refl
  where
    split : (b : Bool) → eqb d.sink.refused 0 ≡ b → d.sink.refused ≡ 0
    split true q = eqb-true _ _ q
    split false q = sym (ap (λ (x : Writing). x.sink.refused) (e ∙ on-refused d xs (eqb-false _ _ q))) ∙ z

-- ---- flags
pub rect-coded : (w : Writing) (several : Bool) (v : ℕ) {x : Writing} → several ≡ true → x ≡ play_on w (putting (flag_bit v ∷ [])) → x ≡ play_on w ((rect_flag several).symbols v)
unfolding or_else
rect-coded w several v e h = rw e h

pub rect-inferred : (w : Writing) (several : Bool) (v : ℕ) {x : Writing} → several ≡ false → x ≡ play_on w (check (eqb v 1) 26) → x ≡ play_on w ((rect_flag several).symbols v)
unfolding or_else
rect-inferred w several v e h = rw e h

pub num-coded : (w : Writing) (on : Bool) (v : ℕ) {a x : Writing} → on ≡ true → a ≡ play_on w (check (leb v max_slices_minus1) 14) → x ≡ play_on a (ue_symbols v) → x ≡ play_on w ((slices_minus1 on).symbols v)
unfolding or_else
num-coded w on v e p q = rw e (on_then w (check (leb v max_slices_minus1) 14) (ue_symbols v) p q)

pub num-none : (w : Writing) (on : Bool) (v : ℕ) → on ≡ false → w ≡ play_on w ((slices_minus1 on).symbols v)
unfolding or_else
num-none w on v e = rw e (sym (ap (play_on w) (check-none (eqb v 0)) ∙ on_none w))

-- ---- the CTU size
ctu-symbols : (v : ℕ) → ctu_size.symbols v ≡ check (leb v 2) 9 ++ putting (to_bits 2 v)
unfolding checked
ctu-symbols v = rw (check-none (ltb v 4))

pub ctu-put : (w : Writing) (v : ℕ) {a x : Writing} → a ≡ play_on w (check (leb v 2) 9) → x ≡ play_on a (putting (to_bits 2 v)) → x ≡ play_on w (ctu_size.symbols v)
ctu-put w v p q = on_then w (check (leb v 2) 9) (putting (to_bits 2 v)) p q ∙ ap (play_on w) (sym (ctu-symbols v))

-- behind it, unless that is refused, the field is at most 2
pub ctu-small : (w : Writing) (v : ℕ) {x : Writing} → x ≡ play_on w (ctu_size.symbols v) → x.sink.refused ≡ 0 → v ≤ 2
ctu-small w v {x} e h =
    let c = check (leb v 2) 9 in
    let xs = checked (ltb v 4) 0 (to_bits 2 v) in
    leb-true v 2 (passed w (leb v 2) 9 (lit< tt) (sym (sym (on-check w (leb v 2) 9))) (none_before (play_on w c) xs (e ∙ on-append w c xs) h)).0

-- ---- the explicit tile sizes
pub some-long : (l : List ℕ) → some l ≡ true → 1 ≤ length l
some-long [] e = absurd (let y : ◌≡◌ {A = ℕ} 0 1 = cc in omega arith)
some-long (x ∷ l) e = omega arith

several-some : (l : List ℕ) → some l ≡ true → suc (length l - 1) ≡ length l
several-some [] e = absurd (let y : ◌≡◌ {A = ℕ} 0 1 = cc in omega arith)
several-some (x ∷ l) e = omega arith

pub listed : (l : List ℕ) (ctbs : ℕ) → some l ≡ true → (explicit (length l - 1) ctbs).symbols l ≡ sizes_symbols ctbs 11 l
listed l ctbs e = ap (λ (n : ℕ). (many n (limited ue (λ v. ltb v ctbs) 11 (lit< tt)) 10).symbols l) (several-some l e) ∙ many-sizes ctbs 11 10 (lit< tt) l

module _ (W H ctu : ℕ) (ws hs : List ℕ) (w : Writing) where
  abbrev pub there : List Symbol
  there = check (some ws && some hs) 10

  abbrev pub wide : List Symbol
  wide = (explicit (length ws - 1) (in_ctbs W ctu)).symbols ws

  abbrev pub high : List Symbol
  high = (explicit (length hs - 1) (in_ctbs H ctu)).symbols hs

  abbrev pub counts : List Symbol
  counts = ue_symbols (length ws - 1) ++ (ue_symbols (length hs - 1) ++ (wide ++ high))

  -- one part behind the other
  pub tiles-listed : {a v : Writing} → a ≡ play_on w (ctu_size.symbols ctu) → v ≡ play_on a (there ++ counts) → v ≡ tiles_put W H ctu ws hs w
  unfolding tiles_put
  tiles-listed {a} p q =
      let m = ue_symbols (length ws - 1) in
      let n = ue_symbols (length hs - 1) in
      let b = play_on a there in
      q ∙ on-append a there counts ∙ on-append b m (n ++ (wide ++ high)) ∙ on-append (play_on b m) n (wide ++ high) ∙ on-append (play_on (play_on b m) n) wide high
      ∙ ap (λ (x : Writing). play_on (play_on (play_on (play_on (play_on x there) m) n) wide) high) p

  -- there are explicit columns and rows, and the CTU size is one of three
  module _ (are : (some ws && some hs) ≡ true) {a : Writing} (made : a ≡ play_on w (ctu_size.symbols ctu)) (fine : a.sink.refused ≡ 0) where
    pub columns-there : 1 ≤ length ws
    columns-there = some-long ws (and_parts (some ws) (some hs) are).0

    pub rows-there : 1 ≤ length hs
    rows-there = some-long hs (and_parts (some ws) (some hs) are).1

    same : min ctu 5 ≡ ctu
    same = omega (arith, ctu-small w ctu made fine)

    pub widths-put : (b : Writing) {n : ℕ} {v : Writing} → n ≡ in_ctbs W (min ctu 5) → v ≡ play_on b (sizes_symbols n 11 ws) → v ≡ play_on b wide
    widths-put b e p =
        p ∙ ap (λ (k : ℕ). play_on b (sizes_symbols k 11 ws)) (e ∙ ap (in_ctbs W) same)
        ∙ ap (play_on b) (sym (listed ws (in_ctbs W ctu) (and_parts (some ws) (some hs) are).0))

    pub heights-put : (b : Writing) {n : ℕ} {v : Writing} → n ≡ in_ctbs H (min ctu 5) → v ≡ play_on b (sizes_symbols n 11 hs) → v ≡ play_on b high
    heights-put b e p =
        p ∙ ap (λ (k : ℕ). play_on b (sizes_symbols k 11 hs)) (e ∙ ap (in_ctbs H) same)
        ∙ ap (play_on b) (sym (listed hs (in_ctbs H ctu) (and_parts (some ws) (some hs) are).1))
