-- A step over an entry, part by part.
use mathlib.Core.Path.{◌≡◌, refl, sym, ap, ◌∙◌}
use mathlib.Core.List.{List, ◌++◌}
use mathlib.Core.Bool.{Bool, true, false}
use Prim.Native.Nat.{ℕ, suc, ◌+◌, ◌*◌, ◌≤◌}
use native.Mathlib.Omega.{arith}
use lib.Dec.{ltb, leb, lit<}
use borrow.Author.Tests.{ltb-true, ltb-false, le-leb, lt-leb}
use Rattle.std.specs.Prelude.{Result, Ok, Err}
use Rattle.refusal.specs.declared.Refusal.{Refusal}
use Rattle.refusal.specs.Numbers.{number, refused}
use Rattle.refusal.proofs.Numbers.{number_above0}
use Rattle.partition.specs.Checks.{Check, first_bad, number_of, first-left, first-right, number-refused, Numbered, zero-fine}
use Rattle.partition.specs.Entry.{Entry, Position, asking, last_slice_of, next_tile, next_position, size_checks, inherited_checks, split_checks, move_checks, entry_checks}
use Rattle.pps_tables.specs.declared.RectSliceEntry.{RectSliceEntry}
use Rattle.slice_loop.specs.declared.TileIdx.{TileIdx}
use Rattle.slice_loop.specs.Loop.{position}
use Rattle.question_tests.specs.Tables.{entry_with}
use Rattle.question_tests.specs.Steps.{Stepped}
use Rattle.slice_loop.specs.declared.LoopPosition.{LoopPosition}

-- a refusal of the first of two lists, and one of the second
by-left : (cs ds : List Check) (f : Refusal) → number f ≡ number_of (first_bad cs) → number f ≡ number_of (first_bad (cs ++ ds))
unfolding number_of
by-left cs ds f e = sym (ap number_of (first-left cs ds (number f) (number-refused (first_bad cs) (number f) e (λ z. omega (arith, number_above0 f)))))

by-right : (cs ds : List Check) → Numbered cs → 0 ≡ number_of (first_bad cs) → (n : ℕ) → n ≡ number_of (first_bad ds) → n ≡ number_of (first_bad (cs ++ ds))
by-right cs ds a z n e = e ∙ sym (ap number_of (first-right cs ds (zero-fine cs a z)))

module _ (C R row : ℕ) (d : Bool) (N i t p : ℕ) (e : RectSliceEntry) (hs : List ℕ) where
  abbrev entry : Entry
  entry = entry_with e hs

  abbrev k : Position
  k = position i t p

  abbrev last : ℕ
  last = last_slice_of i entry row

  abbrev sizes : List Check
  sizes = size_checks C R t entry

  abbrev inherited : List Check
  inherited = inherited_checks asking C R d k entry

  abbrev splits : List Check
  splits = split_checks row N i entry

  abbrev moves : Bool → List Check
  moves more = move_checks C (R * C) d more t entry

  abbrev Steps : Result LoopPosition Refusal → Type 0
  Steps r = Stepped C R row d N k entry r

  numbered-sizes : Numbered sizes
  unfolding size_checks Numbered
  numbered-sizes = (lit< tt, (lit< tt, tt))

  numbered-inherited : Numbered inherited
  unfolding inherited_checks Numbered
  numbered-inherited = (lit< tt, tt)

  numbered-splits : Numbered splits
  unfolding split_checks Numbered
  numbered-splits = (lit< tt, (lit< tt, (lit< tt, (lit< tt, (lit< tt, tt)))))

  refuses : (f : Refusal) → number f ≡ number_of (first_bad (sizes ++ (inherited ++ (splits ++ moves (ltb last N))))) → Steps (Err f)
  unfolding entry_checks refused
  refuses f q = record { number = q; next = tt }

  pub by-sizes : (f : Refusal) → number f ≡ number_of (first_bad sizes) → Steps (Err f)
  by-sizes f q = refuses f (by-left sizes _ f q)

  module _ (z₁ : 0 ≡ number_of (first_bad sizes)) where
    pub by-inherited : (f : Refusal) → number f ≡ number_of (first_bad inherited) → Steps (Err f)
    by-inherited f q = refuses f (by-right sizes _ numbered-sizes z₁ (number f) (by-left inherited _ f q))

    module _ (z₂ : 0 ≡ number_of (first_bad inherited)) where
      behind : (n : ℕ) → n ≡ number_of (first_bad (splits ++ moves (ltb last N))) → n ≡ number_of (first_bad (sizes ++ (inherited ++ (splits ++ moves (ltb last N)))))
      behind n q = by-right sizes _ numbered-sizes z₁ n (by-right inherited _ numbered-inherited z₂ n q)

      pub by-splits : (f : Refusal) → number f ≡ number_of (first_bad splits) → Steps (Err f)
      by-splits f q = refuses f (behind (number f) (by-left splits _ f q))

      module _ (z₃ : 0 ≡ number_of (first_bad splits)) (n : ℕ) (s : (i + n ≡ suc last) × (last ≤ N)) where
        to_come : leb (i + n) N ≡ ltb last N
        to_come = go (ltb last N) refl
          where
            go : (m : Bool) → ltb last N ≡ m → leb (i + n) N ≡ m
            go true q = le-leb (i + n) N (omega (arith, s.0, ltb-true last N q))
            go false q = lt-leb (i + n) N (omega (arith, s.0, ltb-false last N q))

        to-next : (m : ℕ) → m ≡ number_of (first_bad (moves (leb (i + n) N))) → m ≡ number_of (first_bad (sizes ++ (inherited ++ (splits ++ moves (ltb last N)))))
        to-next m q = behind m (by-right splits _ numbered-splits z₃ m (q ∙ ap (λ (b : Bool). number_of (first_bad (moves b))) to_come))

        pub by-moves : (f : Refusal) → number f ≡ number_of (first_bad (moves (leb (i + n) N))) → Steps (Err f)
        by-moves f q = refuses f (to-next (number f) q)

        pub steps : (x : TileIdx) → 0 ≡ number_of (first_bad (moves (leb (i + n) N))) → (leb (i + n) N ≡ true → x.0 ≡ next_tile C d t entry)
            → Steps (Ok (record { slice = record { 0 = i + n }; tile = x; preceding_height = e.height }))
        unfolding entry_checks next_position refused
        steps x q u = record { number = to-next 0 q; next = (s.0, λ l. u (le-leb (i + n) N l), refl) }
