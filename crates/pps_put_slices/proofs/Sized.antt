-- Width and height, part by part.
use Rattle.std.specs.Prelude.{ℕ, ◌-◌, ◌≡◌, List, ◌++◌, Bool, ltb}
use Rattle.std.proofs.Common.{ap}
use Rattle.codes.specs.Coded.{ue_symbols, only_if}
use Rattle.codes.specs.Symbols.{Symbol, check}
use Rattle.bit_writer.specs.Writing.{Writing}
use Rattle.bit_writer.specs.Stop.{play_on, on_then}
use Rattle.partition.specs.Entry.{tile_x, tile_y, width_coded, height_coded}
use Rattle.pps_put_slices.specs.Parts.{size_in_tiles}
use Rattle.pps_put_slices.proofs.Answered.{renamed}

module _ (w : Writing) (columns rows : ℕ) (deltas : Bool) (t width height : ℕ) where
  abbrev wide : List Symbol
  wide = only_if (width_coded columns t) (ue_symbols width)

  abbrev tall : List Symbol
  tall = only_if (height_coded columns rows deltas t) (ue_symbols height)

  abbrev across : List Symbol
  across = check (ltb width (columns - tile_x columns t)) 15

  abbrev down : List Symbol
  down = check (ltb height (rows - tile_y columns t)) 15

  pub across-tested : {n : ℕ} {a v : Writing} → n ≡ columns - tile_x columns t → a ≡ play_on w (check (ltb width n) 15) → v ≡ play_on a (down ++ (wide ++ tall))
      → v ≡ play_on w (size_in_tiles columns rows deltas t width height)
  unfolding size_in_tiles
  across-tested e p q = on_then w across (down ++ (wide ++ tall)) (renamed w 15 (ap (ltb width) e) p) q

  pub down-tested : {n : ℕ} {a v : Writing} → n ≡ rows - tile_y columns t → a ≡ play_on w (check (ltb height n) 15) → v ≡ play_on a (wide ++ tall) → v ≡ play_on w (down ++ (wide ++ tall))
  down-tested e p q = on_then w down (wide ++ tall) (renamed w 15 (ap (ltb height) e) p) q
