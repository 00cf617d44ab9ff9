-- The numbers of the refusals, as docs/BEHAVIOUR.md lists them.
use Rattle.std.specs.Prelude.{ℕ, Result, Ok, Err}
use Rattle.refusal.specs.declared.Refusal.{Refusal}
use Rattle.refusal.specs.declared.Refusal.TheVariants.{NalTooShort, NotPps, TooLong, WorkTooShort, TableTooShort, UeTooLong, EmptyPicture, SubpicIdMapping, CtuSize, TileCounts, TileSize, TileSizesSum, GridTooLarge, TooManySlices, SlicePastGrid, SplitHeights, TooManySplitSlices, TileIdxDelta, WalkLeavesGrid, RefIdx, QpOffset, NoStopBit, TrailingBits, ParameterSetId, NoCode, Contradiction, SubpicIds, ExtensionEndsInZero, OutputTooShort}

unfoldable pub number : Refusal → ℕ
number NalTooShort = 1
number NotPps = 2
number TooLong = 3
number WorkTooShort = 4
number TableTooShort = 5
number UeTooLong = 6
number EmptyPicture = 7
number SubpicIdMapping = 8
number CtuSize = 9
number TileCounts = 10
number TileSize = 11
number TileSizesSum = 12
number GridTooLarge = 13
number TooManySlices = 14
number SlicePastGrid = 15
number SplitHeights = 16
number TooManySplitSlices = 17
number TileIdxDelta = 18
number WalkLeavesGrid = 19
number RefIdx = 20
number QpOffset = 21
number NoStopBit = 22
number TrailingBits = 23
number ParameterSetId = 24
number NoCode = 25
number Contradiction = 26
number SubpicIds = 27
number ExtensionEndsInZero = 28
number OutputTooShort = 29

-- The number of a refusal, 0 where there is none.
unfoldable pub refused : {A : Type 0} → Result A Refusal → ℕ
refused (Ok _) = 0
refused (Err e) = number e
