-- Each refusal has its own number, above 0: its place in the declaration, plus 1.
use Rattle.std.specs.Prelude.{◌≡◌, ◌+◌, ◌<◌, refl}
use Rattle.std.proofs.Common.{arith}
use denote.Enum.Bare.{tag_one}
use denote.Enum.Declared.{tag_of}
use Rattle.refusal.specs.contracts.Refusal.{the_type}
use Rattle.refusal.specs.declared.Refusal.{Refusal}
use Rattle.refusal.specs.declared.Refusal.TheVariants.{NalTooShort, NotPps, TooLong, WorkTooShort, TableTooShort, UeTooLong, EmptyPicture, SubpicIdMapping, CtuSize, TileCounts, TileSize, TileSizesSum, GridTooLarge, TooManySlices, SlicePastGrid, SplitHeights, TooManySplitSlices, TileIdxDelta, WalkLeavesGrid, RefIdx, QpOffset, NoStopBit, TrailingBits, ParameterSetId, NoCode, Contradiction, SubpicIds, ExtensionEndsInZero, OutputTooShort}
use Rattle.refusal.specs.Numbers.{number}

pub tagged : (e : Refusal) → tag_of the_type e + 1 ≡ number e
unfolding number
tagged NalTooShort = refl
tagged NotPps = refl
tagged TooLong = refl
tagged WorkTooShort = refl
tagged TableTooShort = refl
tagged UeTooLong = refl
tagged EmptyPicture = refl
tagged SubpicIdMapping = refl
tagged CtuSize = refl
tagged TileCounts = refl
tagged TileSize = refl
tagged TileSizesSum = refl
tagged GridTooLarge = refl
tagged TooManySlices = refl
tagged SlicePastGrid = refl
tagged SplitHeights = refl
tagged TooManySplitSlices = refl
tagged TileIdxDelta = refl
tagged WalkLeavesGrid = refl
tagged RefIdx = refl
tagged QpOffset = refl
tagged NoStopBit = refl
tagged TrailingBits = refl
tagged ParameterSetId = refl
tagged NoCode = refl
tagged Contradiction = refl
tagged SubpicIds = refl
tagged ExtensionEndsInZero = refl
tagged OutputTooShort = refl

pub number_injective : (a b : Refusal) → number a ≡ number b → a ≡ b
number_injective a b e = tag_one the_type tt a b (omega (arith, tagged a, tagged b))

pub number_above0 : (e : Refusal) → 0 < number e
number_above0 e = omega (arith, tagged e)
