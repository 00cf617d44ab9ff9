-- Lists of sizes, and what they say of their axis, computed: a table and a theorem for each.
use Rattle.std.specs.Prelude.{ℕ, ◌≡◌, refl, List, [], ◌∷◌, map, Option, Some, None}
use Rattle.codes.specs.Bytes.{bit_at, bits_at}
use Rattle.bit_reader.specs.declared.Cursor.{Cursor}
use Rattle.bit_reader.specs.Reading.{cursor_at, unless_refused, onward, stops, zeros_at, ue_after, ue_within, ue_read, demanded}
use Rattle.partition.specs.Sizes.{sum, explicit_sizes, uniform_size, tail_size, uniform_sizes, axis_sizes}
use Rattle.syntax.specs.Element.{Parsed, parsed}
use Rattle.pps_fields.specs.declared.lists.AxisRead.{AxisRead}
use Rattle.pps_fields.specs.Axis.{axis_of}
use Rattle.pps_fields.specs.ListReads.{list_read}
use Rattle.pps_fields.specs.Sizes.{sizes_read}

record Example : Type 0 where
  bytes : List ℕ
  count : ℕ
  bound : ℕ
  wanted : Parsed (List ℕ)

abbrev example : List ℕ → ℕ → ℕ → Parsed (List ℕ) → Example
example bytes count bound w = record { bytes = bytes; count = count; bound = bound; wanted = w }

-- a cursor refused with 11
abbrev refused_at : ℕ → Cursor
refused_at at = record { at = at; refused = 11 }

-- a6 is 1, 010, 011 and a bit: 0, 1, 2
table : List Example
table =
    example (0xa6 ∷ []) 3 3 (parsed (0 ∷ 1 ∷ 2 ∷ []) (cursor_at 7))
    ∷ example (0xa6 ∷ []) 2 3 (parsed (0 ∷ 1 ∷ []) (cursor_at 4))
    ∷ example (0xa6 ∷ []) 3 2 (parsed (0 ∷ 1 ∷ []) (refused_at 7))
    ∷ example (0xa6 ∷ []) 3 0 (parsed [] (refused_at 1))
    ∷ example (0xa6 ∷ []) 0 0 (parsed [] (cursor_at 0))
    ∷ example [] 2 1 (parsed (0 ∷ 0 ∷ []) (cursor_at 0))
    ∷ []

all : map (λ (e : Example). sizes_read e.count e.bound 11 e.bytes (cursor_at 0)) table ≡ map (λ (e : Example). e.wanted) table
unfolding table bit_at bits_at unless_refused onward stops zeros_at ue_after ue_within ue_read demanded list_read sizes_read
all = refl

-- ---- an axis
abbrev axis : ℕ → ℕ → Option ℕ → AxisRead
axis count uniform sizes = record { count = count; uniform = uniform; sizes = sizes }

record AxisExample : Type 0 where
  minus1 : List ℕ
  total : ℕ
  wanted : AxisRead

abbrev of : List ℕ → ℕ → AxisRead → AxisExample
of minus1 total w = record { minus1 = minus1; total = total; wanted = w }

-- 0, 1, 2 are sizes of 1, 2 and 3: on an axis of 10 CTBs, another 3 and a tail of 1; on one of 5 they do not fit
axes : List AxisExample
axes =
    of (0 ∷ 1 ∷ 2 ∷ []) 10 (axis 3 3 (Some 5))
    ∷ of (0 ∷ 1 ∷ 2 ∷ []) 6 (axis 3 3 (Some 3))
    ∷ of (0 ∷ 1 ∷ 2 ∷ []) 5 (axis 3 3 None)
    ∷ of (3 ∷ []) 9 (axis 1 4 (Some 3))
    ∷ of [] 4 (axis 0 1 (Some 4))
    ∷ []

all-axes : map (λ (e : AxisExample). axis_of e.minus1 e.total) axes ≡ map (λ (e : AxisExample). e.wanted) axes
unfolding axes axis_of sum explicit_sizes uniform_size tail_size uniform_sizes axis_sizes
all-axes = refl
