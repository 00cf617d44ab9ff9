-- Small sets that are read, computed: one table, one theorem.
use Rattle.std.specs.Prelude.{ℕ, ◌≡◌, refl, List, [], ◌∷◌, map, true}
use Rattle.codes.specs.Bytes.{bit_at, bits_at}
use Rattle.codes.specs.ExpGolomb.{signed_of}
use Rattle.nal.specs.Escape.{zero_run, is_escape, unescape_from, unescape}
use Rattle.bit_reader.specs.Extension.{ones, taken_while_more, extension_bits}
use Rattle.bit_reader.specs.Reading.{unless_refused, onward, u_read, stops, zeros_at, ue_after, ue_within, ue_read, se_read, trailing_read, demanded}
use Rattle.partition.specs.Partition.{in_ctbs, tile_grid}
use Rattle.partition.specs.Sizes.{sum, explicit_sizes, uniform_size, tail_size, uniform_sizes, axis_sizes}
use Rattle.syntax.specs.Elements.{or_else}
use Rattle.syntax.specs.Lists.{many, walk}
use Rattle.syntax.specs.Syntax.{◌>>=◌, parse}
use Rattle.pps_syntax.specs.Chroma.{chroma}
use Rattle.pps_syntax.specs.Deblocking.{deblocking}
use Rattle.pps_syntax.specs.Head.{head, conf_win, scaling_win, kind}
use Rattle.pps_syntax.specs.PartitionSyntax.{partition}
use Rattle.pps_syntax.specs.PictureHeader.{picture_header}
use Rattle.pps_syntax.specs.Pps.{front, back, pps}
use Rattle.pps_syntax.specs.Rbsp.{ReadAnswer, accepted, refused, extension_for, answered, read_rbsp, before_fields, rbsp_of, read_nal}
use Rattle.pps_syntax.specs.References.{references}
use Rattle.pps_syntax.specs.SliceSyntax.{rect_slices}
use Rattle.pps_syntax.specs.SubpicIds.{subpic_ids}

-- the picture's size, the extension's first bit and count, and the bytes taken; or the number of a refusal
data Outcome : Type 0 where
  takes : ℕ → ℕ → ℕ → ℕ → ℕ → Outcome
  refuses : ℕ → Outcome

outcome : ReadAnswer → Outcome
outcome (accepted r) = takes r.set.front.head.pps_pic_width_in_luma_samples r.set.front.head.pps_pic_height_in_luma_samples r.extension_first_bit r.extension_count r.bytes_taken
outcome (refused n) = refuses n

record Example : Type 0 where
  nal : List ℕ
  wanted : Outcome

abbrev example : List ℕ → Outcome → Example
example nal w = record { nal = nal; wanted = w }

-- the first set, with another last byte
abbrev desk : List ℕ → List ℕ
desk last = 0x00 ∷ 0x81 ∷ 0x00 ∷ 0x09 ∷ 0x09 ∷ 0x84 ∷ last

table : List Example
table =
    example (desk (0x08 ∷ [])) (takes 1 1 0 0 5)
    ∷ example (desk (0x08 ∷ 0xff ∷ [])) (takes 1 1 0 0 5)
    ∷ example (desk (0x18 ∷ [])) (takes 1 1 0 0 5)
    ∷ example (desk (0x16 ∷ [])) (takes 1 1 36 2 5)
    ∷ example (desk (0x14 ∷ [])) (refuses 23)
    ∷ example (desk []) (refuses 22)
    ∷ example (0x00 ∷ 0x81 ∷ []) (refuses 7)
    ∷ example (0x00 ∷ 0x79 ∷ []) (refuses 2)
    ∷ example (0x00 ∷ []) (refuses 1)
    ∷ []

all : map (λ (e : Example). outcome (read_nal e.nal 65535 true)) table ≡ map (λ (e : Example). e.wanted) table
unfolding table outcome bit_at bits_at signed_of zero_run is_escape unescape_from unescape ones taken_while_more extension_bits unless_refused onward u_read stops zeros_at ue_after ue_within ue_read se_read trailing_read demanded or_else many ◌>>=◌ parse chroma deblocking head conf_win scaling_win kind picture_header front back pps extension_for answered read_rbsp before_fields rbsp_of read_nal references subpic_ids partition tile_grid axis_sizes explicit_sizes in_ctbs uniform_sizes sum uniform_size tail_size rect_slices walk
all = refl
