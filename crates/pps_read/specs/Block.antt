-- The partition block of a set, where there is one.
use Rattle.std.specs.Prelude.{ℕ, ◌≡◌, List, Bool, length}
use Rattle.std.proofs.lemmas.List.Edits.{sets}
use Rattle.bit_reader.specs.declared.Cursor.{Cursor}
use Rattle.bit_reader.specs.Gives.{Parsed}
use Rattle.pps_record.specs.declared.VvcPpsPartition.{VvcPpsPartition}
use Rattle.pps_syntax.specs.FromRecord.{Lent}
use Rattle.pps_syntax.specs.PartitionSyntax.{PartitionBlock, partition_element}
use Rattle.pps_syntax.specs.Record.{partition_record}
use Rattle.pps_syntax.specs.SliceTables.{put_slices}
use Rattle.syntax.specs.Elements.{or_else}
use Rattle.syntax.specs.Lists.{many, none}
use Rattle.pps_answer.specs.Lending.{columns_of, rows_of, slices_of}

-- the block as a list: of one, or empty where there is none or it is refused
abbrev pub blocks_read : Bool → ℕ → ℕ → List ℕ → Cursor → Parsed (List PartitionBlock)
blocks_read on W H = (or_else on (many 1 (partition_element W H) 26) (none 0)).read

unfoldable pub blocks_record : List PartitionBlock → VvcPpsPartition
blocks_record ps = partition_record (length ps) ps

-- its lists in their tables
pub record BlocksPut (bs : List PartitionBlock) (t u : Lent) : Type 0 where
  pub columns : u.column_widths ≡ sets t.column_widths 0 (columns_of bs)
  pub rows : u.row_heights ≡ sets t.row_heights 0 (rows_of bs)
  pub slices : u.slices ≡ put_slices t.slices 0 0 (slices_of bs)
