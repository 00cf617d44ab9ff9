-- The front of the partition block (H.266 7.3.2.5): the CTU size and the explicit tile sizes of a picture of W by H
-- luma samples.
use Rattle.std.specs.Prelude.{ℕ, ◌-◌, List, ◌&&◌, ltb, length}
use Rattle.std.proofs.Common.{lit<}
use Rattle.partition.specs.Grid.{Grid, max_tile_columns, max_tiles}
use Rattle.partition.specs.Partition.{in_ctbs, tile_grid}
use Rattle.pps_syntax.specs.PartitionSyntax.{ctu_size, explicit}
use Rattle.syntax.specs.Elements.{ue}
use Rattle.syntax.specs.Syntax.{Syntax, done, on_reading, ◌for◌, ◌>>=◌}
use Rattle.pps_fields.specs.Axis.{axis_of}
use Rattle.pps_partition.specs.declared.tiles.TileSizesRead.{TileSizesRead}

pub record TileSizes : Type 0 where
  pub pps_log2_ctu_size_minus5 : ℕ
  pub pps_tile_column_width_minus1 : List ℕ
  pub pps_tile_row_height_minus1 : List ℕ

module _ (W H : ℕ) where
  unfoldable pub tile_sizes : Syntax TileSizes
  tile_sizes = do
    ctu ← ctu_size for (λ r. r.pps_log2_ctu_size_minus5)
    columns ← ue for (λ r. length r.pps_tile_column_width_minus1 - 1)
    rows ← ue for (λ r. length r.pps_tile_row_height_minus1 - 1)
    on_reading (ltb columns max_tile_columns && ltb rows max_tiles) 10 (lit< tt) do
      widths ← explicit columns (in_ctbs W ctu) for (λ r. r.pps_tile_column_width_minus1)
      heights ← explicit rows (in_ctbs H ctu) for (λ r. r.pps_tile_row_height_minus1)
      done (record { pps_log2_ctu_size_minus5 = ctu; pps_tile_column_width_minus1 = widths; pps_tile_row_height_minus1 = heights })

  -- what is kept of them beside their tables
  abbrev pub sizes_kept : TileSizes → TileSizesRead
  sizes_kept t =
      record {
        ctu = t.pps_log2_ctu_size_minus5;
        columns = axis_of t.pps_tile_column_width_minus1 (in_ctbs W t.pps_log2_ctu_size_minus5);
        rows = axis_of t.pps_tile_row_height_minus1 (in_ctbs H t.pps_log2_ctu_size_minus5);
        pic_height = record { 0 = in_ctbs H t.pps_log2_ctu_size_minus5 };
      }

  -- the grid of the sizes read (H.266 6.5.1)
  abbrev pub grid_from : TileSizes → Grid
  grid_from t = tile_grid W H t.pps_log2_ctu_size_minus5 t.pps_tile_column_width_minus1 t.pps_tile_row_height_minus1
