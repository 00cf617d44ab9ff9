-- Wherever reading accepts, all three questions answer: of the record that reading gives, over the tables that it leaves, they answer from the layout of the partition that was read.
use Rattle.std.specs.Prelude.{ℕ, ◌≡◌, List, Bool}
use Rattle.std.proofs.Math.Path.{refl, ap}
use Rattle.std.proofs.Common.{sym, ap₂, ◌∙◌}
use Rattle.std.proofs.Math.Bool.{true, false}
use Rattle.partition.specs.Accepted.{Accepted, without-slices, with_slices}
use Rattle.partition.specs.Checks.{fine, first_bad}
use Rattle.partition.specs.Entry.{asking}
use Rattle.partition.specs.Partition.{Partition, Layout, unless, layout}
use Rattle.pps_answer.specs.Answers.{accepted_pps, record_read}
use Rattle.pps_answer.specs.Lending.{filled}
use Rattle.pps_answer.specs.ParsePps.{outcome, parse_pps}
use Rattle.pps_record.specs.declared.VvcPps.{VvcPps}
use Rattle.pps_record.specs.declared.VvcQpOffsets.{VvcQpOffsets}
use Rattle.pps_round.specs.SetBack.{long_of, set_back}
use Rattle.pps_round.specs.UnitRead.{UnitRead, unit-read}
use Rattle.pps_syntax.specs.FromRecord.{Lent, tables_long, partition_from, set_from}
use Rattle.pps_syntax.proofs.ListsFit.{read_lists_fit}
use Rattle.pps_syntax.specs.Pps.{Pps, partitioned, pic_width, pic_height}
use Rattle.pps_syntax.specs.Rbsp.{ReadSet, accepted, read_rbsp, rbsp_of}
use Rattle.pps_syntax.specs.ReadAccepted.{picture_of}
use Rattle.pps_syntax.proofs.ReadAccepted.{read-partition-accepted, read-unpartitioned}
use Rattle.pps_syntax.proofs.ReadWhole.{read_whole}
use Rattle.pps_syntax.specs.Record.{record_of}
use Rattle.question_tests.specs.Questions.{record_checks, picture_layout, layout_asked}
use Rattle.tile_grid.specs.AskedDemand.{declined_layout}
use Rattle.pps_asked.specs.RecordTests.{tests-pass}

-- The layout of the partition of a set that was read.
abbrev pub layout_read : ReadSet → Layout
layout_read a = picture_layout (pic_width a.set.front) (pic_height a.set.front) a.set.partition

-- ---- an RBSP that reading accepts, with tables that are long enough
accepted-laid : (p : Partition) → Accepted p → declined_layout (layout asking p) ≡ false
accepted-laid p (without-slices q) = ap declined_layout q
accepted-laid p (with_slices ps q) = ap declined_layout q

module _ (rbsp : List ℕ) (a : ReadSet) (e : read_rbsp rbsp ≡ accepted a) where
  laid : (parted : Bool) → partitioned a.set.front.kind ≡ parted → declined_layout (layout_read a) ≡ false
  unfolding picture_layout
  laid true q = let o = read-partition-accepted rbsp a e q in rw o.is (accepted-laid (picture_of a.set o.block) o.accepted)
  laid false q = rw ((read-unpartitioned rbsp a e).1 q)

  pub read-laid : declined_layout (layout_read a) ≡ false
  read-laid = laid (partitioned a.set.front.kind) refl

module _ (rbsp : List ℕ) (a : ReadSet) (t : Lent) (e : read_rbsp rbsp ≡ accepted a) (long : tables_long t ≡ true) where
  -- no test before the partition's own refuses
  pub read-passes : first_bad (record_checks (record_read a) (filled a.set t)) ≡ fine
  read-passes =
      let w = (read_whole rbsp a e).fields in
      tests-pass a.set w.accepted w.given (read_lists_fit rbsp a e) t (long_of t long) a.extension_first_bit a.extension_count

  -- the partition is read back out of the record and the tables
  pub read-partition : partition_from (record_read a).partition (filled a.set t) ≡ a.set.partition
  unfolding set_from partition_from
  read-partition =
      let w = (read_whole rbsp a e).fields in
      ap (λ (s : Pps). s.partition) (set_back a.set t a.extension_first_bit a.extension_count w.accepted w.given (long_of t long) (read_lists_fit rbsp a e))

  read-size : picture_layout (record_read a).pps_pic_width_in_luma_samples (record_read a).pps_pic_height_in_luma_samples a.set.partition ≡ layout_read a
  unfolding record_of
  read-size = refl

  pub read-layout : layout_asked (record_read a) (filled a.set t) ≡ layout_read a
  unfolding layout_asked unless
  read-layout = rw (read-passes, read-partition) read-size

-- ---- a NAL unit that reading accepts, as the contract of `parse_pps` says it
same_set : (a b : ReadSet) → accepted a ≡ accepted b → a ≡ b
same_set a b e = cc

module _ (nal work : List ℕ) (t : Lent) (pps : VvcPps) (triples : List VvcQpOffsets) (taken : ℕ) (left : List ℕ) (tables : Lent)
    (u : outcome (accepted_pps pps triples taken) left tables ≡ parse_pps nal work t) where
  unit : UnitRead nal work t pps triples taken left tables
  unit = unit-read nal work t pps triples taken left tables u

  -- no test before the partition's own refuses
  pub unit-passes : first_bad (record_checks pps tables) ≡ fine
  unit-passes = ap₂ (λ (x : VvcPps) (y : Lent). first_bad (record_checks x y)) unit.record_is unit.tables_are ∙ read-passes (rbsp_of nal) unit.read t unit.is unit.long

  -- The theorem: the questions answer from the layout of the partition that was read ..
  pub unit-layout : (a : ReadSet) → read_rbsp (rbsp_of nal) ≡ accepted a → layout_asked pps tables ≡ layout_read a
  unit-layout a e =
      ap₂ (λ (x : VvcPps) (y : Lent). layout_asked x y) unit.record_is unit.tables_are
      ∙ read-layout (rbsp_of nal) unit.read t unit.is unit.long
      ∙ ap layout_read (same_set unit.read a (sym unit.is ∙ e))

  -- .. which is not declined
  pub unit-answered : declined_layout (layout_asked pps tables) ≡ false
  unit-answered = ap declined_layout (unit-layout unit.read unit.is) ∙ read-laid (rbsp_of nal) unit.read unit.is
