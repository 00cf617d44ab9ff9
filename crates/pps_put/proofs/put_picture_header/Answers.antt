-- One step of the description for each call; without a partition five flags are passed over.
use mathlib.Core.Bool.{Bool, ◌&&◌}
use mathlib.Core.Path.{◌≡◌, refl}
use Rattle.bit_writer.specs.Stop.{play_on}
use Rattle.bit_writer.specs.Written.{written}
use Rattle.codes.specs.Symbols.{check-none}
use Rattle.pps_syntax.specs.PictureHeader.{picture_header}
use Rattle.syntax.specs.Elements.{is_set}
use Rattle.syntax.specs.Syntax.{◌>>=◌}
use Rattle.syntax.proofs.Elements.{flag_if}
use Rattle.syntax.proofs.PutSteps.{follows, ◌⟫◌, end, put, skip, written_on, passed_over, met}
use Rattle.pps_put.proofs.Named.{both, not_first, not_second}
use Rattle.pps_put.proofs.put_picture_header.Goals as goal
use Rattle.pps_put.proofs.put_picture_header.Goals.{then-partitioned, then-weighted-v, else-weighted-v, else-partitioned}

pub returns : goal.returns
unfolding picture_header ◌>>=◌
returns c = let v = c.args.v.now in
    let coded : Bool = c.args.weighted && is_set v.pps_rpl_info_in_ph_flag in
    elim c.if-partitioned.branch [
      | then-partitioned w ↦
          let on = w.if-partitioned.true in
          let alf = w.put_flag-then-partitioned-2.new in
          let wp : written w.if-weighted-v.w w.if-weighted-v.out ≡ play_on (written alf.self alf.out) ((flag_if (c.args.partitioned && coded)).symbols v.pps_wp_info_in_ph_flag) = elim w.if-weighted-v.branch [
            | then-weighted-v x ↦ met _ x.w-is x.out-is (written_on _ _ _ _ (both on x.if-weighted-v.true) x.put_flag-then-weighted-v.ensures)
            | else-weighted-v x ↦ met _ x.w-is x.out-is (passed_over _ _ _ _ (not_second c.args.partitioned x.if-weighted-v.false) (check-none _) refl)
          ] in
          follows (picture_header _ _)
          (put _ _ on w.put_flag.ensures (put _ _ on w.put_flag-then-partitioned.ensures (put _ _ on w.put_flag-then-partitioned-2.ensures
          (wp ⟫ put _ _ on (met _ w.w-is w.out-is w.put_flag-then-partitioned-3.ensures) (c.put_flag-2.ensures ⟫ c.put_flag-3.ensures ⟫ c.put_flag-4.ensures ⟫ end)))))
      | else-partitioned w ↦
          let off = w.if-partitioned.false in
          let there : written c.if-partitioned.w c.if-partitioned.out ≡ play_on (written c.args.w.now c.args.out.now) ((flag_if c.args.partitioned).symbols v.pps_rpl_info_in_ph_flag) = met _ w.w-is w.out-is (passed_over _ _ _ _ off (check-none _) refl) in
          follows (picture_header _ _)
          (there ⟫ skip _ _ off (check-none _) (skip _ _ off (check-none _) (skip _ _ (not_first coded off) (check-none _) (skip _ _ off (check-none _)
          (c.put_flag-2.ensures ⟫ c.put_flag-3.ensures ⟫ c.put_flag-4.ensures ⟫ end)))))
    ]
