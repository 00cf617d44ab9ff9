use mathlib.Core.Path.{sym, ap, ◌∙◌}
use mir.Syntax.{w32}
use mir.Val.{SFits}
use mir.Facts.{to_z-of_z}
use Rattle.std.proofs.lemmas.Bool.{true≢false}
use borrow.Author.Rules.{rules}
use Rattle.partition.specs.Entry.{delta_uncodable}
use Rattle.refusal.specs.Numbers.{number, refused}
use Rattle.slice_loop.specs.Answers.{next_by_delta}
use Rattle.question_tests.proofs.EntryLaws.{outside, inside, inside-same, moved-by-delta, coded-on, delta-tests, leaving-tests, inside-tests, end-tests, default-next}
use Rattle.question_tests.proofs.entry.move_refusal.Goals as goal
use Rattle.question_tests.proofs.entry.move_refusal.Goals.{else-more-via-then-more+else-not-has_tile, else-more-via-else-more}

pub returns-then-moves-clause-number : goal.returns-then-moves-clause-number
returns-then-moves-clause-number c = λ hs.
    let fits : SFits w32 c.args.e.delta = search rules in
    delta-tests c.args.ctx.num_tile_columns _ _ _ _ c.args.e hs c.if-moves-coded.false c.if-moves.true (c.if-delta_uncodable.ensures ∙ ap delta_uncodable (to_z-of_z fits)) _ (c.apply_delta.ensures ∙ ap (next_by_delta _ _) (to_z-of_z fits))

pub returns-then-moves-clause-tile : goal.returns-then-moves-clause-tile
returns-then-moves-clause-tile c = λ hs m.
    let fits : SFits w32 c.args.e.delta = search rules in
    moved-by-delta c.args.ctx.num_tile_columns _ _ _ c.args.e hs c.requires (coded-on 0 0 _ _ 0 c.args.e hs c.if-moves-coded.false c.if-moves.true) _ (c.apply_delta.ensures ∙ ap (next_by_delta _ _) (to_z-of_z fits))

pub returns-then-not-has_tile-clause-number : goal.returns-then-not-has_tile-clause-number
unfolding refused number
returns-then-not-has_tile-clause-number c = λ hs. leaving-tests c.args.ctx.num_tile_columns _ _ _ _ c.args.e hs c.if-moves-coded.false c.if-moves.false c.if-more.true (outside _ _ c.requires _ c.default_advance-next.ensures c.if-not-has_tile.ensures)

pub returns-clause-number : goal.returns-clause-number
unfolding refused
returns-clause-number c = λ hs.
    elim c.else-more.branch [
      | else-more-via-then-more+else-not-has_tile w ↦ inside-tests c.args.ctx.num_tile_columns _ _ _ _ c.args.e hs c.if-moves-coded.false c.if-moves.false w.if-more.true (inside _ _ c.requires _ c.default_advance-next.ensures w.if-not-has_tile.ensures)
      | else-more-via-else-more w ↦ end-tests c.args.ctx.num_tile_columns _ _ _ _ c.args.e hs c.if-moves-coded.false c.if-moves.false w.if-more.false
    ]

pub returns-clause-tile : goal.returns-clause-tile
returns-clause-tile c = λ hs m.
    elim c.else-more.branch [
      | else-more-via-then-more+else-not-has_tile w ↦ default-next c.args.ctx.num_tile_columns 0 _ _ _ c.args.e hs c.if-moves-coded.false c.if-moves.false m _ (inside-same _ _ c.requires _ c.default_advance-next.ensures w.if-not-has_tile.ensures)
      | else-more-via-else-more w ↦ absurd (true≢false (sym m ∙ w.if-more.false))
    ]
