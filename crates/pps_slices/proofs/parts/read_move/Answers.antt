-- A signed value is unchanged by the 32 bits of its field.
use Rattle.std.proofs.Common.{sym, rules, SFits, to_z-of_z}
use Rattle.std.specs.Int.{w32}
use Rattle.bit_reader.proofs.Gives.{at_exit}
use Rattle.pps_slices.proofs.Moves.{last_move, move_uncoded, move_by_delta, move_wrong, move_on, move_out}
use Rattle.pps_slices.proofs.parts.read_move.Goals as goal

pub returns-then-not-slices_to_come : goal.returns-then-not-slices_to_come
returns-then-not-slices_to_come c = last_move _ _ _ _ _ _ _ (sym c.if-not-slices_to_come.ensures)

pub returns-in_err-delta : goal.returns-in_err-delta
returns-in_err-delta c = at_exit c.from_residual.ensures.1 (move_uncoded _ _ _ _ _ _ _ c.if-ctx.true (sym c.if-not-slices_to_come.ensures) c.in_err-delta.ensures)

pub returns-in_err-by_delta : goal.returns-in_err-by_delta
returns-in_err-by_delta c = let fits : SFits w32 c.in_ok-delta.delta = search rules in
    at_exit c.from_residual-in_err-by_delta.ensures.1
    (move_wrong _ _ _ _ _ _ _ c.if-ctx.true (sym c.if-not-slices_to_come.ensures) c.in_ok-delta.ensures c.requires (rw (to_z-of_z fits) at c.in_err-by_delta.ensures))

pub returns-then-ctx : goal.returns-then-ctx
returns-then-ctx c = let fits : SFits w32 c.in_ok-delta.delta = search rules in
    rw (to_z-of_z fits) (move_by_delta _ _ _ _ _ _ _ c.if-ctx.true (sym c.if-not-slices_to_come.ensures) c.in_ok-delta.ensures c.requires (rw (to_z-of_z fits) at c.in_ok-by_delta.ensures))

pub returns-then-not-has_tile : goal.returns-then-not-has_tile
returns-then-not-has_tile c = move_out _ _ _ _ _ _ _ c.if-ctx.false (sym c.if-not-slices_to_come.ensures) c.requires c.default_advance-by_default.ensures c.if-not-has_tile.ensures

pub returns : goal.returns
returns c = move_on _ _ _ _ _ _ _ c.if-ctx.false (sym c.if-not-slices_to_come.ensures) c.requires c.default_advance-by_default.ensures c.if-not-has_tile.ensures
