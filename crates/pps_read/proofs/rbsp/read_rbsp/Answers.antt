use Rattle.std.proofs.Common.{refl, ◌∙◌}
use Rattle.pps_tables.specs.LentMut.{lent_now}
use Rattle.pps_read.proofs.RbspRead.{front-refused, block-refused, back-refused, answer-made, lists-made, said-refused, nothing-accepted}
use Rattle.pps_read.proofs.rbsp.read_rbsp.Goals as goal

pub returns-in_err-front-clause-answer : goal.returns-in_err-front-clause-answer
returns-in_err-front-clause-answer c = said-refused _ _ c.from_residual.ensures ∙ front-refused c.in_err-front.ensures.value

pub returns-in_err-front-clause-tables : goal.returns-in_err-front-clause-tables
returns-in_err-front-clause-tables c = λ a z. absurd (nothing-accepted _ _ a (front-refused c.in_err-front.ensures.value) z)

pub returns-in_err-partition-clause-answer : goal.returns-in_err-partition-clause-answer
returns-in_err-partition-clause-answer c = said-refused _ _ c.from_residual-in_err-partition.ensures ∙ block-refused c.in_ok-front.ensures.value c.in_err-partition.ensures.answer

pub returns-in_err-partition-clause-tables : goal.returns-in_err-partition-clause-tables
returns-in_err-partition-clause-tables c = λ a z. absurd (nothing-accepted _ _ a (block-refused c.in_ok-front.ensures.value c.in_err-partition.ensures.answer) z)

pub returns-in_err-back-clause-answer : goal.returns-in_err-back-clause-answer
returns-in_err-back-clause-answer c = said-refused _ _ c.from_residual-in_err-back.ensures ∙ back-refused c.in_ok-front.ensures.value c.in_ok-partition.ensures.answer c.in_err-back.ensures

pub returns-in_err-back-clause-tables : goal.returns-in_err-back-clause-tables
returns-in_err-back-clause-tables c = λ a z. absurd (nothing-accepted _ _ a (back-refused c.in_ok-front.ensures.value c.in_ok-partition.ensures.answer c.in_err-back.ensures) z)

pub returns-clause-answer : goal.returns-clause-answer
returns-clause-answer c = let B = c.in_ok-partition.ensures in
    answer-made c.in_ok-front.ensures.value B.answer c.in_ok-back.ensures _ _ B.tables c.answer_of.ensures

pub returns-clause-tables : goal.returns-clause-tables
returns-clause-tables c = let B = c.in_ok-partition.ensures in
    lists-made c.in_ok-front.ensures.value B.answer c.in_ok-back.ensures _ _ B.tables (lent_now c.args.tables.now) (rw c.in_ok-front.ensures.table refl) B.subpic_ids
