use Rattle.question_tests.proofs.EntryLaws.{slices-counted}
use Rattle.question_tests.proofs.entry.split_refusal.Goals as goal

pub returns-clause-slices : goal.returns-clause-slices
returns-clause-slices c = slices-counted _ _ _ _ _ c.args.e _ c.exp_block-split.ensures c.in_ok-slices.ensures.count c.if-too_many_slices.ensures
