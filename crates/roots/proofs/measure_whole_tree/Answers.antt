use Rattle.roots.proofs.measure_whole_tree.Goals as goal
use Rattle.std.proofs.Common.{sym, ◌∙◌}
use borrow.Author.Tests.{eqb-true, eqb-false}
use Rattle.refusals.proofs.Handing.{handed_on}
use Rattle.numbers.proofs.Answering.{read-moved, read-within}
use Rattle.roots.proofs.Spans.{tree_tail}
use Rattle.roots.proofs.Trees.{none_is, whole-stops, whole-ends, whole-more}

pub returns-in_err-e : goal.returns-in_err-e
returns-in_err-e c = handed_on c.from_residual.ensures.1 (whole-stops _ _ _ _ _ _ none_is c.measure_tree.ensures.value c.in_err-e.was)

pub after-requires : goal.after-requires
after-requires c = (read-moved _ _ _ c.measure_tree.ensures.value c.in_ok-e.was (tree_tail _ _ _ _ _), read-within _ _ _ c.measure_tree.ensures.value c.in_ok-e.was (tree_tail _ _ _ _ _))

pub returns-then-not-is_empty : goal.returns-then-not-is_empty
returns-then-not-is_empty c = whole-more _ _ _ _ _ _ none_is c.measure_tree.ensures.value c.in_ok-e.was c.after.ensures (eqb-false _ _ (sym c.is_empty.ensures ∙ c.if-not-is_empty.true))

pub returns : goal.returns
returns c = whole-ends _ _ _ _ _ _ none_is c.measure_tree.ensures.value c.in_ok-e.was c.after.ensures (eqb-true _ _ (sym c.is_empty.ensures ∙ c.if-not-is_empty.false))
