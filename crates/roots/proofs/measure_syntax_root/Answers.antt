use Rattle.roots.proofs.measure_syntax_root.Goals as goal
use Rattle.std.proofs.Common.{sym, ◌∙◌}
use borrow.Author.Tests.{eqb-true, eqb-false}
use Rattle.refusals.proofs.Handing.{handed_on}
use Rattle.numbers.proofs.Answering.{read-moved, read-within}
use Rattle.roots.proofs.ObjectSizes.{object_tail}
use Rattle.roots.proofs.Trees.{syntax-stops, syntax-ends, syntax-more}

pub returns-in_err-size : goal.returns-in_err-size
returns-in_err-size c = handed_on c.from_residual.ensures.1 (syntax-stops _ _ _ c.measure_object.ensures c.in_err-size.was)

pub after-requires : goal.after-requires
after-requires c = (read-moved _ _ _ c.measure_object.ensures c.in_ok-size.was (object_tail _ _ _ _), read-within _ _ _ c.measure_object.ensures c.in_ok-size.was (object_tail _ _ _ _))

pub returns-then-not-is_empty : goal.returns-then-not-is_empty
returns-then-not-is_empty c = syntax-more _ _ _ c.measure_object.ensures c.in_ok-size.was c.after.ensures (eqb-false _ _ (sym c.is_empty.ensures ∙ c.if-not-is_empty.true))

pub returns : goal.returns
returns c = syntax-ends _ _ _ c.measure_object.ensures c.in_ok-size.was c.after.ensures (eqb-true _ _ (sym c.is_empty.ensures ∙ c.if-not-is_empty.false))
