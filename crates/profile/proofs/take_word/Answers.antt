use Rattle.std.proofs.Common.{rules}
use Rattle.refusals.proofs.Handing.{handed_on}
use Rattle.numbers.proofs.Answering.{answering}
use Rattle.profile.proofs.take_word.Goals as goal
use Rattle.profile.proofs.Taking.{word-stops, word-refused, word_content_stops, word-taken, head_refused, head_no_rule, head_with_rule}

pub returns-in_err-kind : goal.returns-in_err-kind
returns-in_err-kind c = handed_on c.from_residual.ensures.1 (head_refused _ _ (word-stops _ _ _ c.number.ensures c.in_err-kind.was))

pub returns-then-kind-ne-RUNG : goal.returns-then-kind-ne-RUNG
returns-then-kind-ne-RUNG c = head_refused _ _ (word-refused _ _ _ c.number.ensures c.in_ok-kind.was c.if-kind-ne-RUNG.true)

pub after-requires : goal.after-requires
after-requires c = search (answering, rules, c.in_ok-kind.was)

pub returns-in_err-word : goal.returns-in_err-word
returns-in_err-word c = handed_on c.from_residual-in_err-word.ensures.1 (head_refused _ _ (word_content_stops _ _ _ c.number.ensures c.in_ok-kind.was c.if-kind-ne-RUNG.false c.after.ensures c.number_up_to.ensures c.in_err-word.was))

pub returns-in_default : goal.returns-in_default
returns-in_default c = head_no_rule _ _ (word-taken _ _ _ c.number.ensures c.in_ok-kind.was c.if-kind-ne-RUNG.false c.after.ensures c.number_up_to.ensures c.in_ok-word.was c.of_word.ensures) c.in_default.is

pub returns : goal.returns
returns c = head_with_rule _ _ (word-taken _ _ _ c.number.ensures c.in_ok-kind.was c.if-kind-ne-RUNG.false c.after.ensures c.number_up_to.ensures c.in_ok-word.was c.of_word.ensures) c.in-Some.is
