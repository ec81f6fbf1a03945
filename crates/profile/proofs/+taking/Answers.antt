use Rattle.std.proofs.Common.{rules, refl, ap, ℕ, set}
use Rattle.refusals.proofs.Handing.{handed_on}
use Rattle.numbers.proofs.Answering.{answering}
use Rattle.roots.proofs.Trees.{name-inside, around_back, still_inside}
use Rattle.profile.proofs.+taking.Goals as goal
use Rattle.profile.proofs.Taking.{tree_laws, tree-stops, tree-goes, application_stops, application_empty, head-stops, application_goes, head_number_stops, head-bit, head-word, head-none, bit-stops, bit_body_stops, bit-taken, first_stops, arguments_go, head-moved, head-within, part-stops, head_refused, head_no_rule, head_with_rule}

pub take_all-returns-in_err-here-clause-value : goal.take_all-returns-in_err-here-clause-value
take_all-returns-in_err-here-clause-value t c = handed_on c.from_residual.ensures.1 (part-stops c.loop.invariant c.loop-test.true c.after.ensures c.take_tree.ensures.value c.in_err-here.was)

pub take_all-loop-preserved : goal.take_all-loop-preserved
take_all-loop-preserved t c = search (tree_laws, rules, c.in_ok-here.was)

pub take_all-returns-clause-value : goal.take_all-returns-clause-value
take_all-returns-clause-value t c = search (tree_laws, rules)

pub take_application-returns-in_err-count-clause-value : goal.take_application-returns-in_err-count-clause-value
take_application-returns-in_err-count-clause-value t c = handed_on c.from_residual.ensures.1 (application_stops _ _ _ _ _ _ c.number.ensures c.in_err-count.was)

pub take_application-returns-then-count-eq0-clause-value : goal.take_application-returns-then-count-eq0-clause-value
take_application-returns-then-count-eq0-clause-value t c = application_empty _ _ _ _ _ _ c.number.ensures c.in_ok-count.was c.if-count-eq0.true

pub take_application-after-rest-requires : goal.take_application-after-rest-requires
take_application-after-rest-requires t c = search (answering, rules, c.in_ok-count.was)

pub take_application-returns-in_err-rule-clause-value : goal.take_application-returns-in_err-rule-clause-value
take_application-returns-in_err-rule-clause-value t c = handed_on c.from_residual-in_err-rule.ensures.1 (head-stops _ _ _ _ _ _ c.number.ensures c.in_ok-count.was c.if-count-eq0.false c.after-rest.ensures c.take_head.ensures.value c.in_err-rule.was)

pub take_application-after-requires : goal.take_application-after-requires
take_application-after-requires t c = (
  head-moved _ _ _ _ _ _ c.take_head.ensures.value c.in_ok-rule.was,
  head-within _ _ _ _ _ _ c.take_head.ensures.value c.in_ok-rule.was,
)

pub take_application-returns-clause-value : goal.take_application-returns-clause-value
take_application-returns-clause-value t c = application_goes _ _ _ _ _ _ c.number.ensures c.in_ok-count.was c.if-count-eq0.false c.after-rest.ensures c.take_head.ensures.value c.in_ok-rule.was c.after.ensures c.take_head.ensures.around_unchanged c.take_arguments.ensures.value

pub take_arguments-returns-then-not-takes_count-clause-value : goal.take_arguments-returns-then-not-takes_count-clause-value
take_arguments-returns-then-not-takes_count-clause-value t c = search (tree_laws, rules)

pub take_arguments-returns-in_err-past-clause-value : goal.take_arguments-returns-in_err-past-clause-value
take_arguments-returns-in_err-past-clause-value t c = handed_on c.from_residual.ensures.1 (first_stops _ _ _ _ _ _ _ c.takes_count.ensures c.if-not-takes_count.false refl c.take_tree.ensures.value c.in_err-past.was)

pub take_arguments-after-requires : goal.take_arguments-after-requires
take_arguments-after-requires t c = search (tree_laws, rules, c.in_ok-past.was)

pub take_arguments-overflow_sub-count : goal.take_arguments-overflow_sub-count
take_arguments-overflow_sub-count t c = search (tree_laws, rules)

pub take_arguments-returns-clause-value : goal.take_arguments-returns-clause-value
take_arguments-returns-clause-value t c = arguments_go _ _ _ _ _ _ _ c.takes_count.ensures c.if-not-takes_count.false refl c.take_tree.ensures.value c.in_ok-past.was c.after.ensures refl c.take_tree.ensures.around_unchanged c.take_all.ensures.value

pub take_bit-returns-in_err-n-clause-value : goal.take_bit-returns-in_err-n-clause-value
take_bit-returns-in_err-n-clause-value t c = handed_on c.from_residual.ensures.1 (head_refused _ _ (bit-stops _ _ _ _ _ _ c.number_below.ensures c.in_err-n.was))

pub take_bit-bounds-around-i : goal.take_bit-bounds-around-i
take_bit-bounds-around-i t c = search (name-inside, rules, c.in_ok-n.was)

pub take_bit-after-requires : goal.take_bit-after-requires
take_bit-after-requires t c = search (answering, rules, c.in_ok-n.was)

pub take_bit-bounds-around-i-2 : goal.take_bit-bounds-around-i-2
take_bit-bounds-around-i-2 t c = search (still_inside, name-inside, rules, c.in_ok-n.was)

pub take_bit-returns-in_err-end-clause-value : goal.take_bit-returns-in_err-end-clause-value
take_bit-returns-in_err-end-clause-value t c = handed_on c.from_residual-in_err-end.ensures.1 (head_refused _ _ (bit_body_stops _ _ _ _ _ _ c.number_below.ensures c.in_ok-n.was c.after.ensures (ap (λ (v : ℕ). set c.args.around.now c.in_ok-n.n v) c.replace-before.ensures.after) c.take_tree-body.ensures.value c.in_err-end.was))

pub take_bit-returns-in_err-end-clause-around_unchanged : goal.take_bit-returns-in_err-end-clause-around_unchanged
take_bit-returns-in_err-end-clause-around_unchanged t c = search (around_back, rules)

pub take_bit-returns-clause-value : goal.take_bit-returns-clause-value
take_bit-returns-clause-value t c = head_with_rule _ _ (bit-taken _ _ _ _ _ _ c.number_below.ensures c.in_ok-n.was c.after.ensures (ap (λ (v : ℕ). set c.args.around.now c.in_ok-n.n v) c.replace-before.ensures.after) c.take_tree-body.ensures.value c.in_ok-end.was c.of_bit.ensures) c.in-Some.is

pub take_bit-returns-in_default-clause-value : goal.take_bit-returns-in_default-clause-value
take_bit-returns-in_default-clause-value t c = head_no_rule _ _ (bit-taken _ _ _ _ _ _ c.number_below.ensures c.in_ok-n.was c.after.ensures (ap (λ (v : ℕ). set c.args.around.now c.in_ok-n.n v) c.replace-before.ensures.after) c.take_tree-body.ensures.value c.in_ok-end.was c.of_bit.ensures) c.in_default.is

pub take_bit-returns-in_default-clause-around_unchanged : goal.take_bit-returns-in_default-clause-around_unchanged
take_bit-returns-in_default-clause-around_unchanged t c = search (around_back, rules)

pub take_bit-returns-clause-around_unchanged : goal.take_bit-returns-clause-around_unchanged
take_bit-returns-clause-around_unchanged t c = search (around_back, rules)

pub take_body-returns-in-0-clause-value : goal.take_body-returns-in-0-clause-value
take_body-returns-in-0-clause-value t c = search (tree_laws, rules)

pub take_body-returns-in-1-clause-value : goal.take_body-returns-in-1-clause-value
take_body-returns-in-1-clause-value t c = search (tree_laws, rules)

pub take_body-returns-in-3-clause-value : goal.take_body-returns-in-3-clause-value
take_body-returns-in-3-clause-value t c = search (tree_laws, rules)

pub take_body-returns-in_default-clause-value : goal.take_body-returns-in_default-clause-value
take_body-returns-in_default-clause-value t c = search (tree_laws, rules)

pub take_head-returns-then-levels-eq0-clause-value : goal.take_head-returns-then-levels-eq0-clause-value
take_head-returns-then-levels-eq0-clause-value t c = search (tree_laws, rules)

pub take_head-returns-in_err-tag-clause-value : goal.take_head-returns-in_err-tag-clause-value
take_head-returns-in_err-tag-clause-value t c = handed_on c.from_residual.ensures.1 (head_number_stops _ _ _ _ _ _ c.if-levels-eq0.false c.number.ensures c.in_err-tag.was)

pub take_head-after-rest-requires : goal.take_head-after-rest-requires
take_head-after-rest-requires t c = search (answering, rules, c.in_ok-tag.was)

pub take_head-returns-in-2-clause-value : goal.take_head-returns-in-2-clause-value
take_head-returns-in-2-clause-value t c = head-bit _ _ _ _ _ _ c.if-levels-eq0.false c.number.ensures c.in_ok-tag.was c.in-2.is c.after-rest.ensures c.take_bit.ensures.value

pub take_head-returns-in-3-clause-value : goal.take_head-returns-in-3-clause-value
take_head-returns-in-3-clause-value t c = head-word _ _ _ _ _ _ c.if-levels-eq0.false c.number.ensures c.in_ok-tag.was c.in-3.is c.after-rest.ensures c.take_word.ensures

pub take_head-returns-in_default-clause-value : goal.take_head-returns-in_default-clause-value
take_head-returns-in_default-clause-value t c = search (head-none, rules, c.in_ok-tag.was)

pub take_tree-returns-then-levels-eq0-clause-value : goal.take_tree-returns-then-levels-eq0-clause-value
take_tree-returns-then-levels-eq0-clause-value t c = search (tree_laws, rules)

pub take_tree-returns-in_err-tag-clause-value : goal.take_tree-returns-in_err-tag-clause-value
take_tree-returns-in_err-tag-clause-value t c = handed_on c.from_residual.ensures.1 (tree-stops _ _ _ _ _ _ c.if-levels-eq0.false c.number.ensures c.in_err-tag.was)

pub take_tree-after-requires : goal.take_tree-after-requires
take_tree-after-requires t c = search (answering, rules, c.in_ok-tag.was)

pub take_tree-returns-clause-value : goal.take_tree-returns-clause-value
take_tree-returns-clause-value t c = tree-goes _ _ _ _ _ _ c.if-levels-eq0.false c.number.ensures c.in_ok-tag.was c.after.ensures c.take_body.ensures.value
