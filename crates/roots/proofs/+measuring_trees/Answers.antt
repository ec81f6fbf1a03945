use Rattle.std.proofs.Common.{arith, refl}
use Rattle.roots.proofs.+measuring_trees.Goals as goal
use Rattle.roots.proofs.+measuring_trees.Goals.{measure_all-then-owned, measure_all-else-owned}
use Rattle.refusals.proofs.Handing.{handed_on}
use Rattle.numbers.proofs.Tails.{num_tail, below_tail}
use Rattle.numbers.proofs.Answering.{read-moved, read-within, read-fits}
use Rattle.roots.proofs.Trees.{tree_deep, tree-stops, tree-low, tree-goes, body_variable, body_application, body_function, body_atom, body_list, body_object, body_none, several-stops, several-few, several_all_stop, several-read, all-fits, tree-fits, all_read, part-stops, part-fits, part-more, function_stops, function_body_stops, function_read, around_back, still_inside, name-inside}

pub measure_all-returns-in_err-e-clause-value : goal.measure_all-returns-in_err-e-clause-value
measure_all-returns-in_err-e-clause-value t c = handed_on c.from_residual.ensures.1 (part-stops c.loop.invariant (omega arith) c.after.ensures c.measure_tree.ensures.value c.in_err-e.was)

pub measure_all-overflow_add-size : goal.measure_all-overflow_add-size
measure_all-overflow_add-size t c = part-fits c.loop.invariant (omega arith) c.after.ensures c.measure_tree.ensures.value c.in_ok-e.was c.requires.0

pub measure_all-loop-preserved : goal.measure_all-loop-preserved
measure_all-loop-preserved t c =
    part-more c.loop.invariant (omega arith) c.after.ensures c.measure_tree.ensures.value c.in_ok-e.was (omega arith) c.measure_tree.ensures.around_unchanged (elim c.if-owned.branch [
      | measure_all-then-owned w ↦ rw w.if-owned.true (cc)
      | measure_all-else-owned w ↦ rw w.if-owned.false (cc)
    ])

pub measure_all-returns-clause-value : goal.measure_all-returns-clause-value
measure_all-returns-clause-value t c = all_read c.loop.invariant refl (omega arith)

pub measure_body-returns-in-0-clause-value : goal.measure_body-returns-in-0-clause-value
measure_body-returns-in-0-clause-value t c = body_variable _ _ _ _ c.args.tag _ (omega arith) c.measure_variable.ensures

pub measure_body-returns-in-1-clause-value : goal.measure_body-returns-in-1-clause-value
measure_body-returns-in-1-clause-value t c = body_application _ _ _ _ c.args.tag _ (omega arith) c.measure_several.ensures.value

pub measure_body-returns-in-2-clause-value : goal.measure_body-returns-in-2-clause-value
measure_body-returns-in-2-clause-value t c = body_function _ _ _ _ c.args.tag _ (omega arith) c.measure_function.ensures.value

pub measure_body-returns-in-3-clause-value : goal.measure_body-returns-in-3-clause-value
measure_body-returns-in-3-clause-value t c = body_atom _ _ _ _ c.args.tag _ (omega arith) c.measure_atom.ensures

pub measure_body-returns-in-4-clause-value : goal.measure_body-returns-in-4-clause-value
measure_body-returns-in-4-clause-value t c = body_list _ _ _ _ c.args.tag _ (omega arith) c.measure_several-in-4.ensures.value

pub measure_body-returns-in-5-clause-value : goal.measure_body-returns-in-5-clause-value
measure_body-returns-in-5-clause-value t c = body_object _ _ _ _ c.args.tag _ (omega arith) c.measure_syntax.ensures

pub measure_body-returns-in_default-clause-value : goal.measure_body-returns-in_default-clause-value
measure_body-returns-in_default-clause-value t c = body_none _ _ _ _ c.args.tag _ (λ e. omega arith) (λ e. omega arith) (λ e. omega arith) (λ e. omega arith) (λ e. omega arith) (λ e. omega arith)

pub measure_function-returns-in_err-n-clause-value : goal.measure_function-returns-in_err-n-clause-value
measure_function-returns-in_err-n-clause-value t c = handed_on c.from_residual.ensures.1 (function_stops _ _ _ _ _ c.number_below.ensures c.in_err-n.was)

pub measure_function-bounds-around-i : goal.measure_function-bounds-around-i
measure_function-bounds-around-i t c = name-inside _ _ _ _ c.number_below.ensures c.in_ok-n.was c.requires.2

pub measure_function-bounds-around-i-2 : goal.measure_function-bounds-around-i-2
measure_function-bounds-around-i-2 t c = name-inside _ _ _ _ c.number_below.ensures c.in_ok-n.was c.requires.2

pub measure_function-after-requires : goal.measure_function-after-requires
measure_function-after-requires t c = (read-moved _ _ _ c.number_below.ensures c.in_ok-n.was (below_tail _ _), read-within _ _ _ c.number_below.ensures c.in_ok-n.was (below_tail _ _))

pub measure_function-bounds-around-i-3 : goal.measure_function-bounds-around-i-3
measure_function-bounds-around-i-3 t c = still_inside _ _ c.measure_tree-body.ensures.around_unchanged (name-inside _ _ _ _ c.number_below.ensures c.in_ok-n.was c.requires.2)

pub measure_function-returns-in_err-e-clause-value : goal.measure_function-returns-in_err-e-clause-value
measure_function-returns-in_err-e-clause-value t c = handed_on c.from_residual-in_err-e.ensures.1 (function_body_stops _ _ _ _ _ c.number_below.ensures c.in_ok-n.was c.after.ensures c.measure_tree-body.ensures.value c.in_err-e.was)

pub measure_function-returns-in_err-e-clause-around_unchanged : goal.measure_function-returns-in_err-e-clause-around_unchanged
measure_function-returns-in_err-e-clause-around_unchanged t c = around_back _ c.measure_tree-body.ensures.around_unchanged refl

pub measure_function-overflow_add-whole : goal.measure_function-overflow_add-whole
measure_function-overflow_add-whole t c = tree-fits _ _ _ _ _ _ c.measure_tree-body.ensures.value c.in_ok-e.was (read-fits _ _ _ c.number_below.ensures c.in_ok-n.was (below_tail _ _) c.after.ensures c.requires.0)

pub measure_function-returns-clause-value : goal.measure_function-returns-clause-value
measure_function-returns-clause-value t c = function_read _ _ _ _ _ c.number_below.ensures c.in_ok-n.was c.after.ensures c.measure_tree-body.ensures.value c.in_ok-e.was

pub measure_function-returns-clause-around_unchanged : goal.measure_function-returns-clause-around_unchanged
measure_function-returns-clause-around_unchanged t c = around_back _ c.measure_tree-body.ensures.around_unchanged refl

pub measure_several-returns-in_err-count-clause-value : goal.measure_several-returns-in_err-count-clause-value
measure_several-returns-in_err-count-clause-value t c = handed_on c.from_residual.ensures.1 (several-stops _ _ _ _ _ _ _ c.number.ensures c.in_err-count.was)

pub measure_several-returns-then-count-least-clause-value : goal.measure_several-returns-then-count-least-clause-value
measure_several-returns-then-count-least-clause-value t c = several-few _ _ _ _ _ _ _ c.number.ensures c.in_ok-count.was c.if-count-least.true

pub measure_several-after-requires : goal.measure_several-after-requires
measure_several-after-requires t c = (read-moved _ _ _ c.number.ensures c.in_ok-count.was (num_tail _), read-within _ _ _ c.number.ensures c.in_ok-count.was (num_tail _))

pub measure_several-returns-in_err-e-clause-value : goal.measure_several-returns-in_err-e-clause-value
measure_several-returns-in_err-e-clause-value t c = handed_on c.from_residual-in_err-e.ensures.1 (several_all_stop _ _ _ _ _ _ _ c.number.ensures c.in_ok-count.was c.if-count-least.false c.after.ensures c.measure_all.ensures.value c.in_err-e.was)

pub measure_several-overflow_add-whole : goal.measure_several-overflow_add-whole
measure_several-overflow_add-whole t c = all-fits _ _ _ _ _ _ _ c.measure_all.ensures.value c.in_ok-e.was (read-fits _ _ _ c.number.ensures c.in_ok-count.was (num_tail _) c.after.ensures c.requires.0)

pub measure_several-returns-clause-value : goal.measure_several-returns-clause-value
measure_several-returns-clause-value t c = several-read _ _ _ _ _ _ _ c.number.ensures c.in_ok-count.was c.if-count-least.false c.after.ensures c.measure_all.ensures.value c.in_ok-e.was

pub measure_tree-returns-then-levels-eq0-clause-value : goal.measure_tree-returns-then-levels-eq0-clause-value
measure_tree-returns-then-levels-eq0-clause-value t c = tree_deep _ _ _ _ _ _ c.if-levels-eq0.true

pub measure_tree-returns-in_err-tag-clause-value : goal.measure_tree-returns-in_err-tag-clause-value
measure_tree-returns-in_err-tag-clause-value t c = handed_on c.from_residual.ensures.1 (tree-stops _ _ _ _ _ _ c.if-levels-eq0.false c.number.ensures c.in_err-tag.was)

pub measure_tree-returns-then-tag-low-clause-value : goal.measure_tree-returns-then-tag-low-clause-value
measure_tree-returns-then-tag-low-clause-value t c = tree-low _ _ _ _ _ _ c.if-levels-eq0.false c.number.ensures c.in_ok-tag.was c.if-tag-low.true

pub measure_tree-after-requires : goal.measure_tree-after-requires
measure_tree-after-requires t c = (read-moved _ _ _ c.number.ensures c.in_ok-tag.was (num_tail _), read-within _ _ _ c.number.ensures c.in_ok-tag.was (num_tail _))

pub measure_tree-returns-clause-value : goal.measure_tree-returns-clause-value
measure_tree-returns-clause-value t c = tree-goes _ _ _ _ _ _ c.if-levels-eq0.false c.number.ensures c.in_ok-tag.was c.if-tag-low.false c.after.ensures c.measure_body.ensures.value
