use Rattle.std.proofs.Common.{arith, refl}
use Rattle.roots.proofs.objects.+measuring_objects.Goals as goal
use Rattle.refusals.proofs.Handing.{handed_on}
use Rattle.numbers.proofs.Tails.{num_tail}
use Rattle.numbers.proofs.Answering.{read-moved, read-within, read-fits}
use Rattle.roots.proofs.ObjectSizes.{top_tail}
use Rattle.roots.proofs.ObjectLaws.{object_deep, object-stops, object-list, atom-stops, atom-read, list-stops, list_parts_stop, list_read, parts-small, parts-read, part-stops, part-fits, part-more}

pub measure_list-returns-in_err-count : goal.measure_list-returns-in_err-count
measure_list-returns-in_err-count t c = handed_on c.from_residual.ensures.1 (list-stops _ _ _ _ _ c.number.ensures c.in_err-count.was)

pub measure_list-after-requires : goal.measure_list-after-requires
measure_list-after-requires t c = (read-moved _ _ _ c.number.ensures c.in_ok-count.was (num_tail _), read-within _ _ _ c.number.ensures c.in_ok-count.was (num_tail _))

pub measure_list-returns-in_err-size : goal.measure_list-returns-in_err-size
measure_list-returns-in_err-size t c = handed_on c.from_residual-in_err-size.ensures.1 (list_parts_stop _ _ _ _ _ c.number.ensures c.in_ok-count.was c.after.ensures c.measure_parts.ensures c.in_err-size.was)

pub measure_list-overflow_add-result : goal.measure_list-overflow_add-result
measure_list-overflow_add-result t c = parts-small _ _ _ _ _ _ c.measure_parts.ensures c.in_ok-size.was (read-fits _ _ _ c.number.ensures c.in_ok-count.was (num_tail _) c.after.ensures c.requires.0)

pub measure_list-returns : goal.measure_list-returns
measure_list-returns t c = list_read _ _ _ _ _ c.number.ensures c.in_ok-count.was c.after.ensures c.measure_parts.ensures c.in_ok-size.was

pub measure_object-returns-then-levels-eq0 : goal.measure_object-returns-then-levels-eq0
measure_object-returns-then-levels-eq0 t c = object_deep _ _ _ _ _ (omega arith)

pub measure_object-returns-in_err-tag : goal.measure_object-returns-in_err-tag
measure_object-returns-in_err-tag t c = handed_on c.from_residual.ensures.1 (object-stops _ _ _ _ _ (λ z. omega arith) c.read_top.ensures c.in_err-tag.was)

pub measure_object-after-rest-requires : goal.measure_object-after-rest-requires
measure_object-after-rest-requires t c = (read-moved _ _ _ c.read_top.ensures c.in_ok-tag.was (top_tail _ _), read-within _ _ _ c.read_top.ensures c.in_ok-tag.was (top_tail _ _))

pub measure_object-returns-then-tag-eq5 : goal.measure_object-returns-then-tag-eq5
measure_object-returns-then-tag-eq5 t c = object-list _ _ _ _ _ (λ z. omega arith) c.read_top.ensures c.in_ok-tag.was c.after-rest.ensures c.if-tag-eq5.true c.measure_list.ensures

pub measure_object-returns-in_err-end : goal.measure_object-returns-in_err-end
measure_object-returns-in_err-end t c = handed_on c.from_residual-in_err-end.ensures.1 (atom-stops _ _ _ _ _ (λ z. omega arith) c.read_top.ensures c.in_ok-tag.was c.after-rest.ensures c.if-tag-eq5.false c.read_content.ensures c.in_err-end.was)

pub measure_object-returns : goal.measure_object-returns
measure_object-returns t c = atom-read _ _ _ _ _ (λ z. omega arith) c.read_top.ensures c.in_ok-tag.was c.after-rest.ensures c.if-tag-eq5.false c.read_content.ensures c.in_ok-end.was

pub measure_parts-returns-in_err-size : goal.measure_parts-returns-in_err-size
measure_parts-returns-in_err-size t c = handed_on c.from_residual.ensures.1 (part-stops c.loop.invariant (omega arith) c.after.ensures c.measure_object.ensures c.in_err-size.was)

pub measure_parts-overflow_add-sum : goal.measure_parts-overflow_add-sum
measure_parts-overflow_add-sum t c = part-fits c.loop.invariant (omega arith) c.after.ensures c.measure_object.ensures c.in_ok-size.was c.requires.0

pub measure_parts-loop-preserved : goal.measure_parts-loop-preserved
measure_parts-loop-preserved t c = part-more c.loop.invariant (omega arith) c.after.ensures c.measure_object.ensures c.in_ok-size.was (omega arith)

pub measure_parts-returns : goal.measure_parts-returns
measure_parts-returns t c = parts-read c.loop.invariant refl (omega arith)
