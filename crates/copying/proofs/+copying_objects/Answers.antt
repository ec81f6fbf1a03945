use Rattle.std.proofs.Common.{rules}
use Rattle.copying.proofs.+copying_objects.Goals as goal
use Rattle.copying.proofs.Reaching.{laws}

pub copy_each-loop-part-init : goal.copy_each-loop-part-init
copy_each-loop-part-init t c = search (laws, rules)

pub copy_each-get_cell-cell-requires : goal.copy_each-get_cell-cell-requires
copy_each-get_cell-cell-requires t c = search (laws, rules)

pub copy_each-copy_object-copy-requires : goal.copy_each-copy_object-copy-requires
copy_each-copy_object-copy-requires t c = search (laws, rules)

pub copy_each-loop-part-smaller : goal.copy_each-loop-part-smaller
copy_each-loop-part-smaller t c = search (laws, rules)

pub copy_each-loop-part-preserved : goal.copy_each-loop-part-preserved
copy_each-loop-part-preserved t c = search (laws, rules)

pub copy_each-returns : goal.copy_each-returns
copy_each-returns t c = search (laws, rules)

pub copy_object-get_node-node-requires : goal.copy_object-get_node-node-requires
copy_object-get_node-node-requires t c = search (laws, rules)

pub copy_object-get_sets-sets-requires : goal.copy_object-get_sets-sets-requires
copy_object-get_sets-sets-requires t c = search (laws, rules)

pub copy_object-put_copy-requires : goal.copy_object-put_copy-requires
copy_object-put_copy-requires t c = search (laws, rules)

pub copy_object-returns-then-node-ne-LIST : goal.copy_object-returns-then-node-ne-LIST
copy_object-returns-then-node-ne-LIST t c = search (laws, rules)

pub copy_object-overflow_sub-levels : goal.copy_object-overflow_sub-levels
copy_object-overflow_sub-levels t c = search (laws, rules)

pub copy_object-copy_each-end-requires : goal.copy_object-copy_each-end-requires
copy_object-copy_each-end-requires t c = search (laws, rules)

pub copy_object-link_each-parts-requires : goal.copy_object-link_each-parts-requires
copy_object-link_each-parts-requires t c = search (laws, rules)

pub copy_object-put_copy-requires-2 : goal.copy_object-put_copy-requires-2
copy_object-put_copy-requires-2 t c = search (laws, rules)

pub copy_object-returns : goal.copy_object-returns
copy_object-returns t c = search (laws, rules)
