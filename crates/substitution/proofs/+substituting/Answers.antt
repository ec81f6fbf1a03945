use Rattle.std.proofs.Common.{rules}
use Rattle.substitution.proofs.+substituting.Goals as goal
use Rattle.substitution.proofs.Laws.{laws}
use Rattle.substitution.proofs.Parts.{parts_laws}

pub substitute-returns-then-n-x : goal.substitute-returns-then-n-x
substitute-returns-then-n-x t c = search (laws, rules)

pub substitute-returns-else-n-x : goal.substitute-returns-else-n-x
substitute-returns-else-n-x t c = search (laws, rules)

pub substitute-returns-in-7 : goal.substitute-returns-in-7
substitute-returns-in-7 t c = search (laws, rules)

pub substitute-returns-in-9 : goal.substitute-returns-in-9
substitute-returns-in-9 t c = search (laws, rules)

pub substitute-returns-then-x-n : goal.substitute-returns-then-x-n
substitute-returns-then-x-n t c = search (laws, rules)

pub substitute-returns-else-x-n : goal.substitute-returns-else-x-n
substitute-returns-else-x-n t c = search (laws, rules)

pub substitute-returns-in_default : goal.substitute-returns-in_default
substitute-returns-in_default t c = search (laws, rules)

pub substitute-substitute_list-requires : goal.substitute-substitute_list-requires
substitute-substitute_list-requires t c = search (laws, rules)

pub substitute-substitute_list-requires-in-9 : goal.substitute-substitute_list-requires-in-9
substitute-substitute_list-requires-in-9 t c = search (laws, rules)

pub substitute-substitute_body-requires : goal.substitute-substitute_body-requires
substitute-substitute_body-requires t c = search (laws, rules)

pub substitute_body-make_function-requires : goal.substitute_body-make_function-requires
substitute_body-make_function-requires t c = search (laws, rules)

pub substitute_body-returns : goal.substitute_body-returns
substitute_body-returns t c = search (laws, rules)

pub substitute_list-make-requires : goal.substitute_list-make-requires
substitute_list-make-requires t c = search (laws, rules)

pub substitute_list-returns : goal.substitute_list-returns
substitute_list-returns t c = search (laws, rules)

pub substitute_parts-loop-from-init : goal.substitute_parts-loop-from-init
substitute_parts-loop-from-init t c = search (parts_laws, rules)

pub substitute_parts-substitute-h-requires : goal.substitute_parts-substitute-h-requires
substitute_parts-substitute-h-requires t c = search (parts_laws, rules)

pub substitute_parts-link-m-requires : goal.substitute_parts-link-m-requires
substitute_parts-link-m-requires t c = search (parts_laws, rules)

pub substitute_parts-loop-from-smaller : goal.substitute_parts-loop-from-smaller
substitute_parts-loop-from-smaller t c = search (parts_laws, rules)

pub substitute_parts-loop-from-preserved : goal.substitute_parts-loop-from-preserved
substitute_parts-loop-from-preserved t c = search (parts_laws, rules)

pub substitute_parts-turn-requires : goal.substitute_parts-turn-requires
substitute_parts-turn-requires t c = search (parts_laws, rules)

pub substitute_parts-returns : goal.substitute_parts-returns
substitute_parts-returns t c = search (parts_laws, rules)
