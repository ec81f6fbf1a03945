use Rattle.std.proofs.Common.{rules}
use Rattle.text_printer.proofs.TextLaws.{measuring_laws}
use Rattle.text_printer.proofs.measuring.text_len.Goals as goal

pub loop-len-init : goal.loop-len-init
loop-len-init c = search (measuring_laws, rules)

pub returns-in_default-clause-measured : goal.returns-in_default-clause-measured
returns-in_default-clause-measured c = search (measuring_laws, rules)

pub overflow_add-len : goal.overflow_add-len
overflow_add-len c = search (measuring_laws, rules)

pub overflow_add-len-in-Open : goal.overflow_add-len-in-Open
overflow_add-len-in-Open c = search (measuring_laws, rules)

pub atom_len-requires : goal.atom_len-requires
atom_len-requires c = search (measuring_laws, rules)

pub overflow_add-len-in-Atom : goal.overflow_add-len-in-Atom
overflow_add-len-in-Atom c = search (measuring_laws, rules)

pub overflow_add-len-in-Atom-2 : goal.overflow_add-len-in-Atom-2
overflow_add-len-in-Atom-2 c = search (measuring_laws, rules)

pub loop-len-preserved-in-Open : goal.loop-len-preserved-in-Open
loop-len-preserved-in-Open c = search (measuring_laws, rules)

pub loop-len-preserved-in-Close : goal.loop-len-preserved-in-Close
loop-len-preserved-in-Close c = search (measuring_laws, rules)

pub loop-len-preserved : goal.loop-len-preserved
loop-len-preserved c = search (measuring_laws, rules)
