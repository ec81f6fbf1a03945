use Rattle.text_printer.proofs.AtomLaws.{marked_laws}
use Rattle.std.proofs.Common.{rules}
use Rattle.text_printer.proofs.atoms.put_marked.Goals as goal

pub bounds-out-at : goal.bounds-out-at
bounds-out-at c = search (marked_laws, rules)

pub overflow_add-at : goal.overflow_add-at
overflow_add-at c = search (marked_laws, rules)

pub put_number-requires : goal.put_number-requires
put_number-requires c = search (marked_laws, rules)

pub returns : goal.returns
returns c = search (marked_laws, rules)
