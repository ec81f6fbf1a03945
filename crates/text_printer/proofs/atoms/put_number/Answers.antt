use Rattle.std.proofs.Common.{rules}
use Rattle.text_printer.proofs.AtomLaws.{number_laws}
use Rattle.text_printer.proofs.atoms.put_number.Goals as goal

pub put_number-requires : goal.put_number-requires
put_number-requires c = search (number_laws, rules)

pub put_marked-requires : goal.put_marked-requires
put_marked-requires c = search (number_laws, rules)

pub put_marked-requires-in-3 : goal.put_marked-requires-in-3
put_marked-requires-in-3 c = search (number_laws, rules)

pub bounds-out-at : goal.bounds-out-at
bounds-out-at c = search (number_laws, rules)

pub put_rung-requires : goal.put_rung-requires
put_rung-requires c = search (number_laws, rules)

pub returns-in-1 : goal.returns-in-1
returns-in-1 c = search (number_laws, rules)

pub returns-in-2 : goal.returns-in-2
returns-in-2 c = search (number_laws, rules)

pub returns-in-3 : goal.returns-in-3
returns-in-3 c = search (number_laws, rules)

pub returns-in_default : goal.returns-in_default
returns-in_default c = search (number_laws, rules)
