use Rattle.text_printer.proofs.AtomLaws.{atom_laws}
use Rattle.std.proofs.Common.{rules}
use Rattle.text_printer.proofs.atoms.put_atom.Goals as goal

pub put_symbol-requires : goal.put_symbol-requires
put_symbol-requires c = search (atom_laws, rules)

pub returns-then-tag-eq-SYMBOL : goal.returns-then-tag-eq-SYMBOL
returns-then-tag-eq-SYMBOL c = search (atom_laws, rules)

pub put_number-requires : goal.put_number-requires
put_number-requires c = search (atom_laws, rules)

pub returns : goal.returns
returns c = search (atom_laws, rules)
