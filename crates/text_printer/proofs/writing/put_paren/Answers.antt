use Rattle.text_printer.proofs.TextLaws.{paren_laws}
use Rattle.std.proofs.Common.{rules}
use Rattle.text_printer.proofs.writing.put_paren.Goals as goal

pub put_space-behind-requires : goal.put_space-behind-requires
put_space-behind-requires c = search (paren_laws, rules)

pub bounds-out-behind : goal.bounds-out-behind
bounds-out-behind c = search (paren_laws, rules)

pub overflow_add-result : goal.overflow_add-result
overflow_add-result c = search (paren_laws, rules)

pub returns : goal.returns
returns c = search (paren_laws, rules)
