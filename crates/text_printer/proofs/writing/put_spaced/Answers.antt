use Rattle.text_printer.proofs.TextLaws.{spaced_laws}
use Rattle.std.proofs.Common.{rules}
use Rattle.text_printer.proofs.writing.put_spaced.Goals as goal

pub put_space-behind-requires : goal.put_space-behind-requires
put_space-behind-requires c = search (spaced_laws, rules)

pub put_atom-requires : goal.put_atom-requires
put_atom-requires c = search (spaced_laws, rules)

pub returns : goal.returns
returns c = search (spaced_laws, rules)
