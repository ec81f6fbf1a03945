use Rattle.std.proofs.Common.{rules}
use Rattle.text_printer.proofs.TextLaws.{writing_laws}
use Rattle.text_printer.proofs.writing.put_all.Goals as goal

pub loop-step-init : goal.loop-step-init
loop-step-init c = search (writing_laws, rules)

pub put_paren-to-requires : goal.put_paren-to-requires
put_paren-to-requires c = search (writing_laws, rules)

pub put_paren-to-requires-in-Close : goal.put_paren-to-requires-in-Close
put_paren-to-requires-in-Close c = search (writing_laws, rules)

pub put_spaced-to-requires : goal.put_spaced-to-requires
put_spaced-to-requires c = search (writing_laws, rules)

pub loop-step-preserved-in-Open : goal.loop-step-preserved-in-Open
loop-step-preserved-in-Open c = search (writing_laws, rules)

pub loop-step-preserved-in-Close : goal.loop-step-preserved-in-Close
loop-step-preserved-in-Close c = search (writing_laws, rules)

pub loop-step-preserved : goal.loop-step-preserved
loop-step-preserved c = search (writing_laws, rules)

pub returns : goal.returns
returns c = search (writing_laws, rules)
