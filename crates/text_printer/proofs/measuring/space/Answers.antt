use Rattle.text_printer.proofs.TextLaws.{space_laws}
use Rattle.std.proofs.Common.{rules}
use Rattle.text_printer.proofs.measuring.space.Goals as goal

pub returns-then-due : goal.returns-then-due
returns-then-due c = search (space_laws, rules)

pub returns-else-due : goal.returns-else-due
returns-else-due c = search (space_laws, rules)
