use Rattle.std.proofs.Common.{rules}
use Rattle.text_printer.proofs.FrontLaws.{value_laws}
use Rattle.text_printer.proofs.fronts.value_at.Goals as goal

pub returns-in-Ok : goal.returns-in-Ok
returns-in-Ok c = search (value_laws, rules)

pub returns-in-Err : goal.returns-in-Err
returns-in-Err c = search (value_laws, rules)
