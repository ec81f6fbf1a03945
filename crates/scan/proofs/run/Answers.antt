use Rattle.scan.proofs.Printing.{room_laws}
use Rattle.std.proofs.Common.{rules}
use Rattle.scan.proofs.run.Goals as goal

pub print-requires-clause-clear : goal.print-requires-clause-clear
print-requires-clause-clear c = search (room_laws, rules)
