use Rattle.scan.proofs.Printing.{prepared_laws}
use Rattle.std.proofs.Common.{rules}
use Rattle.scan.proofs.lines.print_prepared.Goals as goal

pub print_scans-requires : goal.print_scans-requires
print_scans-requires g c = search (prepared_laws, rules)
