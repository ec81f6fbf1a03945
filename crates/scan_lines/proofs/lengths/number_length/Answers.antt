use Rattle.std.proofs.Common.{rules}
use Rattle.scan_lines.proofs.Counting.{number_laws}
use Rattle.scan_lines.proofs.lengths.number_length.Goals as goal

pub returns-in-0-to-9-clause-is : goal.returns-in-0-to-9-clause-is
returns-in-0-to-9-clause-is c = search (number_laws, rules)

pub returns-in-0-to-99-clause-is : goal.returns-in-0-to-99-clause-is
returns-in-0-to-99-clause-is c = search (number_laws, rules)

pub returns-in-0-to-999-clause-is : goal.returns-in-0-to-999-clause-is
returns-in-0-to-999-clause-is c = search (number_laws, rules)

pub returns-in_default-clause-is : goal.returns-in_default-clause-is
returns-in_default-clause-is c = search (number_laws, rules)
