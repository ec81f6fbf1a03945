use Rattle.std.proofs.Common.{rules}
use Rattle.term_report.proofs.Files.{file_laws}
use Rattle.term_report.proofs.file.put_report.Goals as goal

pub returns-clause-is : goal.returns-clause-is
returns-clause-is c = search (file_laws, rules)
