use Rattle.std.proofs.Common.{rules}
use Rattle.term_report.proofs.Takings.{taking_laws}
use Rattle.term_report.proofs.taking.take_byte.Goals as goal

pub returns : goal.returns
returns c = search (taking_laws, rules)
