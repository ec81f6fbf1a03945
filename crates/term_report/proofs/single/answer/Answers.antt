use Rattle.std.proofs.Common.{rules}
use Rattle.term_report.proofs.Singles.{single_line, single-code}
use Rattle.term_report.proofs.single.answer.Goals as goal

pub returns-clause-is : goal.returns-clause-is
returns-clause-is c = single_line _ _ _ (search rules) c.meirhuppa_expand-a.ensures

pub returns-clause-listed : goal.returns-clause-listed
returns-clause-listed c = single-code _ _ _ (search rules) c.meirhuppa_expand-a.ensures
