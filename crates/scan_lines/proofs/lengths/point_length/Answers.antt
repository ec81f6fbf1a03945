use Rattle.std.proofs.Common.{rules}
use Rattle.scan_lines.proofs.Counting.{mark_laws}
use Rattle.scan_lines.proofs.lengths.point_length.Goals as goal

pub returns-then-mark-eq0-clause-is : goal.returns-then-mark-eq0-clause-is
returns-then-mark-eq0-clause-is c = search (mark_laws, rules)

pub returns-else-mark-eq0-clause-is : goal.returns-else-mark-eq0-clause-is
returns-else-mark-eq0-clause-is c = search (mark_laws, rules)
