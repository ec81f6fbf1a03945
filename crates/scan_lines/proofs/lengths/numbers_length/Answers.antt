use Rattle.scan_lines.proofs.Counting.{numbers-are}
use Rattle.scan_lines.proofs.lengths.numbers_length.Goals as goal

pub returns-clause-is : goal.returns-clause-is
returns-clause-is c = numbers-are c.args.n c.requires c.saturating_sub.ensures c.saturating_sub-2.ensures c.saturating_sub-3.ensures c.saturating_sub-4.ensures
