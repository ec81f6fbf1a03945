use Rattle.scan_lines.proofs.Counting.{total_is}
use Rattle.scan_lines.proofs.lengths.total_length.Goals as goal

pub returns : goal.returns
returns c = total_is c.args.scans c.args.fixed c.numbers_length.ensures.is
