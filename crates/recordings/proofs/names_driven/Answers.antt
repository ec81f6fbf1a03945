use Rattle.std.proofs.Common.{rules}
use Rattle.recordings.proofs.Checking.{marked_now}
use Rattle.recordings.proofs.names_driven.Goals as goal

pub returns-else-before : goal.returns-else-before
returns-else-before c = search (marked_now, rules)
