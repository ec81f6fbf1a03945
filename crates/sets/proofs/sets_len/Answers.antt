use Rattle.std.proofs.Common.{rules}
use Rattle.sets.proofs.sets_len.Goals as goal
use Rattle.sets.proofs.Writing.{set_writing}

pub returns-clause-value : goal.returns-clause-value
returns-clause-value c = search (set_writing, rules)
