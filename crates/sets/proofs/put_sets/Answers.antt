use Rattle.std.proofs.Common.{rules}
use Rattle.sets.proofs.put_sets.Goals as goal
use Rattle.sets.proofs.Writing.{set_writing}

pub put_set-second-requires : goal.put_set-second-requires
put_set-second-requires c = search (set_writing, rules)

pub put_set-third-requires : goal.put_set-third-requires
put_set-third-requires c = search (set_writing, rules)

pub put_set-requires : goal.put_set-requires
put_set-requires c = search (set_writing, rules)

pub returns-clause-past : goal.returns-clause-past
returns-clause-past c = search (set_writing, rules)

pub returns-clause-bytes : goal.returns-clause-bytes
returns-clause-bytes c = search (set_writing, rules)
