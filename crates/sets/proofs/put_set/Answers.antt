use Rattle.std.proofs.Common.{rules}
use Rattle.sets.proofs.put_set.Goals as goal
use Rattle.sets.proofs.Writing.{set_writing}

pub put_number-first-requires : goal.put_number-first-requires
put_number-first-requires c = search (set_writing, rules)

pub put_members-requires : goal.put_members-requires
put_members-requires c = search (set_writing, rules)

pub returns-clause-past : goal.returns-clause-past
returns-clause-past c = search (set_writing, rules)

pub returns-clause-bytes : goal.returns-clause-bytes
returns-clause-bytes c = search (set_writing, rules)
