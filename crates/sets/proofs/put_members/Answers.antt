use Rattle.std.proofs.Common.{rules}
use Rattle.sets.proofs.put_members.Goals as goal
use Rattle.sets.proofs.Writing.{set_writing}

pub loop-left-init : goal.loop-left-init
loop-left-init c = search (set_writing, rules)

pub has-requires : goal.has-requires
has-requires c = search (set_writing, rules)

pub put_number-here-requires : goal.put_number-here-requires
put_number-here-requires c = search (set_writing, rules)

pub loop-left-preserved-then-has : goal.loop-left-preserved-then-has
loop-left-preserved-then-has c = search (set_writing, rules)

pub loop-left-smaller : goal.loop-left-smaller
loop-left-smaller c = search (set_writing, rules)

pub loop-left-preserved : goal.loop-left-preserved
loop-left-preserved c = search (set_writing, rules)

pub returns-clause-past : goal.returns-clause-past
returns-clause-past c = search (set_writing, rules)

pub returns-clause-bytes : goal.returns-clause-bytes
returns-clause-bytes c = search (set_writing, rules)

pub loop-left-smaller-then-has : goal.loop-left-smaller-then-has
loop-left-smaller-then-has c = search (set_writing, rules)
