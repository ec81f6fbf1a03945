use Rattle.std.proofs.Common.{rules}
use Rattle.numbers.proofs.put_number.Goals as goal
use Rattle.numbers.proofs.Writing.{writing_laws}

pub loop-v-init : goal.loop-v-init
loop-v-init c = search (writing_laws, rules)

pub bounds-out-i : goal.bounds-out-i
bounds-out-i c = search (writing_laws, rules)

pub loop-v-preserved : goal.loop-v-preserved
loop-v-preserved c = search (writing_laws, rules)

pub bounds-out-i-2 : goal.bounds-out-i-2
bounds-out-i-2 c = search (writing_laws, rules)

pub returns-clause-past : goal.returns-clause-past
returns-clause-past c = search (writing_laws, rules)

pub returns-clause-bytes : goal.returns-clause-bytes
returns-clause-bytes c = search (writing_laws, rules)
