use Rattle.std.proofs.Common.{rules}
use Rattle.numbers.proofs.number_len.Goals as goal
use Rattle.numbers.proofs.Writing.{writing_laws}

pub returns-then-n-lt128 : goal.returns-then-n-lt128
returns-then-n-lt128 c = search (writing_laws, rules)

pub returns-then-n-lt16384 : goal.returns-then-n-lt16384
returns-then-n-lt16384 c = search (writing_laws, rules)

pub returns-then-n-lt2097152 : goal.returns-then-n-lt2097152
returns-then-n-lt2097152 c = search (writing_laws, rules)

pub returns-then-n-lt268435456 : goal.returns-then-n-lt268435456
returns-then-n-lt268435456 c = search (writing_laws, rules)

pub returns-else-n-lt268435456 : goal.returns-else-n-lt268435456
returns-else-n-lt268435456 c = search (writing_laws, rules)
