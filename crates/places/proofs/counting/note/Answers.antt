use Rattle.places.proofs.Noting.{noting_laws}
use Rattle.std.proofs.Common.{rules}
use Rattle.places.proofs.counting.note.Goals as goal
use Rattle.places.proofs.counting.note.Goals.{then-t-ne-VARIABLE-via-then-t-ne-VARIABLE, then-t-ne-VARIABLE-via-else-t-ne-VARIABLE+then-names-t}

pub returns-then-t-ne-VARIABLE : goal.returns-then-t-ne-VARIABLE
returns-then-t-ne-VARIABLE c = elim c.then-t-ne-VARIABLE.branch [
  | then-t-ne-VARIABLE-via-then-t-ne-VARIABLE w ↦ search (noting_laws, rules)
  | then-t-ne-VARIABLE-via-else-t-ne-VARIABLE+then-names-t w ↦ search (noting_laws, rules)
]

pub returns-then-words-i-eq1 : goal.returns-then-words-i-eq1
returns-then-words-i-eq1 c = search (noting_laws, rules)

pub returns-else-words-i-eq1 : goal.returns-else-words-i-eq1
returns-else-words-i-eq1 c = search (noting_laws, rules)
