use Rattle.std.proofs.Common.{rules}
use Rattle.text.proofs.digit.Goals as goal
use Rattle.text.proofs.Hexadecimal.{hex_laws}

pub returns-then-d-lt10 : goal.returns-then-d-lt10
returns-then-d-lt10 c = search (hex_laws, rules)

pub returns-else-d-lt10 : goal.returns-else-d-lt10
returns-else-d-lt10 c = search (hex_laws, rules)
