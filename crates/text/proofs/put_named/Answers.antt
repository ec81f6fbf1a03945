use Rattle.std.proofs.Common.{rules}
use Rattle.text.proofs.put_named.Goals as goal
use Rattle.text.proofs.Decimal.{digit_laws}

pub returns-clause-bytes : goal.returns-clause-bytes
returns-clause-bytes c = search (digit_laws, rules)
