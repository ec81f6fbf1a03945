use Rattle.std.proofs.Common.{rules}
use Rattle.text.proofs.put_decimal.Goals as goal
use Rattle.text.proofs.Decimal.{digit_laws}

pub put_number-requires : goal.put_number-requires
put_number-requires c = search (digit_laws, rules)

pub returns-clause-few : goal.returns-clause-few
returns-clause-few c = search (digit_laws, rules)
