use Rattle.std.proofs.Common.{rules}
use Rattle.tokens.proofs.DecimalLaws.{numeral_laws}
use Rattle.tokens.proofs.decimals.numeral.Goals as goal

pub returns-in-empty : goal.returns-in-empty
returns-in-empty c = search (numeral_laws, rules)

pub returns-in-len1 : goal.returns-in-len1
returns-in-len1 c = search (numeral_laws, rules)

pub returns-in-48 : goal.returns-in-48
returns-in-48 c = search (numeral_laws, rules)

pub returns-in_default : goal.returns-in_default
returns-in_default c = search (numeral_laws, rules)
