use Rattle.std.proofs.Common.{rules}
use Rattle.numbers.proofs.Cursor.number.Goals as goal
use Rattle.numbers.proofs.Reading.{number_laws}

pub returns-then-is_empty : goal.returns-then-is_empty
returns-then-is_empty c = search (number_laws, rules)

pub returns-then-b-lt128 : goal.returns-then-b-lt128
returns-then-b-lt128 c = search (number_laws, rules)

pub groups-requires : goal.groups-requires
groups-requires c = search (number_laws, rules)

pub returns : goal.returns
returns c = search (number_laws, rules)
