use Rattle.std.proofs.Common.{rules}
use Rattle.numbers.proofs.Cursor.+groups.Goals as goal
use Rattle.numbers.proofs.Reading.{number_laws}

pub returns-then-is_empty : goal.returns-then-is_empty
returns-then-is_empty t c = search (number_laws, rules)

pub returns-then-b-gt15 : goal.returns-then-b-gt15
returns-then-b-gt15 t c = search (number_laws, rules)

pub returns-then-b-ne0 : goal.returns-then-b-ne0
returns-then-b-ne0 t c = search (number_laws, rules)

pub returns-then-left-eq0 : goal.returns-then-left-eq0
returns-then-left-eq0 t c = search (number_laws, rules)

pub returns-then-b-eq0 : goal.returns-then-b-eq0
returns-then-b-eq0 t c = search (number_laws, rules)

pub returns-then-b-lt128 : goal.returns-then-b-lt128
returns-then-b-lt128 t c = search (number_laws, rules)

pub groups-requires : goal.groups-requires
groups-requires t c = search (number_laws, rules)

pub returns : goal.returns
returns t c = search (number_laws, rules)
