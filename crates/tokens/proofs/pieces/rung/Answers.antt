use Rattle.std.proofs.Common.{rules}
use Rattle.tokens.proofs.PieceLaws.{rung_laws}
use Rattle.tokens.proofs.pieces.rung.Goals as goal

pub returns-in-Some : goal.returns-in-Some
returns-in-Some c = search (rung_laws, rules)

pub returns-in-Ok-6-to-15 : goal.returns-in-Ok-6-to-15
returns-in-Ok-6-to-15 c = search (rung_laws, rules)

pub returns-in_default-read_decimal : goal.returns-in_default-read_decimal
returns-in_default-read_decimal c = search (rung_laws, rules)

pub returns-in_default-read_decimal-2 : goal.returns-in_default-read_decimal-2
returns-in_default-read_decimal-2 c = search (rung_laws, rules)

pub returns-in_default-read_decimal-3 : goal.returns-in_default-read_decimal-3
returns-in_default-read_decimal-3 c = search (rung_laws, rules)
