use Rattle.std.proofs.Common.{rules}
use Rattle.tokens.proofs.PieceLaws.{mark_laws}
use Rattle.tokens.proofs.pieces.numbered.Goals as goal

pub returns-in-Ok : goal.returns-in-Ok
returns-in-Ok c = search (mark_laws, rules)

pub returns-in-Err-NoNumeral : goal.returns-in-Err-NoNumeral
returns-in-Err-NoNumeral c = search (mark_laws, rules)

pub returns-in-Ok-2 : goal.returns-in-Ok-2
returns-in-Ok-2 c = search (mark_laws, rules)

pub returns-in-Ok-2-2 : goal.returns-in-Ok-2-2
returns-in-Ok-2-2 c = search (mark_laws, rules)
