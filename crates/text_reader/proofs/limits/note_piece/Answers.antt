use Rattle.std.proofs.Common.{rules}
use Rattle.text_reader.proofs.LimitLaws.{piece_laws}
use Rattle.text_reader.proofs.limits.note_piece.Goals as goal

pub returns-then-to-from-gt-MOST_LENGTH : goal.returns-then-to-from-gt-MOST_LENGTH
returns-then-to-from-gt-MOST_LENGTH c = search (piece_laws, rules)

pub returns-in-Over : goal.returns-in-Over
returns-in-Over c = search (piece_laws, rules)

pub returns-in-Bad : goal.returns-in-Bad
returns-in-Bad c = search (piece_laws, rules)
