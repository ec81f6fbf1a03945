use Rattle.std.proofs.Common.{rules}
use Rattle.tokens.proofs.PieceLaws.{piece_laws, word_laws, bad_laws}
use Rattle.tokens.proofs.pieces.read_piece.Goals as goal
use Rattle.tokens.proofs.pieces.read_piece.Goals.{in_default-via-then-w-lt1, in_default-via-else-w-lt1+in_default+then-w-lt48, in_default-via-else-w-lt1+in_default+else-w-lt48+else-w-lt58}

pub returns-in-64 : goal.returns-in-64
returns-in-64 c = search (piece_laws, rules)

pub returns-in-35 : goal.returns-in-35
returns-in-35 c = search (piece_laws, rules)

pub returns-in-39 : goal.returns-in-39
returns-in-39 c = search (piece_laws, rules)

pub returns-in-48-to-57 : goal.returns-in-48-to-57
returns-in-48-to-57 c = search (piece_laws, rules)

pub returns-in_default : goal.returns-in_default
returns-in_default c =
    elim c.in_default.branch [
      | in_default-via-then-w-lt1 w ↦ search (word_laws, rules)
      | in_default-via-else-w-lt1+in_default+then-w-lt48 w ↦ search (word_laws, rules)
      | in_default-via-else-w-lt1+in_default+else-w-lt48+else-w-lt58 w ↦ search (word_laws, rules)
    ]

pub returns-in_default-2 : goal.returns-in_default-2
returns-in_default-2 c =
    elim c.in_default.branch [
      | in_default-via-then-w-lt1 w ↦ search (bad_laws, rules)
      | in_default-via-else-w-lt1+in_default+then-w-lt48 w ↦ search (bad_laws, rules)
      | in_default-via-else-w-lt1+in_default+else-w-lt48+else-w-lt58 w ↦ search (bad_laws, rules)
    ]
