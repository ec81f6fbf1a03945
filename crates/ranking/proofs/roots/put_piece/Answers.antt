use Rattle.ranking.proofs.SetLaws.{piece_laws}
use Rattle.std.proofs.Common.{rules}
use Rattle.ranking.proofs.roots.put_piece.Goals as goal

pub put_number-second-requires : goal.put_number-second-requires
put_number-second-requires c = search (piece_laws, rules)

pub put_sets-third-requires : goal.put_sets-third-requires
put_sets-third-requires c = search (piece_laws, rules)

pub put_number-requires : goal.put_number-requires
put_number-requires c = search (piece_laws, rules)

pub returns : goal.returns
returns c = search (piece_laws, rules)
