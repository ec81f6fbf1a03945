use Rattle.std.proofs.Common.{rules}
use Rattle.asking.proofs.open.Goals as goal
use Rattle.asking.proofs.Pieces.{open_laws}

pub is_object-requires : goal.is_object-requires
is_object-requires c = search (open_laws, rules)

pub returns-then-not-is_object : goal.returns-then-not-is_object
returns-then-not-is_object c = search (open_laws, rules)

pub ids_in-requires : goal.ids_in-requires
ids_in-requires c = search (open_laws, rules)

pub open_parts-requires : goal.open_parts-requires
open_parts-requires c = search (open_laws, rules)

pub returns-in_default : goal.returns-in_default
returns-in_default c = search (open_laws, rules)

pub returns : goal.returns
returns c = search (open_laws, rules)
