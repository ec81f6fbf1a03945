use Rattle.places.proofs.Walking.{tally_laws}
use Rattle.std.proofs.Common.{rules}
use Rattle.places.proofs.counting.tally.Goals as goal

pub loop-place-init : goal.loop-place-init
loop-place-init c = search (tally_laws, rules)

pub returns-in_default : goal.returns-in_default
returns-in_default c = search (tally_laws, rules)

pub note-requires : goal.note-requires
note-requires c = search (tally_laws, rules)

pub loop-place-preserved : goal.loop-place-preserved
loop-place-preserved c = search (tally_laws, rules)

pub returns : goal.returns
returns c = search (tally_laws, rules)
