use Rattle.places.proofs.Passing.{passing_laws}
use Rattle.std.proofs.Common.{rules}
use Rattle.places.proofs.pass_over.Goals as goal

pub loop-pending-init : goal.loop-pending-init
loop-pending-init c = search (passing_laws, rules)

pub unreachable-requires : goal.unreachable-requires
unreachable-requires c = search (passing_laws, rules)

pub overflow_add-size : goal.overflow_add-size
overflow_add-size c = search (passing_laws, rules)

pub overflow_add-pending : goal.overflow_add-pending
overflow_add-pending c = search (passing_laws, rules)

pub loop-pending-smaller : goal.loop-pending-smaller
loop-pending-smaller c = search (passing_laws, rules)

pub loop-pending-preserved : goal.loop-pending-preserved
loop-pending-preserved c = search (passing_laws, rules)

pub returns : goal.returns
returns c = search (passing_laws, rules)
