use Rattle.std.proofs.Common.{rules}
use Rattle.asking.proofs.naming.stop_named.Goals as goal
use Rattle.asking.proofs.Stopping.{named_laws}

pub has_meaning-requires : goal.has_meaning-requires
has_meaning-requires c = search (named_laws, rules)

pub returns-then-not-has_meaning : goal.returns-then-not-has_meaning
returns-then-not-has_meaning c = search (named_laws, rules)

pub stop-requires-2 : goal.stop-requires-2
stop-requires-2 c = search (named_laws, rules)

pub returns : goal.returns
returns c = search (named_laws, rules)
