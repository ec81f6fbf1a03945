use Rattle.std.proofs.Common.{rules}
use Rattle.asking.proofs.fit_to_bind.Goals as goal
use Rattle.asking.proofs.Answering.{binder_laws}

pub returns : goal.returns
returns c = search (binder_laws, rules)
