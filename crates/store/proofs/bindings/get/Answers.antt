use Rattle.store.specs.Words.{bind_at}
use Rattle.store.proofs.bindings.get.Goals as goal
use Rattle.store.proofs.Runs.{bind_eq}

pub returns : goal.returns
unfolding bind_at
returns c = bind_eq c.half.ensures c.half-2.ensures c.get_set.ensures
