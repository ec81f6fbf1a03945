use Rattle.store.proofs.carried.get.Goals as goal
use Rattle.store.proofs.Carrying.{both-got}

pub returns : goal.returns
returns c = both-got _ c.get_set.ensures c.get_set-2.ensures
