use Rattle.store.proofs.sets.get_set.Goals as goal
use native.Mathlib.Omega.{arith}
use Rattle.store.proofs.Lying.{set_there}

pub returns : goal.returns
returns c = set_there _ _ _ _ _ (omega arith) (omega arith) (omega arith)
