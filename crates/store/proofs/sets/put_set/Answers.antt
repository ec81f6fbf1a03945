use Rattle.store.proofs.sets.put_set.Goals as goal
use native.Mathlib.Omega.{arith}
use native.Mathlib.Numerals.{towards_suc}
use Rattle.store.proofs.Lying.{set_put}

pub returns : goal.returns
returns c = set_put _ _ _ (omega arith) (simp towards_suc)
