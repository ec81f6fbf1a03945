use Rattle.store.proofs.bindings.insert.Goals as goal
use native.Mathlib.Omega.{arith}
use Rattle.store.proofs.Runs.{inserted}

pub returns : goal.returns
returns c = inserted _ _ _ _ _ _ (omega arith)
    c.place-i.ensures
    c.shift.ensures c.put.ensures
