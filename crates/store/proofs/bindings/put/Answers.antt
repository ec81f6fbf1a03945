use Rattle.std.proofs.Common.{rules}
use Rattle.store.proofs.bindings.put.Goals as goal
use native.Mathlib.Omega.{arith}
use Rattle.store.proofs.Runs.{put_is}

pub returns : goal.returns
returns c = put_is _ _ _ c.args.b (omega arith) c.from.ensures c.from-2.ensures (omega arith) (omega arith) c.put_set.ensures (search rules)
