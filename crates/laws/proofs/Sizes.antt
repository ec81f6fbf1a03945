-- Every syntax object has a size.
use Prim.Native.Nat.{◌≤◌}
use native.Mathlib.Omega.{arith}
use Rattle.model.specs.Objects.{Stx, atom, list, size}

pub size-some : (x : Stx) → 1 ≤ size x
unfolding size
size-some (atom c a) = omega arith
size-some (list c l) = omega arith
