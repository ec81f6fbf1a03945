-- What the laws of several primitives use.
use mathlib.Core.Path.{◌≡◌, refl, ◌∙◌}
use mathlib.Core.List.{List}
use mathlib.Core.Option.{Option, none, some}
use Prim.Native.Nat.{ℕ, ◌+◌, ◌≤◌}
use native.Mathlib.Omega.{arith}
use lib.ListN.{length}
use Rattle.std.specs.Prelude.{Some}
use Rattle.model.specs.Choice.{given}
use Rattle.model.specs.Trees.{Tree}
use Rattle.table.proofs.Laws.{same_refl}
use Rattle.table.specs.declared.Node.{Node}
use Rattle.things.specs.Rep.{Rep}
use Rattle.things.specs.Making.{Roomy, Stored}
use Rattle.things.specs.declared.Made.{Made}
use Rattle.things.proofs.Frame.{below}
use Rattle.primitives.specs.Working.{ReadyToApply, Pieced, piece}
use Rattle.table.specs.Sizes.{node_size}

pub node-room : {l : List ℕ} {top x : ℕ} → ReadyToApply l top x → Roomy l top node_size
node-room r = record { fits = omega (arith, r.room.fits); small = r.room.small; low = r.room.low }

pub read-inside : {l : List ℕ} {top x : ℕ} → ReadyToApply l top x → x + node_size ≤ length l
read-inside r = omega (arith, below r.shown, r.room.fits)

-- a value that is there already
pub found : {l : List ℕ} {top : ℕ} {q : Option Tree} (at : ℕ) (v : Tree) → q ≡ some v → Rep l top at v → Pieced l l top q (Some (record { at = at; top = top }))
found {l} {top} at v e r = piece (record { at = at; top = top }) v e r (same_refl top l) (omega arith) (omega arith)

-- a value that is one node more
pub added : {l l1 : List ℕ} {top : ℕ} {q : Option Tree} {n : Node} {m : Made} (v : Tree) → q ≡ some v → Rep l1 m.top m.at v → Stored l l1 top n m.at m.top → Pieced l l1 top q (Some m)
added {m = m} v e r s = piece m v e r s.kept (omega (arith, s.grows)) (omega (arith, s.grows))

-- a node known otherwise
pub renamed : {l l1 : List ℕ} {top at top1 : ℕ} {n o : Node} → n ≡ o → Stored l l1 top n at top1 → Stored l l1 top o at top1
renamed e s = record { kept = s.kept; place = s.place; grows = s.grows; node = s.node ∙ e }

pub given-none : {A : Type 0} (q : Option A) → given {B = Tree} q (λ x. none) ≡ none
given-none none = refl
given-none (some a) = refl
