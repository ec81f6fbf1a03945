-- Where an object is expanded, later and with an entry charged.
use mathlib.Core.Path.{◌≡◌}
use mathlib.Core.List.{List}
use Prim.Native.Nat.{ℕ, ◌≤◌}
use native.Mathlib.Omega.{arith}
use lib.ListN.{length}
use Rattle.steps.specs.Agreement.{Later}
use Rattle.steps.specs.declared.State.{State}
use Rattle.steps.proofs.Laws.{room-later}
use Rattle.parse.specs.Parsing.{unpaid}
use Rattle.table.specs.Words.{Same}
use Rattle.stops.proofs.Frame.{carry_z}
use Rattle.environment.proofs.Frame.{carry_e}
use Rattle.expand.specs.Leaves.{Around, RepAround, Within}
use Rattle.expand.specs.declared.Surroundings.{Surroundings}

pub carry_a : {l l' : List ℕ} {n k i z : ℕ} {e : Around} → RepAround l n i z e → Same n l l' → n ≤ k → RepAround l' k i z e
carry_a r s h = record { meant = carry_e r.meant s h; stopped = carry_z r.stopped s h }

pub within-later : {n v : ℕ} {l l1 st st1 : List ℕ} {s s1 : State} {at : Surroundings} → Within l st s at → Later n v l l1 s s1 → s1.bindings ≤ 512 → length l1 ≡ length l → length st1 ≡ length st → Within l1 st1 s1 at
within-later r p few len len2 =
    record {
      meant = r.meant;
      known = carry_a r.known p.kept p.grows;
      room = room-later r.room p len;
      held = record { few = few; wide = omega (arith, r.held.wide, len2) };
    }

-- the entry's unit is not needed for what follows
pub within-paid : {l st : List ℕ} (s : State) {at : Surroundings} → Within l st (unpaid s) at → Within l st s at
unfolding unpaid
within-paid s r =
    record {
      meant = r.meant;
      known = r.known;
      room = record { fits = omega (arith, r.room.fits); small = r.room.small; low = r.room.low };
      held = record { few = r.held.few; wide = r.held.wide };
    }
