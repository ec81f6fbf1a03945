-- A change at a charge: one law for each way out, whatever the change.
use mathlib.Core.Path.{◌≡◌, sym, ap, ◌∙◌}
use mathlib.Core.List.{List}
use Prim.Native.Nat.{ℕ, ◌-◌, ◌<◌}
use native.Mathlib.Omega.{arith}
use Rattle.std.specs.Prelude.{Result, Ok, Err}
use Rattle.table.specs.Sizes.{most_size}
use Rattle.model.specs.Objects.{Stx, size}
use Rattle.model.specs.Trees.{stx}
use Rattle.model.specs.Steps.{ok}
use Rattle.laws.proofs.Sizes.{size-some}
use Rattle.steps.specs.States.{state_of, paid, raised_to, charge_of}
use Rattle.steps.specs.Agreement.{gives, stops}
use Rattle.steps.specs.declared.State.{State}
use Rattle.steps.specs.declared.Stop.{Stop}
use Rattle.steps.proofs.Laws.{Went, charge_went, charge_failed, charge-ok, charge-no, then_ok, then_no}
use Rattle.things.specs.Measuring.{Seen, Measured}
use Rattle.things.specs.declared.Extent.{Extent}
use Rattle.things.specs.declared.Made.{Made}
use Rattle.things.proofs.Measuring.{charged-size, covered_size}
use Rattle.copying.specs.Copying.{Copyable, Copied}
use Rattle.scoping.specs.Changing.{ReadyObject, change_rule, Changes}

pub object-seen : {l : List ℕ} {s : State} {i : ℕ} → ReadyObject l s i → Seen l i
object-seen {s = s} r = record { top = s.top; thing = stx r.thing; shown = r.shown; inside = omega (arith, r.room.fits); small = r.room.small }

module _ {l : List ℕ} {s : State} {i : ℕ} {ex : Extent} (k : Measured l i ex) {y : Result State Stop} (f : y ≡ charge_of ex.weight s) (r : ReadyObject l s i) where
  few-left : s.left < most_size
  few-left = omega (arith, r.room.fits, r.room.small, r.room.low)

  pub change-short : {g : Stx → Stx} {t : Stop} → y ≡ Err t → Changes g l l s i (Err t)
  unfolding change_rule
  change-short e =
      let q = charge_failed ex.weight s f e in
      record { means = λ b x w. rw q.is (stops _ (then_no _ (charge-no (size x) s b (omega (arith, q.short, few-left, charged-size k x w))))) }

  module _ {u : State} (e : y ≡ Ok u) where
    went : Went ex.weight s u
    went = charge_went ex.weight s f e

    pub change-ready : Copyable l u.top i
    change-ready =
        let n : ex.weight ≡ size r.thing = covered_size k few-left went.enough r.thing r.shown in
        rw went.is (record { thing = r.thing; shown = r.shown; charged = omega (arith, n, went.enough, few-left); room = omega (arith, r.room.fits, went.enough, n); small = r.room.small; low = r.room.low })

    pub change-made : (g : Stx → Stx) {l1 : List ℕ} {at : Made} {z : State} → Copied (λ x. stx (g x)) l l1 u.top i at.at at.top → z ≡ raised_to at.top u
        → Changes g l l1 s i (Ok (record { at = at.at; state = z }))
    unfolding change_rule
    change-made g {l1} {at} {z} v j =
        let ut : u.top ≡ s.top = ap (λ (y : State). y.top) went.is in
        let uu : u.left ≡ s.left - ex.weight = ap (λ (y : State). y.left) went.is in
        let ub : u.bindings ≡ s.bindings = ap (λ (y : State). y.bindings) went.is in
        let v2 : Copied (λ x. stx (g x)) l l1 s.top i at.at at.top = rw ut at v in
        record {
          means = λ b x w.
              let n : ex.weight ≡ size x = covered_size k few-left went.enough x w in
              let q = v2.means x w in
              let same : state_of (paid (size x) s) b ≡ state_of u b = rw went.is (ap (λ (k : ℕ). state_of (paid k s) b) (sym n)) in
              rw j (gives (record { at = at.at; state = raised_to at.top u }) (record {
                value = g x;
                is = then_ok _ (charge-ok (size x) s b (omega (arith, n, went.enough))) ∙ ap (ok (g x)) same;
                shown = record { rep = q.shown; few = omega (arith, ub, r.few) };
                later = record { kept = v2.kept; grows = v2.grows; fits = omega (arith, q.room, uu, n, went.enough, size-some x); spent = omega (arith, uu, n, went.enough, size-some x) };
              }));
        }

pub ruleset laws = (object-seen, change-short, change-ready, change-made)
