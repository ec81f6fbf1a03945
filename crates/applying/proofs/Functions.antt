-- substituted: the charge, the substitution, and the test of its nesting.
use mathlib.Core.Path.{◌≡◌, ap, ◌∙◌}
use mathlib.Core.List.{List}
use Prim.Native.Nat.{ℕ, ◌-◌, ◌≤◌, ◌<◌, min}
use native.Mathlib.Omega.{arith}
use lib.ListN.{length}
use Rattle.std.specs.Prelude.{Result, Ok, Err}
use Rattle.refusals.specs.declared.Refusal.TheVariants.{TooDeep}
use Rattle.steps.specs.declared.State.{State}
use Rattle.steps.specs.declared.Out.{Out}
use Rattle.steps.specs.declared.Stop.{Stop}
use Rattle.steps.specs.States.{state_of, stop_of, paid, raised_to, charge_of, Room}
use Rattle.steps.specs.Agreement.{Later, gives, stops}
use borrow.Author.Tests.{le-leb, lt-leb}
use Rattle.model.specs.Limits.{most_nesting}
use Rattle.model.specs.Refusals.{too_deep}
use Rattle.model.specs.Competing.{no_rivals}
use Rattle.model.specs.Steps as m
use Rattle.model.specs.Steps.{ok, no, made_tree}
use Rattle.model.specs.Trees.{Tree, tsize, tnesting, substitute}
use Rattle.table.specs.declared.Body.{Body}
use Rattle.things.specs.Rep.{Rep}
use Rattle.things.specs.Measuring.{Seen, Measured}
use Rattle.things.specs.declared.Extent.{Extent}
use Rattle.substitution.specs.Substituting as t
use Rattle.substitution.specs.Substituting.{Substituted}
use Rattle.steps.proofs.Laws.{Went, charge_went, charge_failed, charge-ok, charge-no, then_ok, then_no, unless-ok, unless-no}
use Rattle.store.specs.Sizes.{most_bindings}
use Rattle.applying.specs.Doing.{ReadyFunction, substituted_rule, Substitutes}

pub function_stops : {l : List ℕ} {s : State} {n x : ℕ} {body : Body} {g : Result State Stop} {e : Stop} → g ≡ charge_of body.size s → g ≡ Err e
    → Substitutes l l s n body x (Err e)
unfolding substituted_rule
function_stops {s = s} {body = body} {e = e} h k =
    let q = charge_failed body.size s h k in
    record { means = λ b t v p w z. stops e (rw q.is (then_no _ (charge-no (tsize t) s b (omega (arith, q.short, z))))) }

-- what is left pays for less than the size at which sizes are cut
few : {l : List ℕ} {s : State} → Room l s → s.left < 4097
few r = omega (arith, r.fits, r.small)

module _ {l : List ℕ} {s u : State} {x : ℕ} {body : Body} {g : Result State Stop} (r : ReadyFunction l s body x) (h : g ≡ charge_of body.size s) (e : g ≡ Ok u) where
  went : Went body.size s u
  went = charge_went body.size s h e

  left_is : u.left ≡ s.left - body.size
  left_is = ap (λ (y : State). y.left) went.is

  few-kept : u.bindings ≤ most_bindings
  few-kept = rw went.is r.few

  pub substitute-ready : t.ReadyToSubstitute l u.top body.at x
  substitute-ready =
      let low = few r.room in
      rw went.is (record {
        thing = r.thing;
        value = r.value;
        shown = r.shown;
        given = r.given;
        room = omega (arith, went.enough, low, r.sized, r.room.fits);
        inside = omega (arith, r.room.fits);
        small = r.room.small;
        low = r.room.low;
      })

  module _ {n : ℕ} {l1 : List ℕ} {at top1 : ℕ} (p : Substituted l l1 u.top body.at n x at top1) where
    -- what was made, and the state after it
    next : (t : Tree) → Rep l s.top body.at t → body.size ≡ min 4097 (tsize t) → (v : Tree) → Rep l s.top x v
        → Rep l1 top1 at (substitute n v t) × Later 0 0 l l1 s (raised_to top1 u)
    next t a k v c =
        let low = few r.room in
        let p2 : Substituted l l1 s.top body.at n x at top1 = rw went.is at p in
        let d = p2.means t v a c in
        (d.0, record { kept = p2.kept; grows = p2.grows; fits = omega (arith, d.1, went.enough, low, k, left_is); spent = omega (arith, went.enough, left_is) })

    pub substituted_seen : length l1 ≡ length l → Seen l1 at
    substituted_seen len =
        let d = next r.thing r.shown r.sized r.value r.given in
        record {
          top = top1;
          thing = substitute n r.value r.thing;
          shown = d.0;
          inside = omega (arith, d.1.fits, r.room.fits, len);
          small = omega (arith, r.room.small, len);
        }

    module _ {ex : Extent} (w : Measured l1 at ex) where
      pub function_deep : {a : Result Out Stop} → 64 < ex.nesting → a ≡ Err (stop_of TooDeep u) → Substitutes l l1 s n body x a
      unfolding substituted_rule made_tree most_nesting
      function_deep k same =
          rw same
          (let low = few r.room in
          record {
            means = λ b t v a c z.
                let d = next t a z v c in
                let deep : 64 < tnesting (substitute n v t) = omega (arith, k, (w.means top1 (substitute n v t) d.0).nesting) in
                stops (stop_of TooDeep u)
                (then_ok _ (charge-ok (tsize t) s b (omega (arith, went.enough, low, z)))
                ∙ then_no _ (unless-no too_deep (state_of (paid (tsize t) s) b) (lt-leb (tnesting (substitute n v t)) 64 deep))
                ∙ ap (λ (j : ℕ). no too_deep no_rivals j) (omega (arith, went.enough, low, z, left_is)));
          })

      pub function_done : {z : State} → ex.nesting ≤ 64 → z ≡ raised_to top1 u → Substitutes l l1 s n body x (Ok (record { at = at; state = z }))
      unfolding substituted_rule made_tree most_nesting
      function_done flat same =
          let low = few r.room in
          rw same (record {
            means = λ b t v c d z.
                let y = next t c z v d in
                let nest : tnesting (substitute n v t) ≤ 64 = omega (arith, flat, (w.means top1 (substitute n v t) y.0).nesting) in
                let on : state_of (paid (tsize t) s) b ≡ state_of (raised_to top1 u) b = rw went.is (ap (λ (j : ℕ). state_of (paid j s) b) (omega (arith, went.enough, low, z))) in
                gives (record { at = at; state = raised_to top1 u }) (record {
                  value = substitute n v t;
                  is =
                      then_ok _ (charge-ok (tsize t) s b (omega (arith, went.enough, low, z)))
                      ∙ then_ok _ (unless-ok too_deep (state_of (paid (tsize t) s) b) (le-leb (tnesting (substitute n v t)) 64 nest))
                      ∙ ap (λ (j : m.State). ok (substitute n v t) j) on;
                  shown = record { rep = y.0; few = few-kept };
                  later = y.1;
                });
          })

pub ruleset functions = (function_stops, substitute-ready, substituted_seen, function_deep, function_done)
